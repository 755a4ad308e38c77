use Rattle.std.proofs.Common.{take, map}
use Rattle.cfa_tree.specs.Plain.{plain_block}
use Rattle.cfa_served.specs.Indexed.{AnswersPlaces}
use Rattle.cfa_served.proofs.index.first_places.Given as goal

-- the table answers for the blocks so far
abbrev pub invariant-loop-place : goal.invariant-loop-place
invariant-loop-place l = AnswersPlaces l.wanted l.places (map plain_block (take l.place l.blocks))
