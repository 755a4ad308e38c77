use Rattle.std.proofs.Common.{◌≡◌, ℕ, List, take}
use Rattle.cfa_edits.specs.Edits.{is_among}
use Rattle.cfa_edits.specs.Steps.{has_line, blocks_of}
use Rattle.cfa_edits.proofs.inserting.add_blocks.Given as goal

abbrev pub invariant-loop-edit : goal.invariant-loop-edit
invariant-loop-edit l = (line : List ℕ) → has_line l.lines line ≡ is_among (blocks_of (take l.edit-index l.edits)) line
