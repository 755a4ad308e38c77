use Rattle.cfa_edits.specs.declared.edits.Edit.TheVariants.{Insert}
use Rattle.cfa_edits.specs.declared.edits.Spot.{Spot}
use Rattle.cfa_edit_proof.specs.Steps.{NoneClash}
use Rattle.cfa_edit_proof.proofs.search.first_replacing.Given as goal

abbrev pub invariant-loop-place : goal.invariant-loop-place
invariant-loop-place l = (spot : Spot) → NoneClash (Insert l.block spot) l.edits l.start l.place
