use Rattle.std.proofs.Common.{◌≡◌, false}
use Rattle.std.specs.List.{AllWithin}
use Rattle.cfa_edit_proof.specs.Steps.{is_replace}
use Rattle.cfa_edit_proof.proofs.search.first_replace.Given as goal

abbrev pub invariant-loop-place : goal.invariant-loop-place
invariant-loop-place l = AllWithin (λ edit. is_replace edit ≡ false) l.edits 0 l.place
