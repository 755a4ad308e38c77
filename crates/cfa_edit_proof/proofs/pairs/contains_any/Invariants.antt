use Rattle.std.proofs.Common.{◌≡◌, drop}
use Rattle.std.specs.List.{list_any}
use Rattle.cfa_edit_proof.specs.Plain.{contains}
use Rattle.cfa_edit_proof.proofs.pairs.contains_any.Given as goal

abbrev pub invariant-loop-line : goal.invariant-loop-line
invariant-loop-line l = list_any (λ line. contains line l.text) (drop l.line-index l.line-items) ≡ list_any (λ line. contains line l.text) l.block
