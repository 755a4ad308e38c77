use Rattle.std.proofs.Common.{◌≡◌, drop}
use Rattle.std.specs.List.{list_any}
use Rattle.cfa_edit_proof.specs.Clashes.{wants_field}
use Rattle.cfa_edit_proof.proofs.pairs.wants_any.Given as goal

abbrev pub invariant-loop-line : goal.invariant-loop-line
invariant-loop-line l =
    (list_any (λ line. wants_field l.fn.matcher l.separator l.number l.value line) (drop l.line-index l.line-items)
    ≡ list_any (λ line. wants_field l.fn.matcher l.separator l.number l.value line) l.block)
    × (l.matcher ≡ l.fn.matcher)
