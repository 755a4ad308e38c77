use Rattle.std.proofs.Common.{◌≡◌, drop}
use Rattle.std.specs.List.{list_any}
use Rattle.cfa_base.specs.Patterns.{matches_in}
use Rattle.cfa_edit_proof.proofs.pairs.matches_any.Given as goal

abbrev pub invariant-loop-line : goal.invariant-loop-line
invariant-loop-line l =
    (list_any (λ line. matches_in l.fn.matcher line) (drop l.line-index l.line-items) ≡ list_any (λ line. matches_in l.fn.matcher line) l.block)
    × (l.matcher ≡ l.fn.matcher)
