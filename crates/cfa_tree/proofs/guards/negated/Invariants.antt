use Rattle.std.proofs.Common.{◌≡◌}
use Rattle.cfa_tree.specs.Plain.{plain_expr}
use Rattle.cfa_tree.specs.Guards.{negated_by}
use Rattle.cfa_tree.proofs.guards.negated.Given as goal

abbrev pub invariant-loop-i : goal.invariant-loop-i
invariant-loop-i l = plain_expr l.inner ≡ negated_by l._i (plain_expr l.fn.expr)
