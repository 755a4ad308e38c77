use Rattle.std.proofs.Common.{◌≡◌, drop, map}
use Rattle.cfa_tree.specs.Plain.{plain_expr}
use Rattle.cfa_tree.specs.Tree.{expr_trees}
use Rattle.cfa_printer.specs.SameExpr.{same_exprs}
use Rattle.cfa_printer.proofs.guards.+comparing.Given as goal

abbrev pub invariant-same_exprs-loop-i : goal.invariant-same_exprs-loop-i
invariant-same_exprs-loop-i l =
    same_exprs (expr_trees (map plain_expr (drop l.i l.parts))) (expr_trees (map plain_expr (drop l.i l.others)))
    ≡ same_exprs (expr_trees (map plain_expr l.parts)) (expr_trees (map plain_expr l.others))
