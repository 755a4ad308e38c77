use Rattle.std.proofs.Common.{◌≡◌, drop, map}
use Rattle.cfa_statuses.specs.Raised.{greater_in}
use Rattle.cfa_tree.specs.Plain.{plain_expr}
use Rattle.cfa_tree.specs.Tree.{expr_trees}
use Rattle.cfa_defines.specs.FirstMaybe.{first_maybe_among}
use Rattle.cfa_defines.proofs.maybes.+naming.Given as goal

abbrev pub invariant-first_maybe_among-loop-part : goal.invariant-first_maybe_among-loop-part
invariant-first_maybe_among-loop-part l =
    first_maybe_among (expr_trees (map plain_expr (drop l.part-index l.parts))) (greater_in l.global l.local)
    ≡ first_maybe_among (expr_trees (map plain_expr l.parts)) (greater_in l.global l.local)
