use Rattle.std.proofs.Common.{◌≡◌, drop}
use Rattle.cfa_tree.specs.Plain.{plain_expr}
use Rattle.cfa_tree.specs.lemmas.Rows.{plain_parts}
use Rattle.cfa_statuses.specs.Raised.{greater_in}
use Rattle.cfa_statuses.specs.Status.{lesser, greater, value_of, least_of, greatest_of}
use Rattle.cfa_statuses.proofs.valuing.+value.Given as goal

abbrev pub invariant-loop-part : goal.invariant-loop-part
invariant-loop-part l =
    lesser l.least (least_of (plain_parts (drop l.part-index l.part-items)) (greater_in l.global l.local))
    ≡ value_of (plain_expr l.expr) (greater_in l.global l.local)

abbrev pub invariant-loop-part-2 : goal.invariant-loop-part-2
invariant-loop-part-2 l =
    greater l.greatest (greatest_of (plain_parts (drop l.part-index l.part-items)) (greater_in l.global l.local))
    ≡ value_of (plain_expr l.expr) (greater_in l.global l.local)
