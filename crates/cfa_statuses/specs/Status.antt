-- No is less than Maybe, and Maybe is less than Yes. The value of a class expression, where each class has a status,
-- swaps No and Yes for `!`, takes the least for `.` and the greatest for `|`; of none the least is Yes and the greatest
-- No.
use Rattle.std.specs.Prelude.{ℕ, List}
use Rattle.cfa_tree.specs.Tree.{ExprTree, class, negated, all_of, one_of, ExprTrees, no_expr, more_exprs}
use Rattle.cfa_statuses.specs.declared.levels.Status.{Status}
use Rattle.cfa_statuses.specs.declared.levels.Status.TheVariants.{No, Maybe, Yes}

abbrev pub swapped : Status → Status
swapped No = Yes
swapped Maybe = Maybe
swapped Yes = No

abbrev pub lesser : Status → Status → Status
lesser No b = No
lesser Maybe No = No
lesser Maybe Maybe = Maybe
lesser Maybe Yes = Maybe
lesser Yes b = b

abbrev pub greater : Status → Status → Status
greater No b = b
greater Maybe No = Maybe
greater Maybe Maybe = Maybe
greater Maybe Yes = Yes
greater Yes b = Yes

abbrev mutual
  pub value_of : ExprTree → (List ℕ → Status) → Status
  value_of (class name) status = status name
  value_of (negated e) status = swapped (value_of e status)
  value_of (all_of es) status = least_of es status
  value_of (one_of es) status = greatest_of es status

  pub least_of : ExprTrees → (List ℕ → Status) → Status
  least_of no_expr status = Yes
  least_of (more_exprs e es) status = lesser (value_of e status) (least_of es status)

  pub greatest_of : ExprTrees → (List ℕ → Status) → Status
  greatest_of no_expr status = No
  greatest_of (more_exprs e es) status = greater (value_of e status) (greatest_of es status)
