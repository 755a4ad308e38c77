-- The first class, in text order, that an expression names and that may be set or not.
use Rattle.std.specs.Prelude.{ℕ, List, Option, Some, None}
use Rattle.std.specs.Option.{option_or}
use Rattle.cfa_tree.specs.Tree.{ExprTree, class, negated, all_of, one_of, ExprTrees, no_expr, more_exprs}
use Rattle.cfa_statuses.specs.declared.levels.Status.{Status}
use Rattle.cfa_statuses.specs.declared.levels.Status.TheVariants.{No, Maybe, Yes}

abbrev pub if_maybe : List ℕ → Status → Option (List ℕ)
if_maybe name No = None
if_maybe name Maybe = Some name
if_maybe name Yes = None

abbrev mutual
  -- the first Maybe class of an expression, in text order
  pub first_maybe : ExprTree → (List ℕ → Status) → Option (List ℕ)
  first_maybe (class name) status = if_maybe name (status name)
  first_maybe (negated e) status = first_maybe e status
  first_maybe (all_of es) status = first_maybe_among es status
  first_maybe (one_of es) status = first_maybe_among es status

  pub first_maybe_among : ExprTrees → (List ℕ → Status) → Option (List ℕ)
  first_maybe_among no_expr status = None
  first_maybe_among (more_exprs e es) status = option_or (first_maybe e status) (first_maybe_among es status)

abbrev pub first_maybe_of_guard : Option ExprTree → (List ℕ → Status) → Option (List ℕ)
first_maybe_of_guard None status = None
first_maybe_of_guard (Some guard) status = first_maybe guard status
