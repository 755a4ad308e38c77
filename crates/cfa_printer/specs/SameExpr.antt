-- Whether two class expressions are the same, part by part: whether a guard differs from the one before it.
use Rattle.std.specs.Prelude.{Bool, true, false, ◌&&◌, Option, Some, None}
use Rattle.std.specs.Str.{bytes_eq}
use Rattle.cfa_tree.specs.Tree.{ExprTree, class, negated, all_of, one_of, ExprTrees, no_expr, more_exprs}

abbrev mutual
  pub same_expr : ExprTree → ExprTree → Bool
  same_expr (class a) (class b) = bytes_eq a b
  same_expr (negated a) (negated b) = same_expr a b
  same_expr (all_of es) (all_of fs) = same_exprs es fs
  same_expr (one_of es) (one_of fs) = same_exprs es fs
  same_expr _ _ = false

  pub same_exprs : ExprTrees → ExprTrees → Bool
  same_exprs no_expr no_expr = true
  same_exprs (more_exprs a es) (more_exprs b fs) = same_expr a b && same_exprs es fs
  same_exprs _ _ = false

-- both none, or the same expression
abbrev pub same_guard : Option ExprTree → Option ExprTree → Bool
same_guard None None = true
same_guard (Some a) (Some b) = same_expr a b
same_guard _ _ = false
