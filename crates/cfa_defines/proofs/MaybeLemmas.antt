-- The first Maybe class of an expression, by its parts.
use Rattle.std.proofs.Common.{◌≡◌, ◌∙◌, ℕ, List, ap, map}
use Rattle.std.specs.declared.alloc.Global.{Global}
use Rattle.std.specs.declared.vec.Vec.{Vec}
use Rattle.cfa_tree.specs.declared.expressions.Expr.{Expr, And, Or}
use Rattle.cfa_tree.specs.Plain.{plain_expr}
use Rattle.cfa_tree.specs.Tree.{expr_trees}
use Rattle.cfa_tree.specs.lemmas.Rows.{plain_expr-And, plain_expr-Or}
use Rattle.cfa_statuses.specs.declared.levels.Status.{Status}
use Rattle.cfa_defines.specs.FirstMaybe.{first_maybe, first_maybe_among}

module _ (status : List ℕ → Status) where
  pub maybe_of_all : (e : Expr) (parts : Vec Expr Global) → e ≡ And parts → first_maybe (plain_expr e) status ≡ first_maybe_among (expr_trees (map plain_expr parts.items)) status
  maybe_of_all e parts is = ap (λ x. first_maybe (plain_expr x) status) is ∙ ap (λ t. first_maybe t status) (plain_expr-And parts)

  pub maybe_of_one : (e : Expr) (parts : Vec Expr Global) → e ≡ Or parts → first_maybe (plain_expr e) status ≡ first_maybe_among (expr_trees (map plain_expr parts.items)) status
  maybe_of_one e parts is = ap (λ x. first_maybe (plain_expr x) status) is ∙ ap (λ t. first_maybe t status) (plain_expr-Or parts)
