-- What a variant with a `Vec` is as a tree, by the items of that `Vec`; and the values of the tree of a list.
use Rattle.std.proofs.Common.{◌≡◌, ℕ, List, [], ◌∷◌, refl, ap, ◌∙◌, map}
use Rattle.std.specs.declared.alloc.Global.{Global}
use Rattle.std.specs.declared.boxed.Box.{Box}
use Rattle.std.specs.declared.vec.Vec.{Vec}
use Rattle.cfa_base.specs.declared.places.Place.{Place}
use Rattle.cfa_tree.specs.declared.expressions.Expr.{Expr, Not, And, Or, Row_of-Expr, end_of-Expr, more_of-Expr, items-the_row-Expr, items_hidden-the_row-Expr-0}
use Rattle.cfa_tree.specs.declared.expressions.Expr.TheBlock.{hidden-the_row-Expr-0}
use Rattle.cfa_tree.specs.declared.values.Value.{Value, List as Listed, Call as Called, Row_of-Value, end_of-Value, more_of-Value, items-the_row-Value, items_hidden-the_row-Value-0}
use Rattle.cfa_tree.specs.declared.values.Value.TheBlock.{hidden-the_row-Value-0}
use Rattle.cfa_tree.specs.Plain.{plain_expr, plain_exprs, plain_value, plain_values}
use Rattle.cfa_tree.specs.Tree.{ValueTree, negated, all_of, one_of, ExprTrees, more_exprs, expr_trees, list, call, more_values, value_trees, values_in}

-- the expressions of some parts
abbrev pub plain_parts : List Expr → ExprTrees
plain_parts parts = expr_trees (map plain_expr parts)

pub plain_exprs-row : {m : _} (row : Row_of-Expr m) → plain_exprs row ≡ expr_trees (map plain_expr (items-the_row-Expr m row))
plain_exprs-row end_of-Expr = refl
plain_exprs-row (more_of-Expr e rest) = ap (more_exprs (plain_expr e)) (plain_exprs-row rest)

pub plain_expr-And : (parts : Vec Expr Global) → plain_expr (And parts) ≡ all_of (expr_trees (map plain_expr parts.items))
plain_expr-And parts =
    ap all_of (plain_exprs-row (hidden-the_row-Expr-0 parts) ∙ ap (λ es. expr_trees (map plain_expr es)) (items_hidden-the_row-Expr-0 parts))

pub plain_expr-Or : (parts : Vec Expr Global) → plain_expr (Or parts) ≡ one_of (expr_trees (map plain_expr parts.items))
plain_expr-Or parts =
    ap one_of (plain_exprs-row (hidden-the_row-Expr-0 parts) ∙ ap (λ es. expr_trees (map plain_expr es)) (items_hidden-the_row-Expr-0 parts))

pub plain_values-row : {m : _} (row : Row_of-Value m) → plain_values row ≡ value_trees (map plain_value (items-the_row-Value m row))
plain_values-row end_of-Value = refl
plain_values-row (more_of-Value v rest) = ap (more_values (plain_value v)) (plain_values-row rest)

pub values_in_trees : (vs : List ValueTree) → values_in (value_trees vs) ≡ vs
values_in_trees [] = refl
values_in_trees (v ∷ vs) = ap (λ rest. v ∷ rest) (values_in_trees vs)

pub plain_value-List : (items : Vec Value Global) (place : Place) → plain_value (Listed items place) ≡ list (value_trees (map plain_value items.items)) place
plain_value-List items place =
    ap (λ vs. list vs place) (plain_values-row (hidden-the_row-Value-0 items) ∙ ap (λ vs. value_trees (map plain_value vs)) (items_hidden-the_row-Value-0 items))

pub plain_value-Call : (name : List ℕ) (arguments : Vec Value Global) (place : Place) → plain_value (Called name arguments place) ≡ call name (value_trees (map plain_value arguments.items)) place
plain_value-Call name arguments place =
    ap (λ vs. call name vs place) (plain_values-row (hidden-the_row-Value-0 arguments) ∙ ap (λ vs. value_trees (map plain_value vs)) (items_hidden-the_row-Value-0 arguments))

pub plain_expr-Not : (inner : Box Expr Global) → plain_expr (Not inner) ≡ negated (plain_expr inner.value)
plain_expr-Not inner = refl
