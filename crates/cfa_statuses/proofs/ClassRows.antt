-- Expressions whose values are known, where the class `a` has a status and every other class is No.
use Rattle.std.proofs.Common.{◌≡◌, [], ◌∷◌, cond, codes, refl}
use Rattle.std.specs.Str.{bytes_eq}
use Rattle.cfa_tree.specs.Tree.{ExprTree, class, negated, all_of, one_of, no_expr, expr_trees}
use Rattle.cfa_statuses.specs.declared.levels.Status.{Status}
use Rattle.cfa_statuses.specs.declared.levels.Status.TheVariants.{No, Maybe, Yes}
use Rattle.cfa_statuses.specs.Status.{value_of}

abbrev with_a : Status → ExprTree → Status
with_a status e = value_of e (λ name. cond (bytes_eq name (codes "a")) status No)

abbrev a : ExprTree
a = class (codes "a")

abbrev b : ExprTree
b = class (codes "b")

abbrev c : ExprTree
c = class (codes "c")

abbrev both : ExprTree → ExprTree → ExprTree
both e f = all_of (expr_trees (e ∷ f ∷ []))

abbrev either : ExprTree → ExprTree → ExprTree
either e f = one_of (expr_trees (e ∷ f ∷ []))

pub not_a_or_b : with_a Yes (either (negated a) b) ≡ No
not_a_or_b = refl

pub not_both : with_a Yes (negated (both a b)) ≡ Yes
not_both = refl

pub both_or_a : with_a Yes (either (both a b) a) ≡ Yes
both_or_a = refl

pub a_or_both : with_a Yes (either a (both b c)) ≡ Yes
a_or_both = refl

pub maybe_a_or_not_a : with_a Maybe (either a (negated a)) ≡ Maybe
maybe_a_or_not_a = refl

pub all_of_none : with_a No (all_of no_expr) ≡ Yes
all_of_none = refl

pub one_of_none : with_a Yes (one_of no_expr) ≡ No
one_of_none = refl
