-- The test of class expressions tells whether they are equal.
use Rattle.std.proofs.Common.{◌≡◌, ◌==◌, ℕ, List, [], ◌∷◌, refl, ap, subst, Option, Some, None}
use Rattle.std.specs.Prelude.{IsTrue}
use Rattle.std.specs.Str.{bytes_eq}
use Rattle.std.proofs.lemmas.Bool.{false≢true, and_parts, and_from, eq-eqb}
use Rattle.cfa_base.specs.lemmas.EqualTexts.{is_text}
use Rattle.cfa_tree.specs.Tree.{ExprTree, class, negated, all_of, one_of, ExprTrees, no_expr, more_exprs}
use Rattle.cfa_printer.specs.SameExpr.{same_expr, same_exprs, same_guard}

mutual
  same_expr_is : (a b : ExprTree) → IsTrue (same_expr a b) → a ≡ b
  same_expr_is (class a) (class b) h = ap class (is_text a b h)
  same_expr_is (negated a) (negated b) h = ap negated (same_expr_is a b h)
  same_expr_is (all_of es) (all_of fs) h = ap all_of (same_exprs_are es fs h)
  same_expr_is (one_of es) (one_of fs) h = ap one_of (same_exprs_are es fs h)
  same_expr_is _ _ h = absurd (false≢true h)

  same_exprs_are : (es fs : ExprTrees) → IsTrue (same_exprs es fs) → es ≡ fs
  same_exprs_are no_expr no_expr h = refl
  same_exprs_are (more_exprs e es) (more_exprs f fs) h =
      let parts = and_parts (same_expr e f) (same_exprs es fs) h in
      let first = same_expr_is e f parts.0 in
      let more = same_exprs_are es fs parts.1 in
      cc
  same_exprs_are _ _ h = absurd (false≢true h)

pub same_guard_is : (a b : Option ExprTree) → IsTrue (same_guard a b) → a ≡ b
same_guard_is None None h = refl
same_guard_is (Some a) (Some b) h = ap Some (same_expr_is a b h)
same_guard_is _ _ h = absurd (false≢true h)

same_all : (xs : List ℕ) → IsTrue (bytes_eq xs xs)
same_all [] = refl
same_all (x ∷ xs) = and_from (x == x) (bytes_eq xs xs) (eq-eqb x x refl) (same_all xs)

mutual
  same_as_itself : (e : ExprTree) → IsTrue (same_expr e e)
  same_as_itself (class name) = same_all name
  same_as_itself (negated e) = same_as_itself e
  same_as_itself (all_of es) = same_as_themselves es
  same_as_itself (one_of es) = same_as_themselves es

  same_as_themselves : (es : ExprTrees) → IsTrue (same_exprs es es)
  same_as_themselves no_expr = refl
  same_as_themselves (more_exprs e es) = and_from (same_expr e e) (same_exprs es es) (same_as_itself e) (same_as_themselves es)

same_guard_itself : (a : Option ExprTree) → IsTrue (same_guard a a)
same_guard_itself None = refl
same_guard_itself (Some e) = same_as_itself e

pub same_guard_for : (a b : Option ExprTree) → a ≡ b → IsTrue (same_guard a b)
same_guard_for a b is = subst (λ (x : Option ExprTree). IsTrue (same_guard a x)) is (same_guard_itself a)
