-- Worked rows: texts with their expressions, and texts that are none.
use Rattle.std.proofs.Common.{◌≡◌, [], ◌∷◌, refl, Some, None}
use Rattle.std.specs.Prelude.{codes}
use Rattle.cfa_tree.specs.Tree.{class, negated, all_of, one_of, expr_trees}
use Rattle.cfa_tree.specs.ClassTexts.{expression_of}

dot_binds_tighter : expression_of (codes "a.b|a") ≡ Some (one_of (expr_trees (all_of (expr_trees (class (codes "a") ∷ class (codes "b") ∷ [])) ∷ class (codes "a") ∷ [])))
unfolding expression_of
dot_binds_tighter = refl

blanks_around : expression_of (codes " !( a\t)") ≡ Some (negated (class (codes "a")))
unfolding expression_of
blanks_around = refl

two_words : expression_of (codes "a b") ≡ None
unfolding expression_of
two_words = refl

two_lines : expression_of (codes "a\n|b") ≡ None
unfolding expression_of
two_lines = refl

empty : expression_of [] ≡ None
unfolding expression_of
empty = refl

a_text : expression_of (codes "\"a\"") ≡ None
unfolding expression_of
a_text = refl

sixteen_levels : expression_of (codes "((((((((((((((((a))))))))))))))))") ≡ Some (class (codes "a"))
unfolding expression_of
sixteen_levels = refl

seventeen_levels : expression_of (codes "!!!!!!!!!!!!!!!!!a") ≡ None
unfolding expression_of
seventeen_levels = refl
