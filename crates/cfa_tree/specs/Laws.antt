-- Laws of class texts: the expression that is computed from a text is the one that the text is by the grammar, so that a
-- text is at most one expression.
use Rattle.std.specs.Prelude.{◌≡◌, ℕ, List, Some}
use Rattle.cfa_tree.specs.Tree.{ExprTree}
use Rattle.cfa_tree.specs.ClassTexts.{IsExpression, expression_of}

abbrev pub ExpressionsAreComputed : Type 0
ExpressionsAreComputed = (text : List ℕ) (tree : ExprTree) → IsExpression text tree → expression_of text ≡ Some tree

abbrev pub ComputedAreExpressions : Type 0
ComputedAreExpressions = (text : List ℕ) (tree : ExprTree) → expression_of text ≡ Some tree → IsExpression text tree
