-- The text of an expression with parts, from the texts of its parts.
use Rattle.std.proofs.Common.{◌≡◌, refl, sym, ◌∙◌, ap, ℕ, List, [], ◌∷◌, ◌++◌, map}
use Rattle.std.specs.Prelude.{codes}
use Rattle.std.specs.declared.alloc.Global.{Global}
use Rattle.std.specs.declared.vec.Vec.{Vec}
use Rattle.cfa_base.specs.Joined.{joined}
use Rattle.cfa_tree.specs.declared.expressions.Expr.{Expr, And as AndOf, Or as OrOf}
use Rattle.cfa_tree.specs.Plain.{plain_expr}
use Rattle.cfa_tree.specs.Tree.{expr_trees}
use Rattle.cfa_tree.specs.lemmas.Rows.{plain_expr-And, plain_expr-Or}
use Rattle.cfa_printer.specs.declared.expressions.Around.{Around}
use Rattle.cfa_printer.specs.declared.expressions.Around.TheVariants.{Or, And}
use Rattle.cfa_printer.proofs.Loops.{regrouped}
use Rattle.cfa_printer.specs.Printing.{all_of_in, one_of_in, printed_expr, printed_exprs}

part_texts : (around : Around) (es : List Expr) → printed_exprs around (expr_trees (map plain_expr es)) ≡ map (λ e. printed_expr around (plain_expr e)) es
part_texts around [] = refl
part_texts around (e ∷ es) = ap (λ xs. printed_expr around (plain_expr e) ∷ xs) (part_texts around es)

pub all_of_text : (around : Around) (e : Expr) (parts : Vec Expr Global) (items : List Expr) (old opening closing first mid out : List ℕ) → e ≡ AndOf parts → items ≡ parts.items →
    ((inner : List ℕ) → all_of_in around inner ≡ opening ++ (inner ++ closing)) →
    first ≡ old ++ opening → mid ≡ first ++ joined (codes ".") (map (λ x. printed_expr And (plain_expr x)) items) → out ≡ mid ++ closing →
    out ≡ old ++ printed_expr around (plain_expr e)
all_of_text around e parts items old opening closing first mid out is same parens one two three =
    regrouped old opening (joined (codes ".") (map (λ x. printed_expr And (plain_expr x)) items)) closing (all_of_in around (joined (codes ".") (map (λ x. printed_expr And (plain_expr x)) items))) out mid first (parens _) one two three
    ∙ ap (λ x. old ++ x)
    (ap (λ xs. all_of_in around (joined (codes ".") xs)) (ap (map (λ x. printed_expr And (plain_expr x))) same ∙ sym (part_texts And parts.items))
    ∙ sym (ap (printed_expr around) (ap plain_expr is ∙ plain_expr-And parts)))

pub one_of_text : (around : Around) (e : Expr) (parts : Vec Expr Global) (items : List Expr) (old opening closing first mid out : List ℕ) → e ≡ OrOf parts → items ≡ parts.items →
    ((inner : List ℕ) → one_of_in around inner ≡ opening ++ (inner ++ closing)) →
    first ≡ old ++ opening → mid ≡ first ++ joined (codes "|") (map (λ x. printed_expr Or (plain_expr x)) items) → out ≡ mid ++ closing →
    out ≡ old ++ printed_expr around (plain_expr e)
one_of_text around e parts items old opening closing first mid out is same parens one two three =
    regrouped old opening (joined (codes "|") (map (λ x. printed_expr Or (plain_expr x)) items)) closing (one_of_in around (joined (codes "|") (map (λ x. printed_expr Or (plain_expr x)) items))) out mid first (parens _) one two three
    ∙ ap (λ x. old ++ x)
    (ap (λ xs. one_of_in around (joined (codes "|") xs)) (ap (map (λ x. printed_expr Or (plain_expr x))) same ∙ sym (part_texts Or parts.items))
    ∙ sym (ap (printed_expr around) (ap plain_expr is ∙ plain_expr-Or parts)))
