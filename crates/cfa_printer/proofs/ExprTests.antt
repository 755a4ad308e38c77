-- The test of two expressions with parts, from the tests of their parts.
use Rattle.std.proofs.Common.{◌≡◌, refl, sym, ◌∙◌, ap, suc, Bool, true, false, ◌&&◌, List, [], ◌∷◌, length}
use Rattle.std.specs.declared.alloc.Global.{Global}
use Rattle.std.specs.declared.vec.Vec.{Vec}
use Rattle.cfa_tree.specs.declared.expressions.Expr.{Expr, Class, Not', And, And', Or, Or', roll-out-Expr}
use Rattle.cfa_tree.specs.declared.expressions.Expr as declared
use denote.Hole.Carrier
use Rattle.cfa_tree.specs.Plain.{plain_expr}
use Rattle.cfa_tree.specs.Tree.{ExprTrees, all_of, one_of}
use Rattle.cfa_tree.specs.lemmas.Rows.{plain_parts, plain_expr-And, plain_expr-Or}
use Rattle.cfa_printer.specs.SameExpr.{same_expr, same_exprs}

abbrev IsAndShape : Expr → Type 0
IsAndShape (Class name) = ⊥
IsAndShape (Not' p e) = ⊥
IsAndShape (And' shape all) = Unit {0}
IsAndShape (Or' shape all) = ⊥

abbrev IsOrShape : Expr → Type 0
IsOrShape (Class name) = ⊥
IsOrShape (Not' p e) = ⊥
IsOrShape (And' shape all) = ⊥
IsOrShape (Or' shape all) = Unit {0}

-- a variant as it is matched on is the variant as it is made
is_and : (e : Expr) → IsAndShape e → (x : Vec Expr Global) × (e ≡ And x)
unfolding declared.roll-Expr declared.out-Expr Carrier.roll Carrier.out
is_and (And' shape all) is = (_, sym (roll-out-Expr (And' shape all)))
is_and (Class name) is = absurd is
is_and (Not' p e) is = absurd is
is_and (Or' shape all) is = absurd is

is_or : (e : Expr) → IsOrShape e → (x : Vec Expr Global) × (e ≡ Or x)
unfolding declared.roll-Expr declared.out-Expr Carrier.roll Carrier.out
is_or (Or' shape all) is = (_, sym (roll-out-Expr (Or' shape all)))
is_or (Class name) is = absurd is
is_or (Not' p e) is = absurd is
is_or (And' shape all) is = absurd is

no_and : (b : Expr) (es : ExprTrees) → ((x : Vec Expr Global) → b ≡ And x → ⊥) → same_expr (all_of es) (plain_expr b) ≡ false
no_and (Class name) es not = refl
no_and (Not' p e) es not = refl
no_and (And' shape all) es not = let x = is_and (And' shape all) tt in absurd (not x.0 x.1)
no_and (Or' shape all) es not = refl

no_or : (b : Expr) (es : ExprTrees) → ((x : Vec Expr Global) → b ≡ Or x → ⊥) → same_expr (one_of es) (plain_expr b) ≡ false
no_or (Class name) es not = refl
no_or (Not' p e) es not = refl
no_or (And' shape all) es not = refl
no_or (Or' shape all) es not = let x = is_or (Or' shape all) tt in absurd (not x.0 x.1)

pub other_than_and : (a b : Expr) (parts : Vec Expr Global) → a ≡ And parts → ((x : Vec Expr Global) → b ≡ And x → ⊥) → false ≡ same_expr (plain_expr a) (plain_expr b)
other_than_and a b parts is not = sym (ap (λ t. same_expr t (plain_expr b)) (ap plain_expr is ∙ plain_expr-And parts) ∙ no_and b _ not)

pub other_than_or : (a b : Expr) (parts : Vec Expr Global) → a ≡ Or parts → ((x : Vec Expr Global) → b ≡ Or x → ⊥) → false ≡ same_expr (plain_expr a) (plain_expr b)
other_than_or a b parts is not = sym (ap (λ t. same_expr t (plain_expr b)) (ap plain_expr is ∙ plain_expr-Or parts) ∙ no_or b _ not)

pub and_parts_test : (a b : Expr) (parts others : Vec Expr Global) (es fs : List Expr) (result : Bool) → a ≡ And parts → b ≡ And others → es ≡ parts.items → fs ≡ others.items →
    result ≡ same_exprs (plain_parts es) (plain_parts fs) → result ≡ same_expr (plain_expr a) (plain_expr b)
and_parts_test a b parts others es fs result is also same too tells =
    tells ∙ (ap (λ xs. same_exprs (plain_parts xs) (plain_parts fs)) same ∙ (ap (λ xs. same_exprs (plain_parts parts.items) (plain_parts xs)) too
    ∙ sym (ap (λ t. same_expr t (plain_expr b)) (ap plain_expr is ∙ plain_expr-And parts) ∙ ap (λ t. same_expr (all_of (plain_parts parts.items)) t) (ap plain_expr also ∙ plain_expr-And others))))

pub or_parts_test : (a b : Expr) (parts others : Vec Expr Global) (es fs : List Expr) (result : Bool) → a ≡ Or parts → b ≡ Or others → es ≡ parts.items → fs ≡ others.items →
    result ≡ same_exprs (plain_parts es) (plain_parts fs) → result ≡ same_expr (plain_expr a) (plain_expr b)
or_parts_test a b parts others es fs result is also same too tells =
    tells ∙ (ap (λ xs. same_exprs (plain_parts xs) (plain_parts fs)) same ∙ (ap (λ xs. same_exprs (plain_parts parts.items) (plain_parts xs)) too
    ∙ sym (ap (λ t. same_expr t (plain_expr b)) (ap plain_expr is ∙ plain_expr-Or parts) ∙ ap (λ t. same_expr (one_of (plain_parts parts.items)) t) (ap plain_expr also ∙ plain_expr-Or others))))

-- lists of two lengths
pub other_length : (es fs : List Expr) → (length es ≡ length fs → ⊥) → false ≡ same_exprs (plain_parts es) (plain_parts fs)
other_length [] [] not = absurd (not refl)
other_length [] (f ∷ fs) not = refl
other_length (e ∷ es) [] not = refl
other_length (e ∷ es) (f ∷ fs) not = and_false (same_expr (plain_expr e) (plain_expr f)) _ (other_length es fs (λ same. not (ap suc same)))
  where
    and_false : (p q : Bool) → false ≡ q → false ≡ (p && q)
    and_false true q is = is
    and_false false q is = refl
