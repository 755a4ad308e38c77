-- An expression that may hold or not names a class that may be set or not.
use Rattle.std.proofs.Common.{◌≡◌, ℕ, List, Option, Some, None, refl, sym, ap, ◌∙◌, ◌⊎◌, inl, inr}
use Rattle.std.specs.Option.{option_or}
use Rattle.cfa_tree.specs.Tree.{ExprTree, class, negated, all_of, one_of, ExprTrees, no_expr, more_exprs}
use Rattle.cfa_statuses.specs.declared.levels.Status.{Status}
use Rattle.cfa_statuses.specs.declared.levels.Status.TheVariants.{No, Maybe, Yes}
use Rattle.cfa_statuses.specs.Status.{swapped, lesser, greater, value_of, least_of, greatest_of}
use Rattle.cfa_defines.specs.FirstMaybe.{if_maybe, first_maybe, first_maybe_among, first_maybe_of_guard}
use Rattle.cfa_laws.specs.Sources.{IsFirst}

pub first_or : (status : List ℕ → Status) (a b : Option (List ℕ)) → ((c : List ℕ) → a ≡ Some c → status c ≡ Maybe) → IsFirst status b → IsFirst status (option_or a b)
first_or status None b given first = first
first_or status (Some c) b given first = (c, refl, given c refl)

pub first_left : (status : List ℕ → Status) (a b : Option (List ℕ)) → IsFirst status a → IsFirst status (option_or a b)
first_left status None b first = let none : None ≡ Some first.0 = first.1 in absurd (cc)
first_left status (Some c) b first = let one : Some c ≡ Some first.0 = first.1 in let same : c ≡ first.0 = cc in (c, refl, ap status same ∙ first.2)

pub swapped_maybe : (s : Status) → swapped s ≡ Maybe → s ≡ Maybe
swapped_maybe No e = absurd (cc)
swapped_maybe Maybe e = refl
swapped_maybe Yes e = absurd (cc)

pub lesser_maybe : (a b : Status) → lesser a b ≡ Maybe → (a ≡ Maybe) ⊎ (b ≡ Maybe)
lesser_maybe No b e = absurd (cc)
lesser_maybe Maybe b e = inl refl
lesser_maybe Yes b e = inr e

pub greater_maybe : (a b : Status) → greater a b ≡ Maybe → (a ≡ Maybe) ⊎ (b ≡ Maybe)
greater_maybe No b e = inr e
greater_maybe Maybe b e = inl refl
greater_maybe Yes b e = absurd (cc)

if_first : (name : List ℕ) (s : Status) (c : List ℕ) → if_maybe name s ≡ Some c → (name ≡ c) × (s ≡ Maybe)
if_first name No c e = absurd (cc)
if_first name Maybe c e = (cc, refl)
if_first name Yes c e = absurd (cc)

or_some : (a b : Option (List ℕ)) (c : List ℕ) → option_or a b ≡ Some c → (a ≡ Some c) ⊎ (b ≡ Some c)
or_some None b c e = inr e
or_some (Some x) b c e = inl e

module _ (status : List ℕ → Status) where
  mutual
    -- the first Maybe class is one
    pub first_is : (e : ExprTree) (c : List ℕ) → first_maybe e status ≡ Some c → status c ≡ Maybe
    first_is (class name) c e = let parts = if_first name (status name) c e in ap status (sym parts.0) ∙ parts.1
    first_is (negated x) c e = first_is x c e
    first_is (all_of es) c e = among_is es c e
    first_is (one_of es) c e = among_is es c e

    pub among_is : (es : ExprTrees) (c : List ℕ) → first_maybe_among es status ≡ Some c → status c ≡ Maybe
    among_is no_expr c e = absurd (cc)
    among_is (more_exprs x es) c e =
        elim (or_some (first_maybe x status) (first_maybe_among es status) c e) [ inl p ↦ first_is x c p | inr q ↦ among_is es c q ]

  mutual
    pub maybe_first : (e : ExprTree) → value_of e status ≡ Maybe → IsFirst status (first_maybe e status)
    maybe_first (class name) e = (name, ap (if_maybe name) e, e)
    maybe_first (negated x) e = maybe_first x (swapped_maybe (value_of x status) e)
    maybe_first (all_of es) e = least_first es e
    maybe_first (one_of es) e = greatest_first es e

    pub least_first : (es : ExprTrees) → least_of es status ≡ Maybe → IsFirst status (first_maybe_among es status)
    least_first no_expr e = absurd (cc)
    least_first (more_exprs x es) e =
        elim (lesser_maybe (value_of x status) (least_of es status) e) [
          | inl p ↦ first_left status (first_maybe x status) (first_maybe_among es status) (maybe_first x p)
          | inr q ↦ first_or status (first_maybe x status) (first_maybe_among es status) (first_is x) (least_first es q)
        ]

    pub greatest_first : (es : ExprTrees) → greatest_of es status ≡ Maybe → IsFirst status (first_maybe_among es status)
    greatest_first no_expr e = absurd (cc)
    greatest_first (more_exprs x es) e =
        elim (greater_maybe (value_of x status) (greatest_of es status) e) [
          | inl p ↦ first_left status (first_maybe x status) (first_maybe_among es status) (maybe_first x p)
          | inr q ↦ first_or status (first_maybe x status) (first_maybe_among es status) (first_is x) (greatest_first es q)
        ]

pub guard_is : (status : List ℕ → Status) (guard : Option ExprTree) (c : List ℕ) → first_maybe_of_guard guard status ≡ Some c → status c ≡ Maybe
guard_is status None c e = absurd (cc)
guard_is status (Some e') c e = first_is status e' c e
