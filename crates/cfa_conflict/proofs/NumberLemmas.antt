-- What the numbers of first and last visits tell.
use Rattle.std.proofs.Common.{◌≡◌, ℕ, suc, ◌+◌, ◌<◌, ◌≤◌, Bool, true, false, ◌||◌, cond, List, [], ◌∷◌, length, get_or, set, drop, Option, Some, None, MatchBool, refl, sym, ap, subst, ◌∙◌, inl, inr, arith, add_assoc, eqb, ltb}
use denote.Ref.{Bor}
use Rattle.std.specs.Prelude.{slice_get}
use Rattle.std.specs.Option.{option_copied}
use Rattle.std.specs.Slice.{IsGetResult}
use Rattle.std.proofs.lemmas.Option.{slice_get-get_or, slice_get_past}
use Rattle.std.proofs.lemmas.Bool.{cond-true, cond-false, eq-eqb, ne_eqb, lt-ltb, le-ltb, cases_eq}
use Rattle.std.proofs.lemmas.List.{at_drop_more, get_or-set_same, get_or-set_other}
use Rattle.cfa_states.specs.declared.walks.Visit.{Visit}
use Rattle.cfa_conflict.specs.Conflicts.{first_visit, has_visit, is_visited_after}
use Rattle.cfa_conflict.specs.Targets.{first_from, last_from, unless_zero}

-- ---- first visits

pub got_is : {X : Type 0} (xs : List X) (i : ℕ) (r : Option (Bor X)) → IsGetResult xs i i r → option_copied r ≡ slice_get xs i
got_is xs i None h = sym (slice_get_past xs i h.3)
got_is xs i (Some x) h = ap Some (h.3.1 x.now) ∙ sym (slice_get-get_or xs i x.now h.3.0)

first_further : (n k : ℕ) (visits : List Visit) (place : ℕ) → first_from (n + k) visits place ≡ n + first_from k visits place
first_further n k [] place = refl
first_further n k (visit ∷ visits) place =
    elim (eqb visit.instance place) as (λ b. cond b (n + k) (first_from (n + k + 1) visits place) ≡ n + cond b k (first_from (k + 1) visits place)) [
      | true ↦ refl
      | false ↦ ap (λ m. first_from m visits place) (add_assoc n k 1) ∙ first_further n (k + 1) visits place
    ]

next_first : (visits : List Visit) (place : ℕ) → suc (first_from 0 visits place) ≡ first_from 1 visits place
next_first visits place =
    let further : first_from (1 + 0) visits place ≡ 1 + first_from 0 visits place = first_further 1 0 visits place in
    let same : first_from (1 + 0) visits place ≡ first_from 1 visits place = refl in
    omega arith

pub first_visit_at : (visits : List Visit) (place : ℕ) → first_visit visits place ≡ slice_get visits (first_from 0 visits place)
first_visit_at [] place = refl
first_visit_at (visit ∷ visits) place =
    elim (eqb visit.instance place) as (λ b. cond b (Some visit) (first_visit visits place) ≡ slice_get (visit ∷ visits) (cond b 0 (first_from 1 visits place))) [
      | true ↦ refl
      | false ↦ first_visit_at visits place ∙ ap (slice_get (visit ∷ visits)) (next_first visits place)
    ]

from_on : (n : ℕ) (visits : List Visit) (place : ℕ) → n ≤ first_from n visits place
from_on n [] place = omega arith
from_on n (visit ∷ visits) place =
    elim (eqb visit.instance place) as (λ b. n ≤ cond b n (first_from (n + 1) visits place)) [
      | true ↦ omega arith
      | false ↦ let more = from_on (n + 1) visits place in omega (arith, more)
    ]

-- ---- last visits

unless_some : (n l o : ℕ) → n + 1 ≤ l → unless_zero l o ≡ l
unless_some n l o up = cond-false (eqb l 0) o l (ne_eqb l 0 (λ e. omega arith))

unless_none : (l o : ℕ) → l ≡ 0 → unless_zero l o ≡ o
unless_none l o none = cond-true (eqb l 0) o l (eq-eqb l 0 none)

some_or_zero : (here there : Bool) (n l : ℕ) → MatchBool there (n + 1 ≤ l) (l ≡ 0)
    → MatchBool (here || there) (n ≤ unless_zero l (cond here n 0)) (unless_zero l (cond here n 0) ≡ 0)
some_or_zero true true n l up = subst (λ m. n ≤ m) (sym (unless_some n l n up)) (omega arith)
some_or_zero true false n l none = subst (λ m. n ≤ m) (sym (unless_none l n none)) (omega arith)
some_or_zero false true n l up = subst (λ m. n ≤ m) (sym (unless_some n l 0 up)) (omega arith)
some_or_zero false false n l none = unless_none l 0 none

last_where_visited : (n : ℕ) (visits : List Visit) (place : ℕ) → MatchBool (has_visit visits place) (n ≤ last_from n visits place) (last_from n visits place ≡ 0)
last_where_visited n [] place = refl
last_where_visited n (visit ∷ visits) place =
    some_or_zero (eqb visit.instance place) (has_visit visits place) n (last_from (n + 1) visits place) (last_where_visited (n + 1) visits place)

-- ---- a last visit behind a first one

here_first : (here there : Bool) (n l : ℕ) → MatchBool there (n + 1 ≤ l) (l ≡ 0) → there ≡ ltb n (unless_zero l (cond here n 0))
here_first true true n l up = sym (ap (ltb n) (unless_some n l n up) ∙ lt-ltb n l (omega arith))
here_first true false n l none = sym (ap (ltb n) (unless_none l n none) ∙ le-ltb n n (omega arith))
here_first false true n l up = sym (ap (ltb n) (unless_some n l 0 up) ∙ lt-ltb n l (omega arith))
here_first false false n l none = sym (ap (ltb n) (unless_none l 0 none) ∙ le-ltb n 0 (omega arith))

later_zero : (first l o : ℕ) → l ≡ 0 → o ≤ first → ltb first l ≡ ltb first (unless_zero l o)
later_zero first l o none low = le-ltb first l (omega arith) ∙ sym (ap (ltb first) (unless_none l o none) ∙ le-ltb first o low)

later_some : (first l o : ℕ) → (l ≡ 0 → ⊥) → ltb first l ≡ ltb first (unless_zero l o)
later_some first l o some = sym (ap (ltb first) (cond-false (eqb l 0) o l (ne_eqb l 0 some)))

not_above : (here : Bool) (n first : ℕ) → n + 1 ≤ first → cond here n 0 ≤ first
not_above true n first up = omega arith
not_above false n first up = omega arith

later_first : (here : Bool) (n first l : ℕ) → n + 1 ≤ first → ltb first l ≡ ltb first (unless_zero l (cond here n 0))
later_first here n first l up =
    elim (cases_eq l 0) [
      | inl none ↦ later_zero first l (cond here n 0) none (not_above here n first up)
      | inr some ↦ later_some first l (cond here n 0) some
    ]

after_from : (n : ℕ) (visits : List Visit) (place other : ℕ) → is_visited_after visits place other ≡ ltb (first_from n visits place) (last_from n visits other)
after_from n [] place other = sym (le-ltb n 0 (omega arith))
after_from n (visit ∷ visits) place other =
    elim (eqb visit.instance place) as (λ b. cond b (has_visit visits other) (is_visited_after visits place other)
    ≡ ltb (cond b n (first_from (n + 1) visits place)) (unless_zero (last_from (n + 1) visits other) (cond (eqb visit.instance other) n 0))) [
      | true ↦ here_first (eqb visit.instance other) (has_visit visits other) n (last_from (n + 1) visits other) (last_where_visited (n + 1) visits other)
      | false ↦ after_from (n + 1) visits place other
          ∙ later_first (eqb visit.instance other) n (first_from (n + 1) visits place) (last_from (n + 1) visits other) (from_on (n + 1) visits place)
    ]

pub visited_after : (visits : List Visit) (place other : ℕ) → is_visited_after visits place other ≡ ltb (first_from 0 visits place) (last_from 0 visits other)
visited_after visits place other = after_from 0 visits place other

-- ---- one visit further to the front

pub first_here : (visits : List Visit) (i : ℕ) (d : Visit) (place : ℕ) → i < length visits
    → first_from i (drop i visits) place ≡ cond (eqb (get_or visits i d).instance place) i (first_from (i + 1) (drop (i + 1) visits) place)
first_here visits i d place h = at_drop_more (λ l. first_from i l place) visits i d h

pub last_here : (visits : List Visit) (i : ℕ) (d : Visit) (place : ℕ) → i < length visits
    → last_from i (drop i visits) place
    ≡ unless_zero (last_from (i + 1) (drop (i + 1) visits) place) (cond (eqb (get_or visits i d).instance place) i 0)
last_here visits i d place h = at_drop_more (λ l. last_from i l place) visits i d h

module _ (visits : List Visit) (n i : ℕ) (d : Visit) (one : n ≡ i + 1) (lt : i < length visits) where
  first_step : (place : ℕ) → first_from i (drop i visits) place ≡ cond (eqb (get_or visits i d).instance place) i (first_from n (drop n visits) place)
  first_step place =
      first_here visits i d place lt ∙ ap (λ m. cond (eqb (get_or visits i d).instance place) i (first_from m (drop m visits) place)) (sym one)

  last_step : (place : ℕ)
      → last_from i (drop i visits) place ≡ unless_zero (last_from n (drop n visits) place) (cond (eqb (get_or visits i d).instance place) i 0)
  last_step place =
      last_here visits i d place lt
      ∙ ap (λ m. unless_zero (last_from m (drop m visits) place) (cond (eqb (get_or visits i d).instance place) i 0)) (sym one)

  -- the visit is of another instance
  pub first_elsewhere : (place : ℕ) → (place ≡ (get_or visits i d).instance → ⊥) → first_from n (drop n visits) place ≡ first_from i (drop i visits) place
  first_elsewhere place other =
      sym (first_step place ∙ cond-false (eqb (get_or visits i d).instance place) i (first_from n (drop n visits) place)
      (ne_eqb (get_or visits i d).instance place (λ e. other (sym e))))

  unless_elsewhere : (l : ℕ) → unless_zero l 0 ≡ l
  unless_elsewhere l = elim (cases_eq l 0) [
    | inl none ↦ unless_none l 0 none ∙ sym none
    | inr some ↦ cond-false (eqb l 0) 0 l (ne_eqb l 0 some)
  ]

  pub last_elsewhere : (place : ℕ) → (place ≡ (get_or visits i d).instance → ⊥) → last_from n (drop n visits) place ≡ last_from i (drop i visits) place
  last_elsewhere place other =
      let l = last_from n (drop n visits) place in
      sym (last_step place ∙ ap (unless_zero l) (cond-false (eqb (get_or visits i d).instance place) i 0
      (ne_eqb (get_or visits i d).instance place (λ e. other (sym e)))) ∙ unless_elsewhere l)

  -- it is the first one of its instance
  pub first_put : (firsts : List ℕ) (place : ℕ) → (get_or visits i d).instance < length firsts → get_or firsts place 0 ≡ first_from n (drop n visits) place
      → get_or (set firsts (get_or visits i d).instance i) place 0 ≡ first_from i (drop i visits) place
  first_put firsts place within before =
      let here = (get_or visits i d).instance in
      elim (cases_eq place here) [
        | inl same ↦
            ap (λ m. get_or (set firsts here i) m 0) same ∙ get_or-set_same firsts here i 0 within
            ∙ sym (first_step place ∙ cond-true (eqb here place) i (first_from n (drop n visits) place) (eq-eqb here place (sym same)))
        | inr other ↦ get_or-set_other firsts here place i 0 other ∙ before ∙ first_elsewhere place other
      ]

  -- it is the last one, where none is behind it
  pub last_put : (lasts : List ℕ) (place : ℕ) → (get_or visits i d).instance < length lasts → get_or lasts (get_or visits i d).instance 0 ≡ 0
      → get_or lasts place 0 ≡ last_from n (drop n visits) place
      → get_or (set lasts (get_or visits i d).instance i) place 0 ≡ last_from i (drop i visits) place
  last_put lasts place within none before =
      let here = (get_or visits i d).instance in
      let l = last_from n (drop n visits) place in
      elim (cases_eq place here) [
        | inl same ↦
            ap (λ m. get_or (set lasts here i) m 0) same ∙ get_or-set_same lasts here i 0 within
            ∙ sym (last_step place ∙ ap (unless_zero l) (cond-true (eqb here place) i 0 (eq-eqb here place (sym same)))
            ∙ unless_none l i (sym before ∙ ap (λ m. get_or lasts m 0) same ∙ none))
        | inr other ↦ get_or-set_other lasts here place i 0 other ∙ before ∙ last_elsewhere place other
      ]

  pub last_kept : (lasts : List ℕ) (place : ℕ) → (get_or lasts (get_or visits i d).instance 0 ≡ 0 → ⊥)
      → get_or lasts place 0 ≡ last_from n (drop n visits) place → get_or lasts place 0 ≡ last_from i (drop i visits) place
  last_kept lasts place some before =
      let here = (get_or visits i d).instance in
      let l = last_from n (drop n visits) place in
      elim (cases_eq place here) [
        | inl same ↦
            before
            ∙ sym (last_step place ∙ cond-false (eqb l 0) (cond (eqb here place) i 0) l
            (ne_eqb l 0 (λ e. some (sym (ap (λ m. get_or lasts m 0) same) ∙ before ∙ e))))
        | inr other ↦ before ∙ last_elsewhere place other
      ]
