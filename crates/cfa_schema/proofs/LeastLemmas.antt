-- What is noted of refusals is the first of them.
use Rattle.std.proofs.Common.{◌≡◌, ◌∙◌, ℕ, Bool, true, false, cond, List, [], ◌∷◌, ◌++◌, Option, Some, None, ◌⊎◌, inl, inr, ⊎_elim, refl, ap, sym, subst, arith, append_assoc}
use Rattle.std.specs.Prelude.{nat_lt, ◌==◌, ◌||◌, ◌&&◌, if◌then◌else◌}
use Rattle.std.specs.List.{Contains}
use Rattle.std.proofs.lemmas.List.Elements.{Contains-push_cases, Contains-push, Contains-append_left}
use Rattle.std.proofs.lemmas.List.{append-nil}
use Rattle.std.proofs.lemmas.Bool.Decides.{nat_tests}
use Rattle.std.proofs.lemmas.Bool.{and_parts, or_parts, eqb-true}
use Rattle.cfa_base.specs.declared.places.Place.{Place}
use Rattle.cfa_values.specs.declared.refusals.Refusal.{Refusal}
use Rattle.cfa_base.specs.Order.{is_before}
use Rattle.cfa_base.specs.lemmas.Truths.{and_false}
use Rattle.cfa_base.specs.lemmas.Order.{before_still, before_itself}
use Rattle.cfa_values.specs.declared.refusals.Code.{Code}
use Rattle.cfa_values.specs.declared.refusals.Code.TheVariants.{UnknownType, TypeOutOfScope, UnknownAttribute, WrongValue, UnknownBody, UnknownBundle, ArgumentCount, Duplicate, CallCycle, NoSequence, BadClassText, ReferenceOutOfScope, BadPattern}
use Rattle.cfa_values.specs.Refusals.{number_of, is_same_place, is_sooner, sooner, noted}

same_is : (p q : Place) → is_same_place p q ≡ true → p ≡ q
same_is p q e =
    let first = and_parts (p.file == q.file) ((p.line == q.line) && (p.col == q.col)) e in
    let second = and_parts (p.line == q.line) (p.col == q.col) first.1 in
    let files = eqb-true p.file q.file first.0 in
    let lines = eqb-true p.line q.line second.0 in
    let cols = eqb-true p.col q.col second.1 in
    λ i. record { file = files i; line = lines i; col = cols i }

-- of three refusals, two tests tell the third: each is a test of places, a test that they are the same, and a test of codes
third : (br sr kr bq sq kq b s k : Bool) → (br || (sr && kr)) ≡ true → (bq || (sq && kq)) ≡ false →
    (br ≡ true → bq ≡ false → b ≡ false) → (s ≡ true → bq ≡ br) → (sr ≡ true → (b ≡ bq) × (s ≡ sq)) → (kr ≡ true → kq ≡ false → k ≡ false) →
    (b || (s && k)) ≡ false
third true sr kr true sq kq b s k e f by_before by_same by_place by_code = cc
third true sr kr false sq kq b true k e f by_before by_same by_place by_code = let wrong = by_same refl in cc
third true sr kr false sq kq b false k e f by_before by_same by_place by_code = ap (λ x. x || false) (by_before refl refl)
third false true true true sq kq b s k e f by_before by_same by_place by_code = cc
third false true true false true true b s k e f by_before by_same by_place by_code = cc
third false true true false true false b s k e f by_before by_same by_place by_code =
    ap (λ x. x || (s && k)) (by_place refl).0 ∙ ap (λ y. y && k) (by_place refl).1 ∙ by_code refl refl
third false true true false false kq b s k e f by_before by_same by_place by_code =
    ap (λ x. x || (s && k)) (by_place refl).0 ∙ ap (λ y. y && k) (by_place refl).1
third false true false bq sq kq b s k e f by_before by_same by_place by_code = cc
third false false kr bq sq kq b s k e f by_before by_same by_place by_code = cc

code_still : (r first q : ℕ) → nat_lt r first ≡ true → nat_lt q first ≡ false → nat_lt q r ≡ false
code_still r first q below not_below = grind (arith, nat_tests)

-- what isn't sooner than the later of two isn't sooner than the first of them
sooner_still : (r first q : Refusal) → is_sooner r first ≡ true → is_sooner q first ≡ false → is_sooner q r ≡ false
unfolding is_sooner
sooner_still r first q sooner_than not_sooner =
    third (is_before r.place first.place) (is_same_place r.place first.place) (nat_lt (number_of r.code) (number_of first.code))
    (is_before q.place first.place) (is_same_place q.place first.place) (nat_lt (number_of q.code) (number_of first.code))
    (is_before q.place r.place) (is_same_place q.place r.place) (nat_lt (number_of q.code) (number_of r.code))
    sooner_than not_sooner
    (before_still r.place first.place q.place)
    (λ same. ap (λ (p : Place). is_before p first.place) (same_is q.place r.place same))
    (λ same. (ap (λ (p : Place). is_before q.place p) (same_is r.place first.place same), ap (λ (p : Place). is_same_place q.place p) (same_is r.place first.place same)))
    (code_still (number_of r.code) (number_of first.code) (number_of q.code))

pub not_below_itself : (n : ℕ) → nat_lt n n ≡ false
not_below_itself n = grind (arith, nat_tests)

pub itself_not_sooner : (r : Refusal) → is_sooner r r ≡ false
unfolding is_sooner
itself_not_sooner r =
    ap (λ b. b || (is_same_place r.place r.place && nat_lt (number_of r.code) (number_of r.code))) (before_itself r.place)
    ∙ ap (λ k. is_same_place r.place r.place && k) (not_below_itself (number_of r.code)) ∙ and_false (is_same_place r.place r.place)

-- the first of those for which a fact holds, if there are any
abbrev pub Least : (Refusal → Type 0) → Option Refusal → Type 0
Least P None = (q : Refusal) → P q → ⊥
Least P (Some first) = P first × ((q : Refusal) → P q → is_sooner q first ≡ false)

-- the same first of those for which an equivalent fact holds
pub least_same : (P Q : Refusal → Type 0) → ((q : Refusal) → P q → Q q) → ((q : Refusal) → Q q → P q) → (first : Option Refusal) → Least P first → Least Q first
least_same P Q to from None least = λ q h. least q (from q h)
least_same P Q to from (Some first) least = (to first least.0, λ q h. least.1 q (from q h))

least_of_two : (P : Refusal → Type 0) (first r : Refusal) (b : Bool) → is_sooner r first ≡ b → Least P (Some first) → Least (λ q. P q ⊎ (r ≡ q)) (cond b (Some r) (Some first))
least_of_two P first r true e least = (
  inr refl,
  λ q h. ⊎_elim
      (λ (p : P q). sooner_still r first q e (least.1 q p))
      (λ (is : r ≡ q). subst (λ (x : Refusal). is_sooner x r ≡ false) is (itself_not_sooner r)) h,
)
least_of_two P first r false e least = (
  inl least.0,
  λ q h. ⊎_elim
      (λ (p : P q). least.1 q p)
      (λ (is : r ≡ q). subst (λ (x : Refusal). is_sooner x first ≡ false) is e) h,
)

-- one refusal more
pub least_more : (P : Refusal → Type 0) (first : Option Refusal) (r : Refusal) → Least P first → Least (λ q. P q ⊎ (r ≡ q)) (sooner first r)
least_more P None r least = (
  inr refl,
  λ q h. ⊎_elim
      (λ (p : P q). absurd (least q p))
      (λ (is : r ≡ q). subst (λ (x : Refusal). is_sooner x r ≡ false) is (itself_not_sooner r)) h,
)
least_more P (Some first) r least = least_of_two P first r (is_sooner r first) refl least

-- one refusal more at the end of a list
least_pushed : (rs : List Refusal) (first : Option Refusal) (r : Refusal) → Least (Contains rs) first → Least (Contains (rs ++ r ∷ [])) (sooner first r)
least_pushed rs first r least =
    least_same (λ q. Contains rs q ⊎ (r ≡ q)) (Contains (rs ++ r ∷ []))
    (λ q h. ⊎_elim
    (λ (was : Contains rs q). Contains-append_left rs (r ∷ []) q was)
    (λ (is : r ≡ q). subst (Contains (rs ++ r ∷ [])) is (Contains-push rs r)) h)
    (λ q h. Contains-push_cases rs r q h)
    (sooner first r)
    (least_more (Contains rs) first r least)

-- what is noted behind some refusals is the first of all
pub least_noted : (before rs : List Refusal) (first : Option Refusal) → Least (Contains before) first → Least (Contains (before ++ rs)) (noted first rs)
least_noted before [] first least = subst (λ (xs : List Refusal). Least (Contains xs) first) (sym (append-nil before)) least
least_noted before (r ∷ rs) first least =
    subst (λ (xs : List Refusal). Least (Contains xs) (noted (sooner first r) rs)) (append_assoc before (r ∷ []) rs)
    (least_noted (before ++ r ∷ []) rs (sooner first r) (least_pushed before first r least))

none_contained : (q : Refusal) → Contains [] q → ⊥
none_contained q h = omega (arith, h.1)

-- what is noted of a list is its first refusal
pub least_of_list : (rs : List Refusal) → Least (Contains rs) (noted None rs)
least_of_list rs = least_noted [] rs None none_contained

-- two refusals of which none is sooner are one

places_tie : (p q : Place) → is_before p q ≡ false → is_before q p ≡ false → is_same_place p q ≡ true
places_tie p q after before = grind (arith, nat_tests)

codes_tie : (m n : ℕ) → nat_lt m n ≡ false → nat_lt n m ≡ false → m ≡ n
codes_tie m n after before = grind (arith, nat_tests)

-- the code of a number
code_of : ℕ → Code
code_of n =
    if n == 1 then UnknownType else (
    if n == 2 then TypeOutOfScope else (
    if n == 3 then UnknownAttribute else (
    if n == 4 then WrongValue else (
    if n == 5 then UnknownBody else (
    if n == 6 then UnknownBundle else (
    if n == 7 then ArgumentCount else (
    if n == 8 then Duplicate else (
    if n == 9 then CallCycle else (
    if n == 10 then NoSequence else (
    if n == 11 then BadClassText else (
    if n == 12 then ReferenceOutOfScope else (
    BadPattern))))))))))))

code_again : (c : Code) → code_of (number_of c) ≡ c
unfolding code_of
code_again UnknownType = refl
code_again TypeOutOfScope = refl
code_again UnknownAttribute = refl
code_again WrongValue = refl
code_again UnknownBody = refl
code_again UnknownBundle = refl
code_again ArgumentCount = refl
code_again Duplicate = refl
code_again CallCycle = refl
code_again NoSequence = refl
code_again BadClassText = refl
code_again ReferenceOutOfScope = refl
code_again BadPattern = refl

same_code : (c d : Code) → number_of c ≡ number_of d → c ≡ d
same_code c d e = sym (code_again c) ∙ ap code_of e ∙ code_again d

pub tie_is : (r s : Refusal) → is_sooner r s ≡ false → is_sooner s r ≡ false → r ≡ s
unfolding is_sooner
tie_is r s e f =
    let one = or_parts (is_before r.place s.place) (is_same_place r.place s.place && nat_lt (number_of r.code) (number_of s.code)) e in
    let two = or_parts (is_before s.place r.place) (is_same_place s.place r.place && nat_lt (number_of s.code) (number_of r.code)) f in
    let there = places_tie r.place s.place one.0 two.0 in
    let back = places_tie s.place r.place two.0 one.0 in
    let places = same_is r.place s.place there in
    let codes = same_code r.code s.code (codes_tie (number_of r.code) (number_of s.code) (ap (λ b. b && nat_lt (number_of r.code) (number_of s.code)) (sym there) ∙ one.1) (ap (λ b. b && nat_lt (number_of s.code) (number_of r.code)) (sym back) ∙ two.1)) in
    λ i. record { code = codes i; place = places i }

not_sooner_by : (q p first : Refusal) (b : Bool) → is_sooner q first ≡ b → is_sooner q p ≡ false → is_sooner p first ≡ false → b ≡ false
not_sooner_by q p first false e f g = refl
not_sooner_by q p first true e f g =
    let tie = tie_is q p f (sooner_still q first p e g) in
    sym e ∙ ap (λ (r : Refusal). is_sooner r first) tie ∙ g

-- what isn't sooner than one that isn't sooner than the first isn't sooner than the first
pub not_sooner : (q p first : Refusal) → is_sooner q p ≡ false → is_sooner p first ≡ false → is_sooner q first ≡ false
not_sooner q p first f g = not_sooner_by q p first (is_sooner q first) refl f g

-- more refusals of which none is sooner than one of the others have the same first
pub least_wider : (P Q : Refusal → Type 0) → ((q : Refusal) → P q → Q q) →
    ((q : Refusal) → Q q → (p : Refusal) × (P p) × (is_sooner q p ≡ false)) → (first : Option Refusal) → Least P first → Least Q first
least_wider P Q to near None least = λ q h. let by = near q h in least by.0 by.1
least_wider P Q to near (Some first) least = (to first least.0, λ q h. let by = near q h in not_sooner q by.0 first by.2 (least.1 by.0 by.1))
