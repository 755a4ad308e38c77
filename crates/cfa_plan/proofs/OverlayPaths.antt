-- What stands above a path: what comes before a slash of it, other than its first byte. And what stands below it.
use Rattle.std.proofs.Common.{◌≡◌, ℕ, suc, ◌+◌, ◌<◌, ◌⊎◌, inl, inr, ⊎_elim, Bool, true, false, cond, ◌&&◌, ◌||◌, eqb, eqb-true, eq-eqb, List, [], ◌∷◌, ◌++◌, length, take, drop, append_assoc, append-nil, length-append, take_at, refl, sym, ap, subst, ◌∙◌, arith}
use Rattle.std.proofs.lemmas.Bool.{false≢true, and_parts, or_parts}
use Rattle.std.specs.Prelude.{nat_eq}
use Rattle.std.specs.List.{list_all, list_any, starts_with}
use Rattle.cfa_outside.specs.Worlds.{above, above_from, below_front, is_below}

-- a path is one of these
unfoldable pub In : List ℕ → List (List ℕ) → Type 0
In p [] = ⊥
In p (q ∷ qs) = (p ≡ q) ⊎ In p qs

pub all_in : (test : List ℕ → Bool) (ps : List (List ℕ)) → list_all test ps ≡ true → (p : List ℕ) → In p ps → test p ≡ true
unfolding In
all_in test [] all p among = absurd among
all_in test (q ∷ qs) all p among =
    let parts = and_parts (test q) (list_all test qs) all in
    ⊎_elim (λ (same : p ≡ q). ap test same ∙ parts.0) (λ (later : In p qs). all_in test qs parts.1 p later) among

pub in_all : (test : List ℕ → Bool) (ps : List (List ℕ)) → ((p : List ℕ) → In p ps → test p ≡ true) → list_all test ps ≡ true
unfolding In
in_all test [] each = refl
in_all test (q ∷ qs) each = ap (λ b. b && list_all test qs) (each q (inl refl)) ∙ in_all test qs (λ p among. each p (inr among))

pub none_in : (test : List ℕ → Bool) (ps : List (List ℕ)) → list_any test ps ≡ false → (p : List ℕ) → In p ps → test p ≡ false
unfolding In
none_in test [] none p among = absurd among
none_in test (q ∷ qs) none p among =
    let parts = or_parts (test q) (list_any test qs) none in
    ⊎_elim (λ (same : p ≡ q). ap test same ∙ parts.0) (λ (later : In p qs). none_in test qs parts.1 p later) among

-- two tests that agree at each of these pass alike
pub any_alike : (one other : List ℕ → Bool) (ps : List (List ℕ)) → ((p : List ℕ) → In p ps → one p ≡ other p) → list_any one ps ≡ list_any other ps
unfolding In
any_alike one other [] each = refl
any_alike one other (q ∷ qs) each =
    ap (λ b. b || list_any one qs) (each q (inl refl))
    ∙ ap (λ b. other q || b) (any_alike one other qs (λ p among. each p (inr among)))

-- some of these passes
pub any_in : (test : List ℕ → Bool) (ps : List (List ℕ)) → list_any test ps ≡ true → (p : List ℕ) × In p ps × (test p ≡ true)
unfolding In
any_in test [] some = absurd (false≢true some)
any_in test (q ∷ qs) some =
    elim (test q) as (λ b. test q ≡ b → (b || list_any test qs) ≡ true → (p : List ℕ) × In p (q ∷ qs) × (test p ≡ true)) [
      | true ↦ λ passes _. (q, inl refl, passes)
      | false ↦ λ _ later. let found = any_in test qs later in (found.0, inr found.1, found.2)
    ] refl some

-- ---- the slashes of a path

-- what stands before each slash of the rest, behind these bytes
abbrev cuts : List ℕ → List ℕ → List (List ℕ)
cuts front [] = []
cuts front (b ∷ rest) = cond (eqb b 47) (front ∷ cuts (front ++ b ∷ []) rest) (cuts (front ++ b ∷ []) rest)

cuts_are : (front rest : List ℕ) (i : ℕ) (path : List ℕ) → length front ≡ i → path ≡ front ++ rest → above_from path i rest ≡ cuts front rest
cuts_are front [] i path long whole = refl
cuts_are front (b ∷ rest) i path long whole =
    let here : take i path ≡ front = ap (take i) whole ∙ take_at front (b ∷ rest) i long in
    let later = cuts_are (front ++ b ∷ []) rest (i + 1) path (length-append front (b ∷ []) ∙ omega (arith, long)) (whole ∙ sym (append_assoc front (b ∷ []) rest)) in
    λ k. cond (eqb b 47) (here k ∷ later k) (later k)

cut_in : (front part rest : List ℕ) → In (front ++ part) (cuts front (part ++ 47 ∷ rest))
unfolding In
cut_in front [] rest = inl (append-nil front)
cut_in front (c ∷ part) rest =
    let later = subst (λ (q : List ℕ). In q (cuts (front ++ c ∷ []) (part ++ 47 ∷ rest))) (append_assoc front (c ∷ []) part) (cut_in (front ++ c ∷ []) part rest) in
    elim (eqb c 47) as (λ b. In (front ++ c ∷ part) (cond b (front ∷ cuts (front ++ c ∷ []) (part ++ 47 ∷ rest)) (cuts (front ++ c ∷ []) (part ++ 47 ∷ rest)))) [ true ↦ inr later | false ↦ later ]

record Cut (front rest q : List ℕ) : Type 0 where
  part : List ℕ
  behind : List ℕ
  whole : rest ≡ part ++ 47 ∷ behind
  is : q ≡ front ++ part

in_cut : (front rest q : List ℕ) → In q (cuts front rest) → Cut front rest q
unfolding In
in_cut front [] q among = absurd among
in_cut front (b ∷ rest) q among =
    elim (eqb b 47) as (λ c. eqb b 47 ≡ c → In q (cond c (front ∷ cuts (front ++ b ∷ []) rest) (cuts (front ++ b ∷ []) rest)) → Cut front (b ∷ rest) q) [
      | true ↦ λ slash here. ⊎_elim
          (λ (same : q ≡ front). record { part = []; behind = rest; whole = ap (λ (c : ℕ). c ∷ rest) (eqb-true b 47 slash); is = same ∙ sym (append-nil front) })
          (λ (later : In q (cuts (front ++ b ∷ []) rest)). further (in_cut (front ++ b ∷ []) rest q later))
          here
      | false ↦ λ _ later. further (in_cut (front ++ b ∷ []) rest q later)
    ] refl among
  where
    further : Cut (front ++ b ∷ []) rest q → Cut front (b ∷ rest) q
    further cut = record {
      part = b ∷ cut.part;
      behind = cut.behind;
      whole = ap (λ (l : List ℕ). b ∷ l) cut.whole;
      is = cut.is ∙ append_assoc front (b ∷ []) cut.part;
    }

-- one path stands above another
pub record Above (q path : List ℕ) : Type 0 where
  pub behind : List ℕ
  pub whole : path ≡ q ++ 47 ∷ behind
  pub some : 0 < length q

above_of : (path : List ℕ) (first : ℕ) (rest : List ℕ) → above (first ∷ rest) ≡ cuts (first ∷ []) rest
unfolding above
above_of path first rest = cuts_are (first ∷ []) rest 1 (first ∷ rest) refl refl

pub above_in : (q path : List ℕ) → Above q path → In q (above path)
above_in [] path a = let some : 0 < length {A = ℕ} [] = a.some in absurd (omega arith)
above_in (first ∷ part) path a =
    subst (λ (p : List ℕ). In (first ∷ part) (above p)) (sym a.whole)
    (subst (In (first ∷ part)) (sym (above_of path first (part ++ 47 ∷ a.behind))) (cut_in (first ∷ []) part a.behind))

pub in_above : (q path : List ℕ) → In q (above path) → Above q path
unfolding In above
in_above q [] among = absurd among
in_above q (first ∷ rest) among =
    let cut = in_cut (first ∷ []) rest q (subst (In q) (above_of [] first rest) among) in
    let long : length q ≡ suc (length cut.part) = ap length cut.is in
    record {
      behind = cut.behind;
      whole = ap (λ (l : List ℕ). first ∷ l) cut.whole ∙ ap (λ (l : List ℕ). l ++ 47 ∷ cut.behind) (sym cut.is);
      some = omega arith;
    }

-- ---- what stands below

begins_whole : (front rest : List ℕ) → starts_with nat_eq (front ++ rest) front ≡ true
begins_whole [] [] = refl
begins_whole [] (b ∷ rest) = refl
begins_whole (b ∷ front) rest = ap (λ c. c && starts_with nat_eq (front ++ rest) front) (eq-eqb b b refl) ∙ begins_whole front rest

pub begins_with : (front text rest : List ℕ) → text ≡ front ++ rest → starts_with nat_eq text front ≡ true
begins_with front text rest whole = ap (λ (t : List ℕ). starts_with nat_eq t front) whole ∙ begins_whole front rest

pub rest_behind : (front text : List ℕ) → starts_with nat_eq text front ≡ true → text ≡ front ++ drop (length front) text
rest_behind [] text begins = refl
rest_behind (b ∷ front) [] begins = absurd (false≢true begins)
rest_behind (b ∷ front) (c ∷ text) begins =
    let parts = and_parts (eqb b c) (starts_with nat_eq text front) begins in
    λ i. sym (eqb-true b c parts.0) i ∷ rest_behind front text parts.1 i

-- what stands above a path has it below
pub below_of_above : (q path : List ℕ) → Above q path → is_below q path ≡ true
unfolding is_below
below_of_above q path a = begins_with (below_front q) path a.behind (a.whole ∙ sym (append_assoc q (47 ∷ []) a.behind))

pub above_of_below : (q path : List ℕ) → 0 < length q → is_below q path ≡ true → Above q path
unfolding is_below
above_of_below q path some below = record {
  behind = drop (length (below_front q)) path;
  whole = rest_behind (below_front q) path below ∙ append_assoc q (47 ∷ []) (drop (length (below_front q)) path);
  some = some;
}

-- a path isn't above itself
pub above_other : (q path : List ℕ) → Above q path → q ≡ path → ⊥
above_other q path a same =
    let long = ap length a.whole ∙ length-append q (47 ∷ a.behind) in
    let level = ap length same in
    let more : length (47 ∷ a.behind) ≡ suc (length a.behind) = refl in
    omega (arith, long, level, more)

-- two paths above a third one: they are one, or one is above the other
pub data Lie (q r : List ℕ) : Type 0 where
  one : q ≡ r → Lie q r
  first : (rest : List ℕ) → r ≡ q ++ 47 ∷ rest → Lie q r
  second : (rest : List ℕ) → q ≡ r ++ 47 ∷ rest → Lie q r

onto : (c d : ℕ) (q r : List ℕ) → c ≡ d → Lie q r → Lie (c ∷ q) (d ∷ r)
onto c d q r same (one is) = one (λ i. same i ∷ is i)
onto c d q r same (first rest is) = first rest (λ i. sym same i ∷ is i)
onto c d q r same (second rest is) = second rest (λ i. same i ∷ is i)

heads : (c d : ℕ) (xs ys : List ℕ) → c ∷ xs ≡ d ∷ ys → (c ≡ d) × (xs ≡ ys)
heads c d xs ys is = let head : c ≡ d = cc in let tail : xs ≡ ys = cc in (head, tail)

lie_by : (q r a b : List ℕ) → q ++ 47 ∷ a ≡ r ++ 47 ∷ b → Lie q r
lie_by [] [] a b is = one refl
lie_by [] (d ∷ r) a b is =
    let parts = heads 47 d a (r ++ 47 ∷ b) is in first r (ap (λ (c : ℕ). c ∷ r) (sym parts.0))
lie_by (c ∷ q) [] a b is =
    let parts = heads c 47 (q ++ 47 ∷ a) b is in second q (ap (λ (d : ℕ). d ∷ q) parts.0)
lie_by (c ∷ q) (d ∷ r) a b is =
    let parts = heads c d (q ++ 47 ∷ a) (r ++ 47 ∷ b) is in onto c d q r parts.0 (lie_by q r a b parts.1)

pub lie : (q r path : List ℕ) → Above q path → Above r path → Lie q r
lie q r path a b = lie_by q r a.behind b.behind (sym a.whole ∙ b.whole)

-- ---- the first slash

pub data Slash (rest : List ℕ) : Type 0 where
  none : list_any (λ b. eqb b 47) rest ≡ false → Slash rest
  at : (part behind : List ℕ) → rest ≡ part ++ 47 ∷ behind → list_any (λ b. eqb b 47) part ≡ false → Slash rest

behind_byte : (b : ℕ) (rest : List ℕ) → eqb b 47 ≡ false → Slash rest → Slash (b ∷ rest)
behind_byte b rest other (none lacks) = none (ap (λ c. c || list_any (λ b. eqb b 47) rest) other ∙ lacks)
behind_byte b rest other (at part behind whole lacks) =
    at (b ∷ part) behind (ap (λ (l : List ℕ). b ∷ l) whole) (ap (λ c. c || list_any (λ b. eqb b 47) part) other ∙ lacks)

pub first_slash : (rest : List ℕ) → Slash rest
first_slash [] = none refl
first_slash (b ∷ rest) =
    elim (eqb b 47) as (λ c. eqb b 47 ≡ c → Slash (b ∷ rest)) [
      | true ↦ λ slash. at [] rest (ap (λ (c : ℕ). c ∷ rest) (eqb-true b 47 slash)) refl
      | false ↦ λ other. behind_byte b rest other (first_slash rest)
    ] refl
