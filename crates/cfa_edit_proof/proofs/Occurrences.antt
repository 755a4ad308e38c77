-- Where a text stands in others: nowhere in two texts in which it doesn't stand, joined by one that has none of its bytes.
use Rattle.std.proofs.Common.{◌≡◌, ℕ, ◌+◌, ◌<◌, ◌≤◌, zero, suc, Bool, true, false, ◌&&◌, List, [], ◌∷◌, ◌++◌, length, take, drop, refl, sym, ap, ◌∙◌, arith, nat_eq}
use Rattle.std.proofs.lemmas.Bool.{true≢false, and_parts, or_parts, or_from, both_ways, eqb-true, eq-eqb}
use Rattle.std.proofs.lemmas.List.{drop-drop}
use Rattle.std.specs.List.{starts_with}
use Rattle.cfa_edit_proof.specs.Plain.{contains, is_in, share}

-- the text begins with the word
abbrev pub begins : (text word : List ℕ) → Bool
begins text word = starts_with nat_eq text word

-- the word stands nowhere in the text
pub record IsFree (text word : List ℕ) : Type 0 where
  pub at : (k : ℕ) → begins (drop k text) word ≡ false

-- ---- the test

pub free_of_test : (text word : List ℕ) → contains text word ≡ false → IsFree text word
free_of_test text word none = record { at = go text none } where
  go : (bs : List ℕ) → contains bs word ≡ false → (k : ℕ) → begins (drop k bs) word ≡ false
  go [] none zero = none
  go [] none (suc k) = none
  go (b ∷ bs) none zero = (or_parts (begins (b ∷ bs) word) (contains bs word) none).0
  go (b ∷ bs) none (suc k) = go bs (or_parts (begins (b ∷ bs) word) (contains bs word) none).1 k

-- ---- what begins a text

-- the lists have no element in common if the first has none of the longer one
shares_fewer : (v : List ℕ) (q : ℕ) (p : List ℕ) → share v (q ∷ p) ≡ false → share v p ≡ false
shares_fewer [] q p none = refl
shares_fewer (w ∷ v) q p none =
    let both = or_parts (is_in (q ∷ p) w) (share v (q ∷ p)) none in
    or_from (is_in p w) (share v p) (or_parts (nat_eq w q) (is_in p w) both.0).1 (shares_fewer v q p both.1)

head_differs : (w : ℕ) (v : List ℕ) (q : ℕ) (p : List ℕ) → share (w ∷ v) (q ∷ p) ≡ false → nat_eq q w ≡ false
head_differs w v q p none =
    let differ = (or_parts (nat_eq w q) (is_in p w) (or_parts (is_in (q ∷ p) w) (share v (q ∷ p)) none).0).0 in
    turned (nat_eq q w) refl differ
  where
    turned : (b : Bool) → nat_eq q w ≡ b → nat_eq w q ≡ false → nat_eq q w ≡ false
    turned true is miss = absurd (both_ways (nat_eq w q) miss (eq-eqb w q (sym (eqb-true q w is))))
    turned false is miss = is

begins_other : (w : ℕ) (v b : List ℕ) (q : ℕ) (p : List ℕ) → nat_eq q w ≡ false → begins ((w ∷ v) ++ b) (q ∷ p) ≡ false
begins_other w v b q p differ = ap (λ (x : Bool). x && begins (v ++ b) p) differ

-- what begins a text that goes on with other bytes begins its front
begins_front : (a v b p : List ℕ) → share v p ≡ false → 0 < length v → begins (a ++ (v ++ b)) p ≡ true → begins a p ≡ true
begins_front a v b [] none some is = refl
begins_front [] [] b (q ∷ p) none some is = absurd (omega arith)
begins_front [] (w ∷ v) b (q ∷ p) none some is = absurd (both_ways (begins ((w ∷ v) ++ b) (q ∷ p)) (begins_other w v b q p (head_differs w v q p none)) is)
begins_front (c ∷ a) v b (q ∷ p) none some is =
    let both = and_parts (nat_eq q c) (begins (a ++ (v ++ b)) p) is in
    let rest = begins_front a v b p (shares_fewer v q p none) some both.1 in
    ap (λ (x : Bool). x && begins a p) both.0 ∙ rest

no_front : (a v b p : List ℕ) → share v p ≡ false → 0 < length v → begins a p ≡ false → begins (a ++ (v ++ b)) p ≡ false
no_front a v b p none some miss = by (begins (a ++ (v ++ b)) p) refl where
  by : (x : Bool) → begins (a ++ (v ++ b)) p ≡ x → x ≡ false
  by true is = absurd (both_ways (begins a p) miss (begins_front a v b p none some is))
  by false is = refl

begins_taken : (n : ℕ) (t p : List ℕ) → begins (take n t) p ≡ true → begins t p ≡ true
begins_taken n t [] is = refl
begins_taken zero t (q ∷ p) is = absurd (true≢false (sym is))
begins_taken (suc n) [] (q ∷ p) is = is
begins_taken (suc n) (c ∷ t) (q ∷ p) is =
    let both = and_parts (nat_eq q c) (begins (take n t) p) is in
    ap (λ (x : Bool). x && begins t p) both.0 ∙ begins_taken n t p both.1

no_taken : (n : ℕ) (t p : List ℕ) → begins t p ≡ false → begins (take n t) p ≡ false
no_taken n t p miss = by (begins (take n t) p) refl where
  by : (x : Bool) → begins (take n t) p ≡ x → x ≡ false
  by true is = absurd (both_ways (begins t p) miss (begins_taken n t p is))
  by false is = refl

-- ---- texts without it

free_behind : (v b p : List ℕ) → share v p ≡ false → 0 < length p → IsFree b p → IsFree (v ++ b) p
free_behind v b [] none some free = absurd (omega arith)
free_behind v b (q ∷ p) none some free = record { at = go v none } where
  go : (w : List ℕ) → share w (q ∷ p) ≡ false → (k : ℕ) → begins (drop k (w ++ b)) (q ∷ p) ≡ false
  go [] none k = free.at k
  go (c ∷ w) none zero = begins_other c w b q p (head_differs c w q p none)
  go (c ∷ w) none (suc k) = go w (or_parts (is_in (q ∷ p) c) (share w (q ∷ p)) none).1 k

-- two texts joined by one that has none of its bytes
pub free_joined : (a v b p : List ℕ) → share v p ≡ false → 0 < length v → 0 < length p → IsFree a p → IsFree b p → IsFree (a ++ (v ++ b)) p
free_joined a v b p none some word front back = record { at = go a (λ k. front.at k) } where
  go : (c : List ℕ) → ((k : ℕ) → begins (drop k c) p ≡ false) → (k : ℕ) → begins (drop k (c ++ (v ++ b))) p ≡ false
  go [] free k = (free_behind v b p none word back).at k
  go (x ∷ c) free zero = no_front (x ∷ c) v b p none some (free zero)
  go (x ∷ c) free (suc k) = go c (λ i. free (suc i)) k

-- the end of a text
pub free_end : (n : ℕ) (t p : List ℕ) → ((k : ℕ) → n ≤ k → begins (drop k t) p ≡ false) → IsFree (drop n t) p
free_end n t p free = record { at = λ k. ap (λ x. begins x p) (drop-drop k n t) ∙ free (n + k) (omega arith) }

pub begins_nothing : (p : List ℕ) → 0 < length p → begins [] p ≡ false
begins_nothing [] some = absurd (omega arith)
begins_nothing (q ∷ p) some = refl

-- the front of a text
pub free_start : (n : ℕ) (t p : List ℕ) → 0 < length p → ((k : ℕ) → k < n → begins (drop k t) p ≡ false) → IsFree (take n t) p
free_start n t p some free = record { at = go n t free } where
  go : (m : ℕ) (s : List ℕ) → ((k : ℕ) → k < m → begins (drop k s) p ≡ false) → (k : ℕ) → begins (drop k (take m s)) p ≡ false
  go zero s free zero = begins_nothing p some
  go zero s free (suc k) = begins_nothing p some
  go (suc m) [] free zero = begins_nothing p some
  go (suc m) [] free (suc k) = begins_nothing p some
  go (suc m) (c ∷ s) free zero = no_taken (suc m) (c ∷ s) p (free zero (omega arith))
  go (suc m) (c ∷ s) free (suc k) = go m s (λ i le. free (suc i) (omega arith)) k
