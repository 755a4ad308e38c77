-- Keys of maps: maps with the same keys list the same, and what is counted among keys of several maps is in balance
-- where it is at each key.
use Rattle.std.proofs.Common.{◌≡◌, ℕ, suc, ◌+◌, List, [], ◌∷◌, Bool, true, false, cond, ◌&&◌, T, map, length, filter, Option, Some, None, is_some, ⊎_elim, refl, sym, ap, subst, ◌∙◌, arith}
use Rattle.std.proofs.lemmas.Bool.{false≢true, or_left, or_right}
use Rattle.std.specs.FinMap as finite
use Rattle.std.specs.FinMap.Entries.{below_all, find, is_sorted, where_key, is_sorted-where_key, find-where_key, same_entries}
use Rattle.std.specs.List.{list_any}
use Rattle.std.specs.Cmp.Lexicographic.{nat_list_cmp_total}
use Rattle.std.specs.Ordering.{eq_by_cmp, is_lt}
use Rattle.cfa_base.specs.TextMaps.{TextMap, text_cmp, is_leaf, count_leaves}
use Rattle.cfa_base.specs.lemmas.TextMaps.{same_texts, ties, any_passes}
use Rattle.cfa_plan.proofs.OverlayPaths.{In, any_in}

-- ---- the keys alone

keyed : {X : Type 0} → List (List ℕ × X) → List (List ℕ × Unit {0})
keyed [] = []
keyed (e ∷ es) = (e.0, tt) ∷ keyed es

below_keyed : {X : Type 0} (x : List ℕ) (es : List (List ℕ × X)) → below_all text_cmp x (keyed es) ≡ below_all text_cmp x es
unfolding keyed
below_keyed x [] = refl
below_keyed x (e ∷ es) = ap (λ b. is_lt (text_cmp x e.0) && b) (below_keyed x es)

sorted_keyed : {X : Type 0} (es : List (List ℕ × X)) → is_sorted text_cmp (keyed es) ≡ is_sorted text_cmp es
unfolding keyed
sorted_keyed [] = refl
sorted_keyed (e ∷ es) = λ i. below_keyed e.0 es i && sorted_keyed es i

find_keyed : {X : Type 0} (q : List ℕ) (es : List (List ℕ × X)) → is_some (find text_cmp q (keyed es)) ≡ is_some (find text_cmp q es)
unfolding keyed
find_keyed q [] = refl
find_keyed q (e ∷ es) = elim (eq_by_cmp text_cmp q e.0) as (λ b. is_some (cond b (Some tt) (find text_cmp q (keyed es))) ≡ is_some (cond b (Some e.1) (find text_cmp q es))) [ true ↦ refl | false ↦ find_keyed q es ]

keys_keyed : {X : Type 0} (es : List (List ℕ × X)) → map (λ e. e.0) (keyed es) ≡ map (λ e. e.0) es
unfolding keyed
keys_keyed [] = refl
keys_keyed (e ∷ es) = ap (λ (rest : List (List ℕ)). e.0 ∷ rest) (keys_keyed es)

keys_where : (test : List ℕ → Bool) (es : List (List ℕ × Unit {0})) → map (λ e. e.0) (where_key text_cmp test es) ≡ filter test (map (λ e. e.0) es)
keys_where test [] = refl
keys_where test (e ∷ es) =
    elim (test e.0) as (λ b. map (λ e. e.0) (cond b (e ∷ where_key text_cmp test es) (where_key text_cmp test es)) ≡ cond b (e.0 ∷ filter test (map (λ e. e.0) es)) (filter test (map (λ e. e.0) es))) [
      | true ↦ ap (λ (rest : List (List ℕ)). e.0 ∷ rest) (keys_where test es)
      | false ↦ keys_where test es
    ]

same_unit : (o other : Option (Unit {0})) → is_some o ≡ is_some other → o ≡ other
same_unit None None is = refl
same_unit None (Some x) is = absurd (false≢true is)
same_unit (Some x) None is = absurd (false≢true (sym is))
same_unit (Some x) (Some y) is = refl

some_where : (b c : Bool) (o : Option (Unit {0})) → is_some o ≡ c → (b ≡ true → c ≡ true) → b ≡ is_some (cond b o None)
some_where true c o is covers = sym (is ∙ covers refl)
some_where false c o is covers = refl

module _ {X Y : Type 0} (m : TextMap X) (u : TextMap Y) (covers : (q : List ℕ) → finite.contains_key m q ≡ true → finite.contains_key u q ≡ true) where
  abbrev has : List ℕ → Bool
  has q = finite.contains_key m q

  here : (q : List ℕ) → is_some (find text_cmp q (keyed (finite.entries m))) ≡ has q
  here q = find_keyed q (finite.entries m) ∙ sym (ap is_some (finite.get-entries m q))

  there : (q : List ℕ) → is_some (find text_cmp q (keyed (finite.entries u))) ≡ finite.contains_key u q
  there q = find_keyed q (finite.entries u) ∙ sym (ap is_some (finite.get-entries u q))

  both_find : (q : List ℕ) → find text_cmp q (keyed (finite.entries m)) ≡ find text_cmp q (where_key text_cmp has (keyed (finite.entries u)))
  both_find q = same_unit _ _
      (here q
      ∙ some_where (has q) (finite.contains_key u q) (find text_cmp q (keyed (finite.entries u))) (there q) (covers q)
      ∙ sym (ap is_some (find-where_key text_cmp has q (λ x tie. ap has (sym (same_texts q x tie))) (keyed (finite.entries u)))))

  -- the keys of a map are those of a wider one that it has
  pub keys_within : finite.keys m ≡ filter has (finite.keys u)
  keys_within =
      sym (keys_keyed (finite.entries m))
      ∙ ap (map (λ e. e.0)) (same_entries text_cmp nat_list_cmp_total same_texts (keyed (finite.entries m)) (where_key text_cmp has (keyed (finite.entries u)))
      (subst T (sym (sorted_keyed (finite.entries m))) (finite.entries_sorted m))
      (is_sorted-where_key text_cmp has (keyed (finite.entries u)) (subst T (sym (sorted_keyed (finite.entries u))) (finite.entries_sorted u)))
      both_find)
      ∙ keys_where has (keyed (finite.entries u))
      ∙ ap (filter has) (keys_keyed (finite.entries u))

-- ---- counts in balance

one_key : (b c : Bool) (k : List ℕ) (leaf : List ℕ → Bool) (ks : List (List ℕ)) → leaf k ≡ c → length (filter leaf (cond b (k ∷ ks) ks)) ≡ cond c (cond b 1 0) 0 + length (filter leaf ks)
one_key true true k leaf ks is = ap (λ d. length (cond d (k ∷ filter leaf ks) (filter leaf ks))) is ∙ more (length (filter leaf ks)) where
  more : (n : ℕ) → suc n ≡ 1 + n
  more n = omega arith
one_key true false k leaf ks is = ap (λ d. length (cond d (k ∷ filter leaf ks) (filter leaf ks))) is ∙ more (length (filter leaf ks)) where
  more : (n : ℕ) → n ≡ 0 + n
  more n = omega arith
one_key false true k leaf ks is = more (length (filter leaf ks)) where
  more : (n : ℕ) → n ≡ 0 + n
  more n = omega arith
one_key false false k leaf ks is = more (length (filter leaf ks)) where
  more : (n : ℕ) → n ≡ 0 + n
  more n = omega arith

shared : (leaf : Bool) (a b c d : ℕ) → (leaf ≡ true → a + b ≡ c + d) → cond leaf a 0 + cond leaf b 0 ≡ cond leaf c 0 + cond leaf d 0
shared true a b c d is = is refl
shared false a b c d is = refl

sums : (a b c d a' b' c' d' : ℕ) → a + b ≡ c + d → a' + b' ≡ c' + d' → (a + a') + (b + b') ≡ (c + c') + (d + d')
sums a b c d a' b' c' d' first second = omega (arith, first, second)

module _ (leaf a b c d : List ℕ → Bool) (each : (k : List ℕ) → leaf k ≡ true → cond (a k) 1 0 + cond (b k) 1 0 ≡ cond (c k) 1 0 + cond (d k) 1 0) where
  counted : (List ℕ → Bool) → List (List ℕ) → ℕ
  counted test ks = length (filter leaf (filter test ks))

  next : (test : List ℕ → Bool) (k : List ℕ) (ks : List (List ℕ)) → counted test (k ∷ ks) ≡ cond (leaf k) (cond (test k) 1 0) 0 + counted test ks
  unfolding counted
  next test k ks = one_key (test k) (leaf k) k leaf (filter test ks) refl

  balanced : (ks : List (List ℕ)) → counted a ks + counted b ks ≡ counted c ks + counted d ks
  unfolding counted
  balanced [] = refl
  balanced (k ∷ ks) =
      (λ i. next a k ks i + next b k ks i)
      ∙ sums (cond (leaf k) (cond (a k) 1 0) 0) (cond (leaf k) (cond (b k) 1 0) 0) (cond (leaf k) (cond (c k) 1 0) 0) (cond (leaf k) (cond (d k) 1 0) 0)
      (counted a ks) (counted b ks) (counted c ks) (counted d ks)
      (shared (leaf k) (cond (a k) 1 0) (cond (b k) 1 0) (cond (c k) 1 0) (cond (d k) 1 0) (each k)) (balanced ks)
      ∙ sym (λ i. next c k ks i + next d k ks i)

-- four maps within a wider one, of which at each leaf as many of the first two have it as of the others
pub counts_balance : {A B C D U : Type 0} (a : TextMap A) (b : TextMap B) (c : TextMap C) (d : TextMap D) (u : TextMap U) (front : List ℕ) →
    ((q : List ℕ) → finite.contains_key a q ≡ true → finite.contains_key u q ≡ true) →
    ((q : List ℕ) → finite.contains_key b q ≡ true → finite.contains_key u q ≡ true) →
    ((q : List ℕ) → finite.contains_key c q ≡ true → finite.contains_key u q ≡ true) →
    ((q : List ℕ) → finite.contains_key d q ≡ true → finite.contains_key u q ≡ true) →
    ((q : List ℕ) → is_leaf front q ≡ true → cond (finite.contains_key a q) 1 0 + cond (finite.contains_key b q) 1 0 ≡ cond (finite.contains_key c q) 1 0 + cond (finite.contains_key d q) 1 0) →
    count_leaves a front + count_leaves b front ≡ count_leaves c front + count_leaves d front
unfolding counted
counts_balance a b c d u front in_a in_b in_c in_d each =
    let leaves = λ (ks : List (List ℕ)). length (filter (is_leaf front) ks) in
    (λ i. leaves (keys_within a u in_a i) + leaves (keys_within b u in_b i))
    ∙ balanced (is_leaf front) (finite.contains_key a) (finite.contains_key b) (finite.contains_key c) (finite.contains_key d) each (finite.keys u)
    ∙ sym (λ i. leaves (keys_within c u in_c i) + leaves (keys_within d u in_d i))

-- ---- some key passes

pub among_keys : (q : List ℕ) (ks : List (List ℕ)) → In q ks → list_any (eq_by_cmp text_cmp q) ks ≡ true
unfolding In
among_keys q [] among = absurd among
among_keys q (k ∷ ks) among =
    ⊎_elim
    (λ (same : q ≡ k). or_left (eq_by_cmp text_cmp q k) (list_any (eq_by_cmp text_cmp q) ks) (ap (eq_by_cmp text_cmp q) (sym same) ∙ ties q))
    (λ (later : In q ks). or_right (eq_by_cmp text_cmp q k) (list_any (eq_by_cmp text_cmp q) ks) (among_keys q ks later))
    among

-- a key of the map passes
pub key_passes : {X : Type 0} (test : List ℕ → Bool) (m : TextMap X) → list_any test (finite.keys m) ≡ true → (q : List ℕ) × (finite.contains_key m q ≡ true) × (test q ≡ true)
key_passes test m some =
    let found = any_in test (finite.keys m) some in
    (found.0, finite.contains_key-keys m found.0 ∙ among_keys found.0 (finite.keys m) found.1, found.2)

pub passes_with : {X : Type 0} (test : List ℕ → Bool) (m : TextMap X) (q : List ℕ) → finite.contains_key m q ≡ true → test q ≡ true → list_any test (finite.keys m) ≡ true
passes_with test m q here passes = any_passes test q (finite.keys m) passes (sym (finite.contains_key-keys m q) ∙ here)

both_ways : (b c : Bool) → (b ≡ true → c ≡ true) → (c ≡ true → b ≡ true) → b ≡ c
both_ways true c there back = sym (there refl)
both_ways false true there back = back refl
both_ways false false there back = refl

-- maps that have the same keys where a test passes
pub any_key_alike : {X Y : Type 0} (test : List ℕ → Bool) (m : TextMap X) (n : TextMap Y) → ((q : List ℕ) → test q ≡ true → finite.contains_key m q ≡ finite.contains_key n q) → list_any test (finite.keys m) ≡ list_any test (finite.keys n)
any_key_alike test m n alike = both_ways _ _
    (λ some. let found = key_passes test m some in passes_with test n found.0 (sym (alike found.0 found.2) ∙ found.1) found.2)
    (λ some. let found = key_passes test n some in passes_with test m found.0 (alike found.0 found.2 ∙ found.1) found.2)
