-- The keys of a map that begin with a front and have no slash behind it: they stand among those that begin so, which
-- stand together from the front on.
use Rattle.std.proofs.Common.{◌≡◌, ℕ, ◌+◌, ◌<◌, List, [], ◌∷◌, Bool, true, false, ◌&&◌, not, cond, arith, length, refl, sym, ap, subst, ◌∙◌}
use Rattle.std.proofs.lemmas.Bool.{false≢true}
use Rattle.std.specs.Prelude.{nat_eq, map, drop, ◌==◌, ⊤}
use Rattle.std.specs.BTreeMap as tree
use Rattle.std.specs.BTreeMap.Range.{entries_between, range_contains}
use Rattle.std.specs.declared.ops.Bound.TheVariants.{Included, Unbounded}
use Rattle.std.specs.Cmp.Lexicographic.{nat_list_cmp_total}
use Rattle.std.specs.FinMap as finite
use Rattle.std.specs.FinMap.Entries.{put, by_order}
use Rattle.std.specs.List.{AllByRecursion, filter, list_any, starts_with}
use Rattle.std.specs.List.Sorted.{IsStrictlySortedBy}
use Rattle.std.specs.Ordering.{is_gt, is_le}
use Rattle.std.specs.declared.cmp.Ordering.{Ordering}
use Rattle.std.specs.declared.cmp.Ordering.TheVariants.{Less, Equal, Greater}
use Rattle.cfa_base.specs.TextMaps.{text_cmp, by_bytes, text_map, is_leaf, count_leaves}
use Rattle.cfa_base.specs.lemmas.Fronts.{from_front, between}

less_is_le : (o : Ordering) → o ≡ Less → is_gt o ≡ false
less_is_le o less = ap is_gt less

not_gt : (o : Ordering) → (is_le o && true) ≡ true → is_gt o ≡ false
not_gt Less is = refl
not_gt Equal is = refl
not_gt Greater is = absurd (false≢true is)

le_of : (o : Ordering) → is_gt o ≡ false → (is_le o && true) ≡ true
le_of Less is = refl
le_of Equal is = refl
le_of Greater is = absurd (false≢true (sym is))

none : {A : Type 0} (es : List A) → length es ≡ 0 → es ≡ []
none [] is = refl
none (e ∷ es) is = absurd (omega arith)

-- at the start nothing was counted
pub fits_at_start : (n most : ℕ) → n < most → 0 + n < most
fits_at_start n most fits = omega arith

pub all_at_start : (n total : ℕ) → n ≡ total → 0 + n ≡ total
all_at_start n total all = omega arith

-- what doesn't begin so isn't a leaf
no_leaf : (front text : List ℕ) → starts_with nat_eq text front ≡ false → is_leaf front text ≡ false
no_leaf front text lacks = ap (λ b. b && not (list_any (λ b. b == 47) (drop (length front) text))) lacks

module _ {K X : Type 0} (bytes : K → List ℕ) (front : List ℕ) where
  -- the leaves among entries
  abbrev pub leaves : List (K × X) → List (List ℕ)
  leaves es = filter (is_leaf front) (map (λ e. bytes e.0) es)

  -- behind what doesn't begin so there is no leaf
  abbrev pub Grouped : List (K × X) → Type 0
  Grouped [] = ⊤
  Grouped (e ∷ es) = (starts_with nat_eq (bytes e.0) front ≡ false → leaves es ≡ []) × Grouped es

  -- where nothing is to come, all were counted
  pub none_behind : (count total : ℕ) (es : List (K × X)) → es ≡ [] → count + length (leaves es) ≡ total → count ≡ total
  none_behind count total es is all =
      let none_left : length (leaves es) ≡ 0 = ap (λ rest. length (leaves rest)) is in
      omega arith

  -- where the next key doesn't begin so, all were counted
  pub none_from : (count total : ℕ) (e : K × X) (rest es : List (K × X)) → es ≡ e ∷ rest → starts_with nat_eq (bytes e.0) front ≡ false → Grouped es → count + length (leaves es) ≡ total → count ≡ total
  none_from count total e rest es is apart groups all =
      let here : Grouped (e ∷ rest) = subst Grouped is groups in
      let empty : leaves es ≡ [] =
      ap leaves is ∙ ap (λ b. cond b (bytes e.0 ∷ leaves rest) (leaves rest)) (no_leaf front (bytes e.0) apart) ∙ here.0 apart in
      let none_left : length (leaves es) ≡ 0 = ap length empty in
      omega arith

module _ {K : Type 0} (bytes : K → List ℕ) where
  abbrev in_order : K → K → Ordering
  in_order x y = text_cmp (bytes x) (bytes y)

module _ {K : Type 0} (bytes : K → List ℕ) (front : K) where
  abbrev begins : K → Bool
  begins key = starts_with nat_eq (bytes key) (bytes front)

module _ {K X : Type 0} (bytes : K → List ℕ) (front : K) where
  abbrev here : List (K × X) → List (List ℕ)
  here es = leaves bytes (bytes front) es

  abbrev from_here : K × X → Bool
  from_here e = range_contains (in_order bytes) (Included front) Unbounded e.0

  leaf_first : (e : K × X) (es : List (K × X)) → is_leaf (bytes front) (bytes e.0) ≡ false → here (e ∷ es) ≡ here es
  leaf_first e es lacks = ap (λ b. cond b (bytes e.0 ∷ here es) (here es)) lacks

  -- each leaf stands from the front on
  leaves_between : (es : List (K × X)) → here (filter from_here es) ≡ here es
  leaves_between [] = refl
  leaves_between (e ∷ es) =
      elim (from_here e) as (λ b. from_here e ≡ b → here (cond b (e ∷ filter from_here es) (filter from_here es)) ≡ here (e ∷ es)) [
        | true ↦ λ _. ap (λ rest. cond (is_leaf (bytes front) (bytes e.0)) (bytes e.0 ∷ rest) rest) (leaves_between es)
        | false ↦ λ apart. leaves_between es ∙ sym (leaf_first e es (no_leaf (bytes front) (bytes e.0) (before apart)))
      ] refl
    where
      before : from_here e ≡ false → begins bytes front e.0 ≡ false
      before apart = elim (begins bytes front e.0) as (λ b. begins bytes front e.0 ≡ b → b ≡ false) [
        | true ↦ λ yes. absurd (false≢true (sym apart ∙ le_of (in_order bytes front e.0) (from_front (bytes front) (bytes e.0) yes)))
        | false ↦ λ _. refl
      ] refl

  -- behind a key from the front on that doesn't begin so there is no leaf
  none_later : (k : K) (es : List (K × X)) → is_gt (in_order bytes front k) ≡ false → begins bytes front k ≡ false → AllByRecursion (λ other. in_order bytes k other ≡ Less) (map (λ e. e.0) es) → here es ≡ []
  none_later k [] from apart each = refl
  none_later k (e ∷ es) from apart each =
      leaf_first e es (no_leaf (bytes front) (bytes e.0) (elim (begins bytes front e.0) as (λ b. begins bytes front e.0 ≡ b → b ≡ false) [
        | true ↦ λ yes. absurd (false≢true (sym apart ∙ between (bytes front) (bytes k) (bytes e.0) from (less_is_le (in_order bytes k e.0) each.0) yes))
        | false ↦ λ _. refl
      ] refl))
      ∙ none_later k es from apart each.1

  -- the entries from the front on are so
  groups : (es : List (K × X)) → IsStrictlySortedBy (in_order bytes) (map (λ e. e.0) es) → Grouped bytes (bytes front) (filter from_here es)
  unfolding IsStrictlySortedBy
  groups [] sorted = tt
  groups (e ∷ es) sorted =
      elim (from_here e) as (λ b. from_here e ≡ b → Grouped bytes (bytes front) (cond b (e ∷ filter from_here es) (filter from_here es))) [
        | true ↦ λ yes. ((λ apart. leaves_between es ∙ none_later e.0 es (not_gt (in_order bytes front e.0) yes) apart sorted.0), groups es sorted.1)
        | false ↦ λ _. groups es sorted.1
      ] refl

  pub grouped : (m : tree.BTreeMap K X) (r : List (K × X)) → r ≡ entries_between (in_order bytes) (Included front) Unbounded m.entries → tree.IsOrdered (in_order bytes) m → Grouped bytes (bytes front) r
  grouped m r is sorted = subst (Grouped bytes (bytes front)) (sym is) (groups m.entries sorted)

module _ {K X : Type 0} (bytes : K → List ℕ) where
  put_first : (e : K × X) (es : List (K × X)) → AllByRecursion (λ other. in_order bytes e.0 other ≡ Less) (map (λ e. e.0) es) → put text_cmp (bytes e.0) e.1 (by_bytes bytes es) ≡ by_bytes bytes (e ∷ es)
  put_first e [] each = refl
  put_first e (next ∷ es) each = ap (λ o. by_order o ((bytes e.0, e.1) ∷ by_bytes bytes (next ∷ es)) ((bytes next.0, e.1) ∷ by_bytes bytes es) ((bytes next.0, next.1) ∷ put text_cmp (bytes e.0) e.1 (by_bytes bytes es))) each.0

  -- the entries of the map are those in order
  entries_in_order : (es : List (K × X)) → IsStrictlySortedBy (in_order bytes) (map (λ e. e.0) es) → finite.entries (text_map bytes es) ≡ by_bytes bytes es
  unfolding IsStrictlySortedBy
  entries_in_order [] sorted = none (finite.entries finite.empty) (sym (finite.len-entries finite.empty) ∙ finite.len-empty text_cmp X)
  entries_in_order (e ∷ es) sorted =
      finite.entries-insert nat_list_cmp_total (text_map bytes es) (bytes e.0) e.1
      ∙ ap (put text_cmp (bytes e.0) e.1) (entries_in_order es sorted.1)
      ∙ put_first e es sorted.0

  keys_by_bytes : (es : List (K × X)) → map (λ e. e.0) (by_bytes bytes es) ≡ map (λ e. bytes e.0) es
  keys_by_bytes [] = refl
  keys_by_bytes (e ∷ es) = ap (λ rest. bytes e.0 ∷ rest) (keys_by_bytes es)

  -- the leaves of the part from the front on are those of the map
  pub leaves_are_counted : (front : K) (m : tree.BTreeMap K X) (r : List (K × X)) → r ≡ entries_between (in_order bytes) (Included front) Unbounded m.entries → tree.IsOrdered (in_order bytes) m → length (leaves bytes (bytes front) r) ≡ count_leaves (text_map bytes m.entries) (bytes front)
  leaves_are_counted front m r is sorted =
      ap (λ es. length (leaves bytes (bytes front) es)) is
      ∙ ap length (leaves_between bytes front m.entries)
      ∙ ap (λ (ks : List (List ℕ)). length (filter (is_leaf (bytes front)) ks)) (sym (ap (map (λ e. e.0)) (entries_in_order m.entries sorted) ∙ keys_by_bytes m.entries))
