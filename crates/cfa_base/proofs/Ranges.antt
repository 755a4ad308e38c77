-- The keys of a map that begin with a front: the first key from the front on tells whether there is one.
use Rattle.std.proofs.Common.{◌≡◌, ℕ, List, [], ◌∷◌, Bool, true, false, is_some, refl, sym, ap, subst, ◌∙◌}
use Rattle.std.proofs.lemmas.Bool.{false≢true}
use Rattle.std.specs.Prelude.{nat_eq}
use Rattle.std.specs.BTreeMap as tree
use Rattle.std.specs.BTreeMap.Range.{IsRangeOf}
use Rattle.std.specs.declared.ops.Bound.TheVariants.{Included, Unbounded}
use Rattle.std.specs.FinMap as map
use Rattle.std.specs.List.{list_any, starts_with}
use Rattle.std.specs.Ordering.{eq_by_cmp}
use Rattle.std.specs.declared.cmp.Ordering.{Ordering}
use Rattle.cfa_base.specs.TextMaps.{text_cmp, text_map}
use Rattle.cfa_base.specs.lemmas.Fronts.{from_front, between}
use Rattle.cfa_base.specs.lemmas.TextKeys.{in_tree}
use Rattle.cfa_base.specs.lemmas.TextMaps.{get-text_map, found_key, any_passes, none_passes}

module _ {K X : Type 0} (bytes : K → List ℕ) (m : tree.BTreeMap K X) (front : K) where
  abbrev in_order : K → K → Ordering
  in_order x y = text_cmp (bytes x) (bytes y)

  abbrev begins : List ℕ → Bool
  begins key = starts_with nat_eq key (bytes front)

  -- a key of the map, by its look-up
  among_is : (q : List ℕ) → list_any (eq_by_cmp text_cmp q) (map.keys (text_map bytes m.entries)) ≡ is_some (in_tree bytes m q)
  among_is q = sym (map.contains_key-keys (text_map bytes m.entries) q) ∙ ap is_some (get-text_map bytes m.entries q)

  -- what no key of the map has, no key seen by its bytes has
  no_key : ((k : K) → is_some (tree.get in_order m k) ≡ true → begins (bytes k) ≡ false) → (q : List ℕ) → list_any (eq_by_cmp text_cmp q) (map.keys (text_map bytes m.entries)) ≡ true → begins q ≡ false
  no_key each q among =
      let here : is_some (in_tree bytes m q) ≡ true = sym (among_is q) ∙ among in
      let key = found_key bytes q m.entries here in
      subst (λ (bs : List ℕ). begins bs ≡ false) key.1 (each key.0 (subst (λ (bs : List ℕ). is_some (in_tree bytes m bs) ≡ true) (sym key.1) here))

  -- where a key stands from the front on, the first one tells
  pub first_tells : (e : K × X) (t r : List (K × X)) → IsRangeOf in_order (Included front) Unbounded m r → r ≡ e ∷ t → begins (bytes e.0) ≡ list_any begins (map.keys (text_map bytes m.entries))
  first_tells e t r range is =
      let whole = subst (λ (es : List (K × X)). IsRangeOf in_order (Included front) Unbounded m es) is range in
      elim (begins (bytes e.0)) as (λ b. begins (bytes e.0) ≡ b → b ≡ list_any begins (map.keys (text_map bytes m.entries))) [
        | true ↦ λ yes. sym (any_passes begins (bytes e.0) _ yes (among_is (bytes e.0) ∙ ap is_some whole.1.1))
        | false ↦ λ no. sym (none_passes begins _ (no_key (λ k here.
            elim (begins (bytes k)) as (λ b. begins (bytes k) ≡ b → b ≡ false) [
              | true ↦ λ yes. absurd (false≢true (sym no ∙ between (bytes front) (bytes e.0) (bytes k) whole.1.0.0 (whole.2 k (from_front (bytes front) (bytes k) yes, tt) here) yes))
              | false ↦ λ _. refl
            ] refl)))
      ] refl

  -- where no key stands from the front on, none begins with it
  pub none_tells : (r : List (K × X)) → IsRangeOf in_order (Included front) Unbounded m r → r ≡ [] → false ≡ list_any begins (map.keys (text_map bytes m.entries))
  none_tells r range is = sym (none_passes begins _ (no_key (λ k here.
      elim (begins (bytes k)) as (λ b. begins (bytes k) ≡ b → b ≡ false) [
        | true ↦ λ yes. absurd (false≢true (sym (ap is_some (range.5 is k (from_front (bytes front) (bytes k) yes, tt))) ∙ here))
        | false ↦ λ _. refl
      ] refl)))
