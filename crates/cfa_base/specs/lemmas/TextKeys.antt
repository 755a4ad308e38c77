-- Maps whose keys are known by their bytes: what a change at the bytes of a key leaves at any bytes.
use Rattle.std.proofs.Common.{◌≡◌, ℕ, List, Bool, true, false, cond, Option, refl, sym, subst, ◌∙◌, ⊎_elim}
use Rattle.std.proofs.lemmas.Bool.{cases_Bool, cond-true, cond-false}
use Rattle.std.proofs.lemmas.Map.Text.{is_eq-slice_cmp}
use Rattle.std.specs.BTreeMap as tree
use Rattle.std.specs.HashMap as hash
use Rattle.std.specs.Map.{update, lookup, IsKeyTest, AreApart, KeepsOthers}
use Rattle.std.specs.Cmp.{eq_by_cmp_equiv}
use Rattle.std.specs.Cmp.Lexicographic.{slice_cmp, bytes_decides, nat_list_cmp_total, nat_list_eq_equiv}
use Rattle.std.specs.Ordering.{is_eq, nat_cmp}
use Rattle.std.specs.Str.{bytes_eq}

apart : (bs cs ks : List ℕ) → bytes_eq bs cs ≡ false → bytes_eq bs ks ≡ true → bytes_eq cs ks ≡ false
apart bs cs ks n y = nat_list_eq_equiv.symm cs ks ∙ sym (nat_list_eq_equiv.congr bs ks cs y) ∙ n

apart_in_order : (bs cs ks : List ℕ) → bytes_eq bs cs ≡ false → is_eq (slice_cmp nat_cmp bs ks) ≡ true → is_eq (slice_cmp nat_cmp cs ks) ≡ false
apart_in_order bs cs ks n y = is_eq-slice_cmp cs ks ∙ apart bs cs ks n (sym (is_eq-slice_cmp bs ks) ∙ y)

-- another query finds the same
other_found : {K X : Type 0} (eq : K → K → Bool) (test : K → Bool) (old new : List (K × X)) → KeepsOthers eq test old new → (other : K → Bool) → IsKeyTest eq other → AreApart test other → lookup other new ≡ lookup other old
unfolding KeepsOthers
other_found eq test old new h = h

-- what is w at bs, and f at other bytes
put_at : {W : Type 0} (f g : List ℕ → W) (bs : List ℕ) (w : W) → g bs ≡ w → ((cs : List ℕ) → bytes_eq bs cs ≡ false → g cs ≡ f cs) → (cs : List ℕ) → g cs ≡ cond (bytes_eq bs cs) w (f cs)
put_at f g bs w here other cs =
    ⊎_elim
    (λ y. subst (λ l. g l ≡ w) ((bytes_decides bs cs).0 y) here ∙ sym (cond-true (bytes_eq bs cs) w (f cs) y))
    (λ n. other cs n ∙ sym (cond-false (bytes_eq bs cs) w (f cs) n))
    (cases_Bool (bytes_eq bs cs))

module _ {K : Type 0} (bytes : K → List ℕ) where
  -- the values at bytes
  abbrev pub in_tree : {X : Type 0} → tree.BTreeMap K X → List ℕ → Option X
  in_tree m bs = tree.get_by (λ k. slice_cmp nat_cmp bs (bytes k)) m

  abbrev pub in_hash : {X S : Type 0} → hash.HashMap K X S → List ℕ → Option X
  in_hash m bs = hash.get_by (λ k. bytes_eq bs (bytes k)) m

  pub tree_updates : {X : Type 0} (bs : List ℕ) (m n : tree.BTreeMap K X) (w : Option X) → tree.UpdatesBy (λ x y. slice_cmp nat_cmp (bytes x) (bytes y)) (λ k. slice_cmp nat_cmp bs (bytes k)) m n w
      → (cs : List ℕ) → in_tree n cs ≡ update bytes_eq (in_tree m) bs w cs
  tree_updates bs m n w h = put_at (in_tree m) (in_tree n) bs w h.1 (λ cs e. other_found _ _ _ _ h.3 _ (λ x y. (eq_by_cmp_equiv nat_list_cmp_total).congr cs (bytes x) (bytes y)) (λ k. apart_in_order bs cs (bytes k) e))

  pub hash_updates : {X S : Type 0} (bs : List ℕ) (m n : hash.HashMap K X S) (w : Option X) → hash.UpdatesBy (λ x y. bytes_eq (bytes x) (bytes y)) (λ k. bytes_eq bs (bytes k)) m n w
      → (cs : List ℕ) → in_hash n cs ≡ update bytes_eq (in_hash m) bs w cs
  hash_updates bs m n w h = put_at (in_hash m) (in_hash n) bs w h.1 (λ cs e. other_found _ _ _ _ h.3 _ (λ x y. nat_list_eq_equiv.congr cs (bytes x) (bytes y)) (λ k. apart bs cs (bytes k) e))
