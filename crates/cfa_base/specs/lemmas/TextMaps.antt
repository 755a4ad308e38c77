-- Look-ups and changes of a map with text keys, seen as a finite map from bytes.
use Rattle.std.proofs.Common.{◌≡◌, ℕ, List, [], ◌∷◌, Bool, true, false, cond, ◌||◌, Option, Some, None, is_some, refl, sym, ap, ◌∙◌}
use Rattle.std.proofs.lemmas.Bool.{false≢true, or_right}
use Rattle.std.proofs.lemmas.Cmp.{tied_itself}
use Rattle.std.proofs.lemmas.Map.Text.{is_eq-slice_cmp}
use Rattle.std.proofs.lemmas.Slice.Eq.{bytes_eq-Decides}
use Rattle.std.specs.BTreeMap as tree
use Rattle.std.specs.Map.{lookup}
use Rattle.std.specs.FinMap as map
use Rattle.std.specs.FinMap.Entries.{put, by_order, find-put}
use Rattle.std.specs.List.{list_any}
use Rattle.std.specs.Cmp.{eq_by_cmp_equiv}
use Rattle.std.specs.Ordering.{eq_by_cmp, is_eq, match_ordering, nat_cmp}
use Rattle.std.specs.Str.{bytes_eq}
use Rattle.std.specs.Prelude.{option_copied}
use denote.Ref.{Bor}
use Rattle.std.specs.Cmp.Lexicographic.{nat_list_cmp_total, slice_cmp}
use Rattle.std.specs.declared.cmp.Ordering.TheVariants.{Less, Equal, Greater}
use Rattle.cfa_base.specs.TextMaps.{text_cmp, TextMap, by_bytes, text_map}
use Rattle.cfa_base.specs.lemmas.TextKeys.{in_tree, tree_updates}

pub same_texts : map.IsAntisymmetric text_cmp
same_texts = map.slice_cmp-IsAntisymmetric map.nat_cmp-IsAntisymmetric

-- texts that tie are one
pub tied : (q k : List ℕ) → eq_by_cmp text_cmp q k ≡ true → q ≡ k
tied q k e = (bytes_eq-Decides q k).0 (sym (is_eq-slice_cmp q k) ∙ e)

pub ties : (q : List ℕ) → eq_by_cmp text_cmp q q ≡ true
ties q = ap is_eq (tied_itself nat_list_cmp_total q)

module _ {K X : Type 0} (bytes : K → List ℕ) where
  find-by_bytes : (q : List ℕ) (es : List (K × X)) → map.find text_cmp q (by_bytes bytes es) ≡ lookup (λ k. is_eq (text_cmp q (bytes k))) es
  find-by_bytes q [] = refl
  find-by_bytes q (e ∷ es) = ap (cond (eq_by_cmp text_cmp q (bytes e.0)) (Some e.1)) (find-by_bytes q es)

  -- a look-up by bytes
  pub get-text_map : (es : List (K × X)) (q : List ℕ) → map.get (text_map bytes es) q ≡ lookup (λ k. is_eq (text_cmp q (bytes k))) es
  get-text_map es q = map.get-from_entries nat_list_cmp_total (by_bytes bytes es) q ∙ find-by_bytes q es

  by_bytes-insert_entry : (k : K) (v : X) (es : List (K × X)) → by_bytes bytes (tree.insert_entry (λ x y. text_cmp (bytes x) (bytes y)) es k v) ≡ put text_cmp (bytes k) v (by_bytes bytes es)
  by_bytes-insert_entry k v [] = refl
  by_bytes-insert_entry k v (e ∷ es) =
      elim (text_cmp (bytes k) (bytes e.0)) as (λ r. by_bytes bytes (match_ordering r ((k, v) ∷ e ∷ es) ((e.0, v) ∷ es) (e ∷ tree.insert_entry (λ x y. text_cmp (bytes x) (bytes y)) es k v)) ≡ by_order r ((bytes k, v) ∷ (bytes e.0, e.1) ∷ by_bytes bytes es) ((bytes e.0, v) ∷ by_bytes bytes es) ((bytes e.0, e.1) ∷ put text_cmp (bytes k) v (by_bytes bytes es))) [
        | Less ↦ refl
        | Equal ↦ refl
        | Greater ↦ ap (λ (rest : List (List ℕ × X)). (bytes e.0, e.1) ∷ rest) (by_bytes-insert_entry k v es)
      ]

  -- an insertion by a key is one by its bytes
  pub text_map-insert_entry : (es : List (K × X)) (k : K) (v : X) → text_map bytes (tree.insert_entry (λ x y. text_cmp (bytes x) (bytes y)) es k v) ≡ map.insert (text_map bytes es) (bytes k) v
  text_map-insert_entry es k v = map.same_map nat_list_cmp_total same_texts _ _ (λ q.
      map.get-from_entries nat_list_cmp_total _ q
      ∙ ap (map.find text_cmp q) (by_bytes-insert_entry k v es)
      ∙ find-put text_cmp nat_list_cmp_total q (bytes k) v (by_bytes bytes es)
      ∙ sym (map.get-insert nat_list_cmp_total (text_map bytes es) (bytes k) v q ∙ ap (cond (eq_by_cmp text_cmp q (bytes k)) (Some v)) (map.get-from_entries nat_list_cmp_total (by_bytes bytes es) q)))

  -- the key of what a look-up by bytes finds has these bytes
  pub found_key : (q : List ℕ) (es : List (K × X)) → is_some (lookup (λ k. is_eq (text_cmp q (bytes k))) es) ≡ true → (k : K) × (bytes k ≡ q)
  found_key q [] is = absurd (false≢true is)
  found_key q (e ∷ es) is =
      elim (eq_by_cmp text_cmp q (bytes e.0)) as (λ b. eq_by_cmp text_cmp q (bytes e.0) ≡ b → is_some (cond b (Some e.1) (lookup (λ k. is_eq (text_cmp q (bytes k))) es)) ≡ true → (k : K) × (bytes k ≡ q)) [
        | true ↦ λ same _. (e.0, sym (tied q (bytes e.0) same))
        | false ↦ λ _ rest. found_key q es rest
      ] refl is

-- what was put at a key that the map lacks, and taken out again, changes nothing
pub remove-insert : {X : Type 0} (m : TextMap X) (k : List ℕ) (v : X) → map.get m k ≡ None → map.remove (map.insert m k v) k ≡ m
remove-insert m k v none = map.same_map nat_list_cmp_total same_texts _ _ (λ q.
    map.get-remove nat_list_cmp_total (map.insert m k v) k q
    ∙ ap (cond (eq_by_cmp text_cmp q k) None) (map.get-insert nat_list_cmp_total m k v q)
    ∙ elim (eq_by_cmp text_cmp q k) as (λ b. eq_by_cmp text_cmp q k ≡ b → cond b None (cond b (Some v) (map.get m q)) ≡ map.get m q) [
      | true ↦ λ same. sym (ap (map.get m) (tied q k same) ∙ none)
      | false ↦ λ _. refl
    ] refl)

-- some element passes, where one that passes is among them
pub any_passes : (test : List ℕ → Bool) (q : List ℕ) (ks : List (List ℕ)) → test q ≡ true → list_any (eq_by_cmp text_cmp q) ks ≡ true → list_any test ks ≡ true
any_passes test q [] passes among = absurd (false≢true among)
any_passes test q (k ∷ ks) passes among =
    elim (eq_by_cmp text_cmp q k) as (λ b. eq_by_cmp text_cmp q k ≡ b → (b || list_any (eq_by_cmp text_cmp q) ks) ≡ true → (test k || list_any test ks) ≡ true) [
      | true ↦ λ same _. ap (λ b. b || list_any test ks) (ap test (sym (tied q k same)) ∙ passes)
      | false ↦ λ _ rest. or_right (test k) (list_any test ks) (any_passes test q ks passes rest)
    ] refl among

-- none passes, where each that is among them doesn't
pub none_passes : (test : List ℕ → Bool) (ks : List (List ℕ)) → ((q : List ℕ) → list_any (eq_by_cmp text_cmp q) ks ≡ true → test q ≡ false) → list_any test ks ≡ false
none_passes test [] each = refl
none_passes test (k ∷ ks) each =
    ap (λ b. b || list_any test ks) (each k (ap (λ b. b || list_any (eq_by_cmp text_cmp k) ks) (ties k)))
    ∙ none_passes test ks (λ q among. each q (or_right (eq_by_cmp text_cmp q k) (list_any (eq_by_cmp text_cmp q) ks) among))

-- two texts tie exactly where they are the same bytes
pub ties_alike : (k q : List ℕ) → eq_by_cmp text_cmp q k ≡ bytes_eq k q
ties_alike k q = sym (sym (is_eq-slice_cmp k q) ∙ (eq_by_cmp_equiv nat_list_cmp_total).symm k q)

-- to take out what a text finds is to take out its bytes
pub text_map-update : {K X : Type 0} (bytes : K → List ℕ) (bs : List ℕ) (m n : tree.BTreeMap K X) → tree.UpdatesBy (λ x y. slice_cmp nat_cmp (bytes x) (bytes y)) (λ k. slice_cmp nat_cmp bs (bytes k)) m n None → text_map bytes n.entries ≡ map.remove (text_map bytes m.entries) bs
text_map-update bytes bs m n updates = map.same_map nat_list_cmp_total same_texts _ _ (λ q.
    get-text_map bytes n.entries q
    ∙ tree_updates bytes bs m n None updates q
    ∙ ap (λ b. cond b None (in_tree bytes m q)) (sym (ties_alike bs q))
    ∙ ap (cond (eq_by_cmp text_cmp q bs) None) (sym (get-text_map bytes m.entries q))
    ∙ sym (map.get-remove nat_list_cmp_total (text_map bytes m.entries) bs q))

-- what a look-up doesn't find isn't there
pub absent : {A : Type 0} (found : Option (Bor A)) (o : Option A) → option_copied found ≡ o → is_some found ≡ false → o ≡ None
absent None o is _ = sym is
absent (Some x) o is lacks = absurd (false≢true (sym lacks))

pub present : {A : Type 0} (found : Option (Bor A)) (o : Option A) → option_copied found ≡ o → is_some found ≡ true → is_some o ≡ true
present None o is has = absurd (false≢true has)
present (Some x) o is _ = sym (ap is_some is)

-- what a text finds after a value was put at a text
pub get-put : {X : Type 0} (m : TextMap X) (k : List ℕ) (x : X) (q : List ℕ) → map.get (map.insert m k x) q ≡ cond (bytes_eq k q) (Some x) (map.get m q)
get-put m k x q = map.get-insert nat_list_cmp_total m k x q ∙ ap (λ b. cond b (Some x) (map.get m q)) (ties_alike k q)

-- to put a value at what has these bytes is to put it at them
pub text_map-put : {K X : Type 0} (bytes : K → List ℕ) (bs : List ℕ) (m n : tree.BTreeMap K X) (x : X) → tree.UpdatesBy (λ x y. slice_cmp nat_cmp (bytes x) (bytes y)) (λ k. slice_cmp nat_cmp bs (bytes k)) m n (Some x) → text_map bytes n.entries ≡ map.insert (text_map bytes m.entries) bs x
text_map-put bytes bs m n x updates = map.same_map nat_list_cmp_total same_texts _ _ (λ q.
    get-text_map bytes n.entries q
    ∙ tree_updates bytes bs m n (Some x) updates q
    ∙ ap (cond (bytes_eq bs q) (Some x)) (sym (get-text_map bytes m.entries q))
    ∙ sym (get-put (text_map bytes m.entries) bs x q))
