-- Where instances stand in a list, and in the table of places.
use Rattle.std.proofs.Common.{◌≡◌, ◌⊎◌, ℕ, zero, suc, Bool, true, false, cond, ◌&&◌, List, [], ◌∷◌, ◌++◌, length, Option, Some, None, inl, inr, refl, sym, ap, subst, ◌∙◌}
use Rattle.std.proofs.lemmas.Map.Steps.{set_value_same}
use Rattle.std.specs.BTreeMap as tree
use Rattle.std.specs.Cmp.Lexicographic.{slice_cmp}
use Rattle.std.specs.Ordering.{nat_cmp}
use Rattle.std.specs.Prelude.{IsSome, option_and_then, unwrap_or}
use Rattle.std.specs.declared.cmp.Ordering.{Ordering}
use Rattle.std.specs.FinMap as finite
use Rattle.std.specs.Str.{bytes_eq}
use Rattle.std.proofs.lemmas.Bool.{and_parts}
use Rattle.std.proofs.lemmas.Slice.Eq.{bytes_eq-Decides}
use Rattle.cfa_base.specs.TextMaps.{TextMap, text_cmp, text_map}
use Rattle.cfa_base.specs.lemmas.TextKeys.{in_tree}
use Rattle.cfa_base.specs.lemmas.TextMaps.{get-put, get-text_map, text_map-put}
use Rattle.cfa_resolve.specs.declared.instances.Instance.{Instance}
use Rattle.cfa_states.specs.History.{is_named}
use Rattle.cfa_states.specs.Names.{name_of}
use Rattle.cfa_states.specs.Logs.{Places, placed, with_place, seen_at, NotesPlace, HasPlaces}

-- who is named so has this path and this key text
named : (path text : List ℕ) (x : Instance) → is_named path text x ≡ true → (x.path ≡ path) × (x.text ≡ text)
named path text x is =
    let both = and_parts (bytes_eq x.path path) (bytes_eq x.text text) is in
    ((bytes_eq-Decides x.path path).0 both.0, (bytes_eq-Decides x.text text).0 both.1)

-- ---- a list

-- what stands at a place stays there
pub seen_push : (xs : List Instance) (x : Instance) (place : ℕ) (name : List ℕ × List ℕ) → seen_at xs place ≡ Some name → seen_at (xs ++ x ∷ []) place ≡ Some name
seen_push [] x place name e = cc
seen_push (y ∷ ys) x zero name e = e
seen_push (y ∷ ys) x (suc place) name e = seen_push ys x place name e

pub seen_new : (xs : List Instance) (x : Instance) → seen_at (xs ++ x ∷ []) (length xs) ≡ Some (name_of x)
seen_new [] x = refl
seen_new (y ∷ ys) x = seen_new ys x

-- ---- the table

inner_is : (o : Option (TextMap ℕ)) (text : List ℕ) → finite.get (unwrap_or o finite.empty) text ≡ option_and_then (λ (texts : TextMap ℕ). finite.get texts text) o
inner_is None text = finite.get-empty text_cmp text
inner_is (Some texts) text = refl

pub placed-with_place : (m : Places) (path text : List ℕ) (place : ℕ) (p t : List ℕ) →
    placed (with_place m path text place) p t ≡ cond (bytes_eq path p && bytes_eq text t) (Some place) (placed m p t)
placed-with_place m path text place p t =
    let at : Places → List ℕ → Option ℕ = λ n q. placed n q t in
    let inner : TextMap ℕ = finite.insert (unwrap_or (finite.get m path) finite.empty) text place in
    let look : Option (TextMap ℕ) → Option ℕ = option_and_then (λ (texts : TextMap ℕ). finite.get texts t) in
    ap look (get-put m path inner p)
    ∙ elim (bytes_eq path p) as (λ b. bytes_eq path p ≡ b → look (cond b (Some inner) (finite.get m p)) ≡ cond (b && bytes_eq text t) (Some place) (placed m p t)) [
      | true ↦ λ e.
          get-put (unwrap_or (finite.get m path) finite.empty) text place t
          ∙ ap (cond (bytes_eq text t) (Some place)) (inner_is (finite.get m path) t ∙ ap (at m) ((bytes_eq-Decides path p).0 e))
      | false ↦ λ _. refl
    ] refl

no_place : {A : Type 0} (place : ℕ) → ◌≡◌ {A = Option ℕ} None (Some place) → A
no_place place e = cc

module _ (m : Places) (x : Instance) (place : ℕ) where
  noted_by : (path text : List ℕ) (known : ℕ) (b : Bool) → is_named path text x ≡ b → cond b (Some place) (placed m path text) ≡ Some known
      → (placed m path text ≡ Some known) ⊎ ((name_of x ≡ (path, text)) × (known ≡ place))
  noted_by path text known true is e =
      let names = named path text x is in
      inr ((λ j. (names.0 j, names.1 j)), ap (λ (o : Option ℕ). unwrap_or o 0) (sym e))
  noted_by path text known false is e = inl e

  -- an instance that is noted has this place
  pub notes_place : (n : Places) (path text : List ℕ) (number : ℕ) → path ≡ x.path → text ≡ x.text → number ≡ place → n ≡ with_place m path text number → NotesPlace m n x place
  notes_place n path text number by_path by_text by_place is p t known there =
      noted_by p t known (is_named p t x) refl
      (sym (ap (λ k. placed k p t) (is ∙ ap (λ q. with_place m q text number) by_path ∙ ap (λ q. with_place m x.path q number) by_text ∙ ap (with_place m x.path x.text) by_place)
      ∙ placed-with_place m x.path x.text place p t) ∙ there)

-- the table of a list with one more instance
more_by : (m : Places) (xs : List Instance) (x : Instance) (p t : List ℕ) (place : ℕ) → HasPlaces m xs
    → (placed m p t ≡ Some place) ⊎ ((name_of x ≡ (p, t)) × (place ≡ length xs)) → seen_at (xs ++ x ∷ []) place ≡ Some (p, t)
more_by m xs x p t place has (inl old) = seen_push xs x place (p, t) (has p t place old)
more_by m xs x p t place has (inr new) = ap (seen_at (xs ++ x ∷ [])) new.1 ∙ seen_new xs x ∙ ap (λ (n : List ℕ × List ℕ). Some n) new.0

pub has_more : (m n : Places) (xs : List Instance) (x : Instance) → HasPlaces m xs → NotesPlace m n x (length xs) → HasPlaces n (xs ++ x ∷ [])
has_more m n xs x has notes p t place there = more_by m xs x p t place has (notes p t place there)

-- the table of no instances
pub has_none : (m : Places) → m ≡ finite.empty → HasPlaces m []
has_none m is p t place there =
    no_place place (sym (ap (λ n. placed n p t) is ∙ ap (option_and_then (λ (texts : TextMap ℕ). finite.get texts t)) (finite.get-empty text_cmp p)) ∙ there)

-- ---- what is written through a look-up by bytes

module _ {K : Type 0} (bytes : K → List ℕ) where
  abbrev in_order : K → K → Ordering
  in_order x y = slice_cmp nat_cmp (bytes x) (bytes y)

  -- what is found at a path
  pub places_at-found : (m : tree.BTreeMap K (TextMap ℕ)) (places : Places) (bs path : List ℕ) (found : Option (TextMap ℕ))
      → text_map bytes m.entries ≡ places → bs ≡ path → found ≡ in_tree bytes m bs → finite.get places path ≡ found
  places_at-found m places bs path found view by_path is =
      ap (finite.get places) (sym by_path) ∙ ap (λ (n : Places). finite.get n bs) (sym view) ∙ get-text_map bytes m.entries bs ∙ sym is

  -- the place of a text was put where those of its path lie
  pub place-written : (m n : tree.BTreeMap K (TextMap ℕ)) (places : Places) (bs path text : List ℕ) (place : ℕ) (before after : TextMap ℕ)
      → text_map bytes m.entries ≡ places → bs ≡ path → Some before ≡ in_tree bytes m bs
      → tree.WritesThrough in_order (λ k. slice_cmp nat_cmp bs (bytes k)) m after n → after ≡ finite.insert before text place
      → text_map bytes n.entries ≡ with_place places path text place
  place-written m n places bs path text place before after view by_path is writes puts =
      let there : IsSome (in_tree bytes m bs) = subst IsSome is refl in
      let put : text_map bytes n.entries ≡ finite.insert (text_map bytes m.entries) bs after = text_map-put bytes bs m n after (writes.3 there) in
      let at : finite.get places path ≡ Some before = places_at-found m places bs path (Some before) view by_path is in
      let value : after ≡ finite.insert (unwrap_or (finite.get places path) finite.empty) text place =
      puts ∙ ap (λ (o : Option (TextMap ℕ)). finite.insert (unwrap_or o finite.empty) text place) (sym at) in
      put ∙ ap (λ (t : Places). finite.insert t bs after) view ∙ ap (λ p. finite.insert places p after) by_path ∙ ap (finite.insert places path) value

  -- nothing was written
  pub place-left : (m n : tree.BTreeMap K (TextMap ℕ)) (places : Places) (bs : List ℕ) (before after : TextMap ℕ)
      → text_map bytes m.entries ≡ places → Some before ≡ in_tree bytes m bs
      → tree.WritesThrough in_order (λ k. slice_cmp nat_cmp bs (bytes k)) m after n → after ≡ before
      → text_map bytes n.entries ≡ places
  place-left m n places bs before after view is writes stays =
      ap (text_map bytes) (writes.0 ∙ set_value_same _ m.entries after (sym (ap Some stays ∙ is))) ∙ view

  -- a path got its first place
  pub place-added : (m n : tree.BTreeMap K (TextMap ℕ)) (places : Places) (key : K) (bs path text : List ℕ) (place : ℕ) (empty texts : TextMap ℕ)
      → text_map bytes m.entries ≡ places → bs ≡ path → bytes key ≡ path → None ≡ in_tree bytes m bs
      → tree.Updates in_order m n key (Some texts) → empty ≡ finite.empty → texts ≡ finite.insert empty text place
      → text_map bytes n.entries ≡ with_place places path text place
  place-added m n places key bs path text place empty texts view by_path by_key is updates bare puts =
      let put : text_map bytes n.entries ≡ finite.insert (text_map bytes m.entries) (bytes key) texts = text_map-put bytes (bytes key) m n texts updates in
      let at : finite.get places path ≡ None = places_at-found m places bs path None view by_path is in
      let value : texts ≡ finite.insert (unwrap_or (finite.get places path) finite.empty) text place =
      puts ∙ ap (λ (t : TextMap ℕ). finite.insert t text place) bare
      ∙ ap (λ (o : Option (TextMap ℕ)). finite.insert (unwrap_or o finite.empty) text place) (sym at) in
      put ∙ ap (λ (t : Places). finite.insert t (bytes key) texts) view ∙ ap (λ p. finite.insert places p texts) by_key ∙ ap (finite.insert places path) value

-- ---- a look-up

module _ {K : Type 0} (bytes : K → List ℕ) where
  pub placed_is : (m : tree.BTreeMap K (TextMap ℕ)) (places : Places) (bs path ts text : List ℕ) (texts : TextMap ℕ) (found : Option ℕ)
      → text_map bytes m.entries ≡ places → bs ≡ path → ts ≡ text → Some texts ≡ in_tree bytes m bs → found ≡ finite.get texts ts → found ≡ placed places path text
  placed_is m places bs path ts text texts found view by_path by_text is found_is =
      found_is ∙ ap (finite.get texts) by_text
      ∙ sym (ap (option_and_then (λ (all : TextMap ℕ). finite.get all text)) (places_at-found bytes m places bs path (Some texts) view by_path is))

  pub placed_nowhere : (m : tree.BTreeMap K (TextMap ℕ)) (places : Places) (bs path text : List ℕ)
      → text_map bytes m.entries ≡ places → bs ≡ path → None ≡ in_tree bytes m bs → ◌≡◌ {A = Option ℕ} None (placed places path text)
  placed_nowhere m places bs path text view by_path is =
      sym (ap (option_and_then (λ (all : TextMap ℕ). finite.get all text)) (places_at-found bytes m places bs path None view by_path is))
