-- The table of places of shared scopes, and what is found by it.
use Rattle.std.proofs.Common.{◌≡◌, ◌<◌, if◌then◌else◌, ℕ, ◌+◌, zero, suc, Bool, true, false, cond, ◌||◌, List, [], ◌∷◌, ◌++◌, length, get_or, map, Option, Some, None, is_some, refl, sym, ap, subst, arith, ◌∙◌}
use Rattle.std.proofs.lemmas.Bool.{false≢true, or_parts}
use Rattle.std.proofs.lemmas.Iterator.Adapters.{position_from-zero}
use Rattle.std.proofs.lemmas.List.{map-append, length-map, set-get_or}
use Rattle.std.proofs.lemmas.Option.{slice_get-get_or, get_or_from_slice_get}
use Rattle.std.proofs.lemmas.List.Quantifiers.{position-Some}
use Rattle.std.proofs.Math.Seq.{map-set_same}
use Rattle.std.specs.FinMap as finite
use Rattle.std.specs.List.{list_any, position, position_from}
use Rattle.std.specs.Map.{lookup}
use Rattle.std.specs.Option.{option_or}
use Rattle.std.specs.Prelude.{IfSome, option_map, slice_get, slice_set}
use Rattle.std.specs.Str.{bytes_eq}
use Rattle.cfa_base.specs.Index.{Text, is_listed, place_of}
use Rattle.cfa_base.specs.TextMaps.{TextMap, text_cmp}
use Rattle.cfa_base.specs.lemmas.EqualTexts.{is_text, texts_turned}
use Rattle.cfa_base.specs.lemmas.Lists.{place_push, option_or-none}
use Rattle.cfa_base.specs.lemmas.TextMaps.{get-put}
use Rattle.cfa_vars.specs.Named.{thing_at}
use Rattle.cfa_vars.specs.Tables.{Table}
use Rattle.cfa_vars.specs.Shared.{begun, name_of, table_of, PlacesAre}

pub none_begun : (scopes : List (Text × Table)) (places : TextMap ℕ) → scopes ≡ [] → places ≡ finite.empty → PlacesAre scopes places
none_begun scopes places none empty name =
    ap (λ m. finite.get m name) empty ∙ finite.get-empty text_cmp name ∙ ap (λ (ss : List (Text × Table)). place_of (map name_of ss) name) (sym none)

-- ---- what a place tells

listed_from : (names : List Text) (name : Text) (i : ℕ) → is_listed names name ≡ is_some (position_from (λ other. bytes_eq name other) i names)
listed_from [] name i = refl
listed_from (other ∷ names) name i =
    ap (λ b. b || is_listed names name) (texts_turned other name) ∙
    elim (bytes_eq name other) as (λ b. (b || is_listed names name) ≡ is_some (cond b (Some i) (position_from (λ other. bytes_eq name other) (i + 1) names))) [
      | true ↦ refl
      | false ↦ listed_from names name (i + 1)
    ]

-- a name is listed where it has a place
pub listed_by_place : (names : List Text) (name : Text) → is_listed names name ≡ is_some (place_of names name)
listed_by_place names name = listed_from names name 0 ∙ ap is_some (sym (position_from-zero (λ other. bytes_eq name other) names))

pub not_listed : (scopes : List (Text × Table)) (places : TextMap ℕ) (name : Text) → PlacesAre scopes places → None ≡ finite.get places name → is_listed (map name_of scopes) name ≡ false
not_listed scopes places name are none = listed_by_place (map name_of scopes) name ∙ ap is_some (sym (are name) ∙ sym none)

pub named_at : (scopes : List (Text × Table)) (places : TextMap ℕ) (name : Text) (place : ℕ) → PlacesAre scopes places → Some place ≡ finite.get places name → slice_get (map name_of scopes) place ≡ Some name
named_at scopes places name place are found =
    let at = position-Some (λ other. bytes_eq name other) (map name_of scopes) place name (sym (are name) ∙ sym found) in
    slice_get-get_or (map name_of scopes) place name at.0 ∙ ap Some (sym (is_text name (get_or (map name_of scopes) place name) at.1))

pub named_if : (scopes : List (Text × Table)) (places : TextMap ℕ) (name : Text) (o : Option ℕ) → PlacesAre scopes places → o ≡ finite.get places name → IfSome o (λ place. slice_get (map name_of scopes) place ≡ Some name)
named_if scopes places name None are is = tt
named_if scopes places name (Some place) are is = named_at scopes places name place are is

-- ---- what stands at a place

thing_found : (scopes : List (Text × Table)) (name : Text) (place : ℕ) → place < length scopes → bytes_eq name (get_or (map name_of scopes) place name) ≡ true
    → ((k : ℕ) → k < place → bytes_eq name (get_or (map name_of scopes) k name) ≡ false) → option_map table_of (slice_get scopes place) ≡ thing_at scopes name
thing_found [] name place within is none = absurd (omega arith)
thing_found (scope ∷ scopes) name zero within is none = ap (λ b. cond b (Some scope.1) (thing_at scopes name)) (sym is)
thing_found (scope ∷ scopes) name (suc place) within is none =
    thing_found scopes name place (omega arith) is (λ k lt. none (suc k) (omega arith))
    ∙ ap (λ b. cond b (Some scope.1) (thing_at scopes name)) (sym (none zero (omega arith)))

nothing_found : (scopes : List (Text × Table)) (name : Text) → is_listed (map name_of scopes) name ≡ false → ◌≡◌ {A = Option Table} None (thing_at scopes name)
nothing_found [] name none = refl
nothing_found (scope ∷ scopes) name none =
    let parts = or_parts (bytes_eq scope.0 name) (is_listed (map name_of scopes) name) none in
    nothing_found scopes name parts.1 ∙ ap (λ b. cond b (Some scope.1) (thing_at scopes name)) (sym parts.0 ∙ texts_turned scope.0 name)

pub thing_by_place : (scopes : List (Text × Table)) (places : TextMap ℕ) (name : Text) (place : ℕ) → PlacesAre scopes places → Some place ≡ finite.get places name → option_map table_of (slice_get scopes place) ≡ thing_at scopes name
thing_by_place scopes places name place are found =
    let at = position-Some (λ other. bytes_eq name other) (map name_of scopes) place name (sym (are name) ∙ sym found) in
    let within : place < length scopes = subst (λ n. place < n) (length-map scopes name_of) at.0 in
    thing_found scopes name place within at.1 at.2

pub nothing_by_place : (scopes : List (Text × Table)) (places : TextMap ℕ) (name : Text) → PlacesAre scopes places → None ≡ finite.get places name → ◌≡◌ {A = Option Table} None (thing_at scopes name)
nothing_by_place scopes places name are none = nothing_found scopes name (not_listed scopes places name are none)

-- ---- changes

-- a scope was begun under a name that had none
pub places_begun : (scopes more : List (Text × Table)) (places after : TextMap ℕ) (name : Text) (at : ℕ) → PlacesAre scopes places → is_some (finite.get places name) ≡ false → at ≡ length scopes
    → more ≡ scopes ++ (name, []) ∷ [] → after ≡ finite.insert places name at → PlacesAre more after
places_begun scopes more places after name at are none end is puts q =
    ap (λ m. finite.get m q) puts ∙ get-put places name at q ∙ ap (cond (bytes_eq name q) (Some at)) (are q)
    ∙ by (bytes_eq name q) refl
    ∙ sym (place_push (λ other. bytes_eq q other) (map name_of scopes) name at (end ∙ sym (length-map scopes name_of)))
    ∙ ap (λ names. place_of names q) (sym (map-append name_of scopes ((name, []) ∷ [])) ∙ ap (map name_of) (sym is)) where
      no_place : place_of (map name_of scopes) name ≡ None
      no_place = nowhere (place_of (map name_of scopes) name) (ap is_some (sym (are name)) ∙ none) where
        nowhere : (o : Option ℕ) → is_some o ≡ false → o ≡ None
        nowhere None e = refl
        nowhere (Some n) e = absurd (false≢true (sym e))

      by : (b : Bool) → bytes_eq name q ≡ b → cond b (Some at) (place_of (map name_of scopes) q) ≡ option_or (place_of (map name_of scopes) q) (cond (bytes_eq q name) (Some at) None)
      by true e =
          let same : name ≡ q = is_text name q e in
          let nowhere_else : place_of (map name_of scopes) q ≡ None = ap (place_of (map name_of scopes)) (sym same) ∙ no_place in
          let turned : bytes_eq q name ≡ true = texts_turned q name ∙ e in
          ap (λ b. cond b (Some at) None) (sym turned)
          ∙ ap (λ o. option_or o (cond (bytes_eq q name) (Some at) None)) (sym nowhere_else)
      by false e =
          let turned : bytes_eq q name ≡ false = texts_turned q name ∙ e in
          sym (option_or-none (place_of (map name_of scopes) q))
          ∙ ap (λ b. option_or (place_of (map name_of scopes) q) (cond b (Some at) None)) (sym turned)

-- a bundle has a scope already, or gets one
pub begun_already : (scopes : List (Text × Table)) (places : TextMap ℕ) (name : Text) → PlacesAre scopes places → is_some (finite.get places name) ≡ true → scopes ≡ begun scopes name
begun_already scopes places name are there =
    let listed = listed_by_place (map name_of scopes) name ∙ ap is_some (sym (are name)) ∙ there in
    ap (λ b. if b then scopes else scopes ++ (name, []) ∷ []) (sym listed)

pub begun_new : (scopes more : List (Text × Table)) (places : TextMap ℕ) (name : Text) → PlacesAre scopes places → is_some (finite.get places name) ≡ false → more ≡ scopes ++ (name, []) ∷ [] → more ≡ begun scopes name
begun_new scopes more places name are none is =
    let new = listed_by_place (map name_of scopes) name ∙ ap is_some (sym (are name)) ∙ none in
    is ∙ ap (λ b. if b then scopes else scopes ++ (name, []) ∷ []) (sym new)

-- a scope changed, and its name stays
pub places_stay : (scopes : List (Text × Table)) (places : TextMap ℕ) (place : ℕ) (scope : Text × Table) (table : Table) → PlacesAre scopes places → scope ≡ get_or scopes place scope → PlacesAre (slice_set scopes place (scope.0, table)) places
places_stay scopes places place scope table are at name =
    are name ∙ ap (λ names. place_of names name) (sym (map-set_same name_of scopes place (scope.0, table) scope (ap name_of at)))

pub scope_set : (scopes seen : List (Text × Table)) (place : ℕ) (scope : Text × Table) (table : Table) (change : Table → Table) (bundle : Text) (before : Table) → scopes ≡ seen → place < length seen → scope ≡ get_or scopes place scope
    → table ≡ change scope.1 → slice_get seen place ≡ Some (bundle, before) → slice_set scopes place (scope.0, table) ≡ slice_set seen place (bundle, change before)
scope_set scopes seen place scope table change bundle before same within at is stands =
    let here : scope ≡ (bundle, before) = at ∙ ap (λ (ss : List (Text × Table)). get_or ss place scope) same ∙ get_or_from_slice_get seen place (bundle, before) scope stands in
    ap (λ (ss : List (Text × Table)). slice_set ss place (scope.0, table)) same
    ∙ ap (λ t. slice_set seen place (scope.0, t)) is
    ∙ ap (λ (s : Text × Table). slice_set seen place (s.0, change s.1)) here

-- the scope at a place was put back as it was
pub scope_stays : (scopes seen : List (Text × Table)) (place : ℕ) (scope : Text × Table) (table : Table) → scopes ≡ seen → scope ≡ get_or scopes place scope → table ≡ scope.1 → slice_set scopes place (scope.0, table) ≡ seen
scope_stays scopes seen place scope table same at is =
    ap (λ t. slice_set scopes place (scope.0, t)) is
    ∙ ap (λ (s : Text × Table). slice_set scopes place s) at
    ∙ set-get_or scopes place scope
    ∙ same
