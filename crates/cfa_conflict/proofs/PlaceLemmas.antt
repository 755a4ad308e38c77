-- Rows one after the other, and the places that are taken from them.
use Rattle.std.proofs.Common.{◌≡◌, ℕ, ◌≤◌, Bool, true, false, ◌&&◌, ◌||◌, cond, List, [], ◌∷◌, ◌++◌, length, drop, map, refl, sym, ap, ◌∙◌}
use Rattle.std.specs.Prelude.{nat_eq}
use Rattle.std.proofs.Math.Bool.{and_assoc}
use Rattle.std.specs.List.{filter, starts_with, list_any}
use Rattle.std.specs.Str.{bytes_eq}
use Rattle.std.proofs.lemmas.List.{append-nil, drop_all}
use denote.Ref.{Bor}
use Rattle.cfa_base.specs.Index.{Text}
use Rattle.cfa_conflict.specs.Targets.{Row, seen_row, seen_rows, is_near, goes_on, is_sought, places_of}

abbrev pub Seen : Type 0
Seen = Bor Text × ℕ

-- ---- the places of a key

kept_alike : (row : Row) (b : Bool) (xs ys : List Row) → map (λ (r : Row). r.1) xs ≡ map (λ (r : Row). r.1) ys
    → map (λ (r : Row). r.1) (cond b (row ∷ xs) xs) ≡ map (λ (r : Row). r.1) (cond b (row ∷ ys) ys)
kept_alike row true xs ys same = ap (λ (l : List ℕ). row.1 ∷ l) same
kept_alike row false xs ys same = same

-- rows that are left out have none of them
places_kept : (test : Seen → Bool) (rows : List Seen) (key : Text) (beneath : Bool) → ((row : Seen) → test row ≡ false → is_sought key beneath row.0.now ≡ false)
    → places_of (seen_rows (filter test rows)) key beneath ≡ places_of (seen_rows rows) key beneath
places_kept test [] key beneath none = refl
places_kept test (row ∷ rows) key beneath none =
    let kept = filter test rows in
    let sought_in : List Row → List Row = λ l. filter (λ (r : Row). is_sought key beneath r.0) l in
    elim (test row) as (λ b. test row ≡ b → places_of (seen_rows (cond b (row ∷ kept) kept)) key beneath ≡ places_of (seen_rows (row ∷ rows)) key beneath) [
      | true ↦ λ is. kept_alike (seen_row row) (is_sought key beneath row.0.now) (sought_in (seen_rows kept)) (sought_in (seen_rows rows)) (places_kept test rows key beneath none)
      | false ↦ λ is.
          places_kept test rows key beneath none
          ∙ sym (ap (λ b. map (λ (r : Row). r.1) (cond b (seen_row row ∷ sought_in (seen_rows rows)) (sought_in (seen_rows rows)))) (none row is))
    ] refl

-- where nothing beneath is sought, the key alone is
pub at_key : (key target : Text) → is_sought key false target ≡ bytes_eq key target
at_key [] [] = refl
at_key [] (y ∷ target) = refl
at_key (x ∷ key) [] = refl
at_key (x ∷ key) (y ∷ target) =
    and_assoc (nat_eq x y) (starts_with nat_eq target key) (goes_on false (drop (length key) target)) ∙ ap (λ b. nat_eq x y && b) (at_key key target)

not_near : (key : Text) (beneath : Bool) (target : Text) → is_near key beneath target ≡ false → is_sought key beneath target ≡ false
not_near key true target is = ap (λ b. b && goes_on true (drop (length key) target)) is
not_near key false target is = at_key key target ∙ is

pub places_near : (rows : List Seen) (key : Text) (beneath : Bool)
    → places_of (seen_rows (filter (λ (row : Seen). is_near key beneath row.0.now) rows)) key beneath ≡ places_of (seen_rows rows) key beneath
places_near rows key beneath =
    places_kept (λ (row : Seen). is_near key beneath row.0.now) rows key beneath (λ row is. not_near key beneath row.0.now is)

pub places_done : (places initial : List ℕ) (found : List Seen) (key : Text) (beneath : Bool) (i : ℕ) → length found ≤ i
    → places ++ places_of (seen_rows (drop i found)) key beneath ≡ initial ++ places_of (seen_rows found) key beneath → places ≡ initial ++ places_of (seen_rows found) key beneath
places_done places initial found key beneath i past invariant =
    sym (append-nil places) ∙ ap (λ (l : List Seen). places ++ places_of (seen_rows l) key beneath) (sym (drop_all i found past))
    ∙ invariant

-- ---- a place among them

-- a row that is sought, with this place
abbrev pub is_placed : (key : Text) (beneath : Bool) (place : ℕ) → Row → Bool
is_placed key beneath place row = is_sought key beneath row.0 && nat_eq place row.1

pub place_among : (rows : List Row) (key : Text) (beneath : Bool) (place : ℕ) → list_any (nat_eq place) (places_of rows key beneath) ≡ list_any (is_placed key beneath place) rows
place_among [] key beneath place = refl
place_among (row ∷ rows) key beneath place =
    let kept = filter (λ (r : Row). is_sought key beneath r.0) rows in
    elim (is_sought key beneath row.0) as (λ b. list_any (nat_eq place) (map (λ (r : Row). r.1) (cond b (row ∷ kept) kept)) ≡ ((b && nat_eq place row.1) || list_any (is_placed key beneath place) rows)) [
      | true ↦ ap (λ b. nat_eq place row.1 || b) (place_among rows key beneath place)
      | false ↦ place_among rows key beneath place
    ]
