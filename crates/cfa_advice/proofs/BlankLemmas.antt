-- A source with its blanks, byte by byte.
use Rattle.std.proofs.Common.{◌≡◌, ℕ, zero, suc, ◌+◌, ◌≤◌, true, false, List, [], ◌∷◌, take, refl, ap, arith, Some}
use Rattle.std.specs.Prelude.{slice_get, option_map}
use Rattle.std.proofs.lemmas.Bool.{cond_both}
use Rattle.cfa_base.specs.declared.places.Place.{Place}
use Rattle.cfa_base.specs.Lexing.{is_newline, place_past, place_after, first_place}
use Rattle.cfa_advice.specs.Blanks.{is_between, blank_of, shown_of, IsBlanked}

-- bytes that begin at a place, with their blanks
abbrev pub blanks : (from to place : Place) → List ℕ → List ℕ
blanks from to place [] = []
blanks from to place (b ∷ bs) = shown_of (is_between from to place) b ∷ blanks from to (place_past place b) bs

outside_blanks : (from to place : Place) (bytes : List ℕ) (index : ℕ) → is_between from to (place_after place (take index bytes)) ≡ false →
    slice_get (blanks from to place bytes) index ≡ slice_get bytes index
outside_blanks from to place [] index out = refl
outside_blanks from to place (b ∷ bs) zero out = ap (λ is. Some (shown_of is b)) out
outside_blanks from to place (b ∷ bs) (suc index) out = outside_blanks from to (place_past place b) bs index out

between_blanks : (from to place : Place) (bytes : List ℕ) (index : ℕ) → is_between from to (place_after place (take index bytes)) ≡ true →
    slice_get (blanks from to place bytes) index ≡ option_map blank_of (slice_get bytes index)
between_blanks from to place [] index within = refl
between_blanks from to place (b ∷ bs) zero within = ap (λ is. Some (shown_of is b)) within
between_blanks from to place (b ∷ bs) (suc index) within = between_blanks from to (place_past place b) bs index within

pub blanked_by : (from to : Place) (source : List ℕ) → IsBlanked source from to (blanks from to (first_place 0) source)
blanked_by from to source = record { outside = outside_blanks from to (first_place 0) source; between = between_blanks from to (first_place 0) source }

-- behind a byte the numbers grow by one at most
pub past_line : (place : Place) (b : ℕ) → (place_past place b).line ≤ place.line + 1
past_line place b = cond_both (is_newline b) (record { file = place.file; line = place.line + 1; col = 1 }) (record { file = place.file; line = place.line; col = place.col + 1 })
    (λ (p : Place). p.line ≤ place.line + 1) (λ is. omega arith) (λ isnt. omega arith)

pub past_col : (place : Place) (b : ℕ) → (place_past place b).col ≤ place.col + 1
past_col place b = cond_both (is_newline b) (record { file = place.file; line = place.line + 1; col = 1 }) (record { file = place.file; line = place.line; col = place.col + 1 })
    (λ (p : Place). p.col ≤ place.col + 1) (λ is. omega arith) (λ isnt. omega arith)
