-- A source with blanks between two places: each byte outside is as it was, and each one between them that is no newline
-- is a blank.
use Rattle.std.specs.Prelude.{◌≡◌, ℕ, ◌+◌, ◌^◌, ◌<◌, Bool, true, false, ◌&&◌, if◌then◌else◌, List, length, take, slice_get, option_map}
use Rattle.cfa_base.specs.declared.places.Place.{Place}
use Rattle.cfa_base.specs.Lexing.{is_newline, place_after, first_place}
use Rattle.cfa_base.specs.Order.{is_before, not_after}

-- the place of the byte of an index
abbrev pub place_at : List ℕ → ℕ → Place
place_at source index = place_after (first_place 0) (take index source)

-- at one place or behind it, and before the other
abbrev pub is_between : (from to place : Place) → Bool
is_between from to place = not_after from place && is_before place to

-- what stands in the place of a byte that is left out
abbrev pub blank_of : ℕ → ℕ
blank_of byte = if is_newline byte then byte else 32

-- there are so few bytes that each line and column has a number
abbrev pub IsNumbered : List ℕ → Type 0
IsNumbered source = length source + 2 < 2 ^ 32

pub record IsBlanked (source : List ℕ) (from to : Place) (bytes : List ℕ) : Type 0 where
  pub outside : (index : ℕ) → is_between from to (place_at source index) ≡ false →
      slice_get bytes index ≡ slice_get source index
  pub between : (index : ℕ) → is_between from to (place_at source index) ≡ true →
      slice_get bytes index ≡ option_map blank_of (slice_get source index)

-- Of the code alone: a byte as it is shown.
abbrev pub shown_of : (is_blank : Bool) → ℕ → ℕ
shown_of is_blank byte = if is_blank then blank_of byte else byte
