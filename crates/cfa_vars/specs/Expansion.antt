-- A text is expanded once: each reference is replaced by the text of its variable, or by the item that is chosen for
-- its list, and what is put in is not read again. The first name without either is told; failing that, a text of more
-- than 65,536 bytes is too long.
use Rattle.std.specs.Prelude.{ℕ, Bool, true, false, List, [], ◌∷◌, length, nat_le, Option, Some, None, unwrap_or, find, is_none, if◌then◌else◌}
use Rattle.std.specs.List.{flat_map}
use Rattle.cfa_base.specs.declared.limits.TheConstants.{MOST_TEXT_BYTES}
use Rattle.cfa_vars.specs.declared.scoping.Datum.{Datum}
use Rattle.cfa_vars.specs.declared.scoping.Datum.TheVariants.{Text as text_of, List as list_of}
use Rattle.cfa_vars.specs.declared.expanding.Expanded.{Expanded}
use Rattle.cfa_vars.specs.declared.expanding.Expanded.TheVariants.{Done, Unresolved, TooLong}
use Rattle.cfa_vars.specs.References.{Piece, literal, reference, pieces, names_in}
use Rattle.cfa_vars.specs.Named.{thing_at}
use Rattle.cfa_vars.specs.Scopes.{InScope, look, key_of}

-- the items that are chosen, each under the key of its list variable
abbrev pub Chosen : Type 0
Chosen = List (List ℕ × List ℕ)

abbrev pub scalar_of : Chosen → List ℕ → Option Datum → Option (List ℕ)
scalar_of choice key None = None
scalar_of choice key (Some (text_of text)) = Some text
scalar_of choice key (Some (list_of items)) = thing_at choice key

-- the text that a reference stands for
unfoldable pub scalar : InScope → Chosen → List ℕ → Option (List ℕ)
scalar scopes choice name = scalar_of choice (key_of scopes name) (look scopes name)

abbrev pub filled_piece : InScope → Chosen → Piece → List ℕ
filled_piece scopes choice (literal b) = b ∷ []
filled_piece scopes choice (reference name) = unwrap_or (scalar scopes choice name) []

-- the text with what each reference stands for in its place
abbrev pub filled : InScope → Chosen → List ℕ → List ℕ
filled scopes choice text = flat_map (filled_piece scopes choice) (pieces text)

-- the first reference from left to right that stands for nothing
abbrev pub first_unresolved : InScope → Chosen → List ℕ → Option (List ℕ)
first_unresolved scopes choice text = find (λ name. is_none (scalar scopes choice name)) (names_in text)

abbrev pub within_limit : List ℕ → Option (List ℕ)
within_limit whole = if nat_le (length whole) MOST_TEXT_BYTES then Some whole else None

abbrev pub done_or_too_long : Option (List ℕ) → Expanded
done_or_too_long (Some whole) = Done whole
done_or_too_long None = TooLong

abbrev pub told_of : Option (List ℕ) → List ℕ → Expanded
told_of (Some name) whole = Unresolved name
told_of None whole = done_or_too_long (within_limit whole)

unfoldable pub expanded : InScope → Chosen → List ℕ → Expanded
expanded scopes choice text = told_of (first_unresolved scopes choice text) (filled scopes choice text)

abbrev pub is_done : Expanded → Bool
is_done (Done whole) = true
is_done (Unresolved name) = false
is_done TooLong = false
