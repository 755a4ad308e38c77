-- An escaped field is how tables, journals and key texts write a text: by the percent-encoding of RFC 3986. An ASCII
-- letter or digit, `-`, `.`, `/`, `_` and `~` stand as they are; every other byte of the text's UTF-8 stands as `%` and
-- its two upper case hexadecimal digits.
use Rattle.std.specs.Prelude.{◌≡◌, ℕ, ◌/◌, ◌%◌, Bool, ◌||◌, ◌==◌, if◌then◌else◌, List, [], ◌∷◌, true, IsUtf8}
use Rattle.std.specs.Char.{is_ascii_alphanumeric}
use Rattle.std.specs.Fmt.{digit_glyph}
use Rattle.std.specs.List.{flat_map}

-- an ASCII letter or digit, `-`, `.`, `/`, `_` or `~`
abbrev pub is_kept : ℕ → Bool
is_kept b = is_ascii_alphanumeric b || ((b == 45) || ((b == 46) || ((b == 47) || ((b == 95) || (b == 126)))))

-- `%` and the two upper case hexadecimal digits of a byte
unfoldable pub escape_of : ℕ → List ℕ
escape_of b = 37 ∷ digit_glyph true (b / 16) ∷ digit_glyph true (b % 16) ∷ []

abbrev pub escaped_byte : ℕ → List ℕ
escaped_byte b = if is_kept b then b ∷ [] else escape_of b

-- the escaped field of a text
unfoldable pub escaped : List ℕ → List ℕ
escaped text = flat_map escaped_byte text

-- the escaped field of some text
abbrev pub IsField : List ℕ → Type 0
IsField field = (text : List ℕ) × IsUtf8 text × (escaped text ≡ field)

-- a byte that escaped fields have: one that is kept, or `%`
abbrev pub is_field_byte : ℕ → Bool
is_field_byte b = (b == 37) || is_kept b

-- equal fields are equal texts
abbrev pub FieldsTellTexts : Type 0
FieldsTellTexts = (text other : List ℕ) → escaped text ≡ escaped other → text ≡ other
