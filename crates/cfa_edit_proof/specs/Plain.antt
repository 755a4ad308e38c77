-- Plain texts: what they are made of stands for itself in a pattern, so that such a pattern finds just that text.
use Rattle.std.specs.Prelude.{ℕ, Bool, ◌&&◌, ◌||◌, ◌==◌, List, [], ◌∷◌, length, nat_eq, nat_lt}
use Rattle.std.specs.Char.{is_ascii_alphanumeric}
use Rattle.std.specs.List.{list_any, list_all, starts_with}
use Rattle.std.specs.Str.{chars}

-- an ASCII letter or digit, an underscore or a space
abbrev pub is_plain_byte : ℕ → Bool
is_plain_byte b = is_ascii_alphanumeric b || (b == 95 || b == 32)

abbrev pub is_plain : List ℕ → Bool
is_plain text = nat_lt 0 (length text) && list_all is_plain_byte text

-- the text stands somewhere in the line
abbrev pub contains : (line text : List ℕ) → Bool
contains [] text = starts_with nat_eq [] text
contains (b ∷ bs) text = starts_with nat_eq (b ∷ bs) text || contains bs text

-- the character is one of these
abbrev pub is_in : List ℕ → ℕ → Bool
is_in cs c = list_any (λ d. c == d) cs

-- a character of the one list is one of the other
abbrev pub share : (cs ds : List ℕ) → Bool
share cs ds = list_any (is_in ds) cs

-- a character of the one text is one of the other
abbrev pub shares_character : (text other : List ℕ) → Bool
shares_character text other = share (chars text) (chars other)
