-- An octal digit is one of the bytes from `0`, which is 48, to `7`. A mode is written in four of them.
use Rattle.std.specs.Prelude.{ℕ, ◌+◌, ◌/◌, ◌%◌, Bool, ◌&&◌, nat_le, List, [], ◌∷◌}

abbrev pub is_octal_digit : ℕ → Bool
is_octal_digit b = nat_le 48 b && nat_le b 55

-- the last octal digit of a number
abbrev pub octal_digit : ℕ → ℕ
octal_digit n = 48 + n % 8

-- the last four octal digits of a number
unfoldable pub mode_text : ℕ → List ℕ
mode_text mode = octal_digit (mode / 512) ∷ octal_digit (mode / 64) ∷ octal_digit (mode / 8) ∷ octal_digit mode ∷ []
