-- The octal digits of a mode are digits in the radix 8.
use Rattle.std.proofs.Common.{◌≡◌, ◌<◌, ℕ, true, List, [], ◌∷◌, arith}
use Rattle.std.specs.Char.{digit_value}
use Rattle.std.specs.List.{list_all}
use Rattle.std.specs.Str.Parse.{AllDigits}
use Rattle.std.proofs.lemmas.Bool.{and_parts}
use Rattle.std.proofs.lemmas.Bool.Decides.{nat_tests}
use Rattle.cfa_base.specs.Octal.{is_octal_digit}

octal_value : (b : ℕ) → is_octal_digit b ≡ true → digit_value b < 8
octal_value b h = grind (arith, nat_tests)

pub octal_digits : (text : List ℕ) → list_all is_octal_digit text ≡ true → AllDigits 8 text
octal_digits [] h = tt
octal_digits (b ∷ rest) h =
    let parts = and_parts (is_octal_digit b) (list_all is_octal_digit rest) h in
    (octal_value b parts.0, octal_digits rest parts.1)
