-- The digits of a key are ASCII, so they are a text.
use Rattle.std.proofs.Common.{◌≡◌, ℕ, zero, suc, ◌<◌, List, [], ◌∷◌, true, length, eqb, arith, lit<}
use Rattle.std.proofs.lemmas.Bool.{and_parts}
use Rattle.std.proofs.lemmas.Bool.Decides.{nat_tests}
use Rattle.std.proofs.lemmas.Str.{IsUtf8-from_ascii}
use Rattle.std.specs.List.{list_all}
use Rattle.std.specs.Str.{IsAscii, IsUtf8}
use Rattle.cfa_base.specs.Keys.{is_hex_digit, is_key}

digit_is_ascii : (b : ℕ) → is_hex_digit b ≡ true → b < 128
digit_is_ascii b is = grind (arith, nat_tests)

digits_are_ascii : (text : List ℕ) → list_all is_hex_digit text ≡ true → IsAscii text
digits_are_ascii [] all i = lit< tt
digits_are_ascii (b ∷ bs) all zero = digit_is_ascii b (and_parts (is_hex_digit b) (list_all is_hex_digit bs) all).0
digits_are_ascii (b ∷ bs) all (suc i) = digits_are_ascii bs (and_parts (is_hex_digit b) (list_all is_hex_digit bs) all).1 i

pub key_is_text : (text : List ℕ) → is_key text ≡ true → IsUtf8 text
key_is_text text is = IsUtf8-from_ascii text (digits_are_ascii text (and_parts (eqb (length text) 64) (list_all is_hex_digit text) is).1)
