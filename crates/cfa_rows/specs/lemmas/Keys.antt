-- Keys of locks have nothing but hexadecimal digits.
use Rattle.std.proofs.Common.{◌≡◌, ℕ, List, [], ◌∷◌, true, false, ◌==◌, length, refl, sym, ap, ◌∙◌}
use Rattle.std.proofs.lemmas.Bool.{and_parts, both_ways}
use Rattle.std.specs.List.{list_all}
use Rattle.cfa_base.specs.Keys.{is_key, is_hex_digit}
use Rattle.cfa_base.specs.Lacking.{Lacks}
use Rattle.cfa_rows.specs.lemmas.Cuts.{Lacks-from_test, Lacks-cons}

hex_digits-lack : (byte : ℕ) (text : List ℕ) → is_hex_digit byte ≡ false → list_all is_hex_digit text ≡ true → Lacks byte text
hex_digits-lack byte [] other all = Lacks-from_test byte [] refl
hex_digits-lack byte (b ∷ bs) other all =
    let parts = and_parts (is_hex_digit b) (list_all is_hex_digit bs) all in
    Lacks-cons byte b bs (λ same. both_ways (is_hex_digit byte) other (sym (ap is_hex_digit same) ∙ parts.0)) (hex_digits-lack byte bs other parts.1)

pub key-lacks : (byte : ℕ) (key : List ℕ) → is_hex_digit byte ≡ false → is_key key ≡ true → Lacks byte key
key-lacks byte key other is = hex_digits-lack byte key other (and_parts (length key == 64) (list_all is_hex_digit key) is).1
