-- The numbers that texts write.
use Rattle.std.proofs.Common.{◌≡◌, ◌<◌, ◌≤◌, ◌^◌, ℕ, true, ◌||◌, ◌==◌, List, [], ◌∷◌, length, Err, sym, refl, subst, lit<, arith}
use Rattle.std.specs.List.{list_all}
use Rattle.std.specs.Str.Parse.{AllDigits, digits_value, without_leading_plus, ParsesUnsigned}
use Rattle.std.proofs.lemmas.Bool.{and_parts}
use Rattle.std.proofs.lemmas.Bool.Decides.{nat_tests}
use Rattle.std.proofs.lemmas.Int.Digits.{digits_value-lt}
use Rattle.std.proofs.lemmas.Str.Parse.{without_leading_plus_none}
use Rattle.std.proofs.Math.Nat.{pow-le-pow_right}
use Rattle.cfa_base.specs.Octal.{is_octal_digit}
use Rattle.cfa_kinds.specs.Forms.{is_mode}
use Rattle.cfa_resolve.specs.lemmas.Octal.{octal_digits}

not_plus : (b : ℕ) → is_octal_digit b ≡ true → b ≡ 43 → ⊥
not_plus b h e = grind (arith, nat_tests)

no_plus : (text : List ℕ) → 0 < length text → list_all is_octal_digit text ≡ true → without_leading_plus text ≡ text
no_plus [] some h = refl
no_plus (b ∷ rest) some h =
    let first = (and_parts (is_octal_digit b) (list_all is_octal_digit rest) h).0 in
    without_leading_plus_none (b ∷ rest) (not_plus b first)

mode_size : (n : ℕ) → (n == 3 || n == 4) ≡ true → (0 < n) × (n ≤ 4)
mode_size n h = (grind (arith, nat_tests), grind (arith, nat_tests))

below : (n v : ℕ) → n ≤ 4 → v < 8 ^ n → v < 2 ^ 16
below n v h k =
    let most : 8 ^ n ≤ 8 ^ 4 = pow-le-pow_right (lit< tt) h in
    omega (arith, most, k)

-- 3 or 4 octal digits are always read
pub mode_read : {E : Type 0} (text : List ℕ) (e : E) → is_mode text ≡ true → ParsesUnsigned 16 8 text (Err e) → ⊥
mode_read text e form parsed =
    let parts = and_parts (length text == 3 || length text == 4) (list_all is_octal_digit text) form in
    let size = mode_size (length text) parts.0 in
    let same = no_plus text size.0 parts.1 in
    let digits = octal_digits text parts.1 in
    let small : digits_value 8 text < 2 ^ 16 = below (length text) (digits_value 8 text) size.1 (digits_value-lt 8 text digits) in
    parsed (subst (λ (t : List ℕ). ((0 < length t) × AllDigits 8 t) × (digits_value 8 t < 2 ^ 16)) (sym same) ((size.0, digits), small))
