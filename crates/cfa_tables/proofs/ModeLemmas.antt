-- Modes in four octal digits.
use Rattle.std.proofs.Common.{◌≡◌, ◌≢◌, ℕ, ◌+◌, ◌-◌, ◌*◌, ◌/◌, ◌<◌, ◌≤◌, List, [], ◌∷◌, true, length, get_or, refl, sym, ◌∙◌, arith}
use Rattle.std.proofs.lemmas.Bool.{and_from, and_parts, leb-true}
use Rattle.std.proofs.lemmas.Bool.Decides.{nat_tests}
use Rattle.std.specs.Prelude.{nat_le}
use Rattle.std.specs.List.{list_all}
use Rattle.cfa_base.specs.Octal.{is_octal_digit, octal_digit, mode_text}
use Rattle.cfa_tables.specs.Tables.{IsMode}

pub octal-lacks : (byte : ℕ) → byte < 48 → (n : ℕ) → octal_digit n ≢ byte
octal-lacks byte small n e = omega arith

octal-digit : (n : ℕ) → is_octal_digit (octal_digit n) ≡ true
octal-digit n = grind (arith, nat_tests)

pub mode-digits : (mode : ℕ) → list_all is_octal_digit (mode_text mode) ≡ true
unfolding mode_text
mode-digits mode = and_from _ _ (octal-digit (mode / 512)) (and_from _ _ (octal-digit (mode / 64)) (and_from _ _ (octal-digit (mode / 8)) (and_from _ _ (octal-digit mode) refl)))

pub record IsDigit (b : ℕ) : Type 0 where
  pub least : 48 ≤ b
  pub most : b ≤ 55

is_digit : (b : ℕ) → is_octal_digit b ≡ true → IsDigit b
is_digit b is =
    let parts = and_parts (nat_le 48 b) (nat_le b 55) is in
    record { least = leb-true 48 b parts.0; most = leb-true b 55 parts.1 }

-- four octal digits, by their places
pub record FourDigits (text : List ℕ) : Type 0 where
  pub whole : text ≡ get_or text 0 0 ∷ get_or text 1 0 ∷ get_or text 2 0 ∷ get_or text 3 0 ∷ []
  pub first : IsDigit (get_or text 0 0)
  pub second : IsDigit (get_or text 1 0)
  pub third : IsDigit (get_or text 2 0)
  pub fourth : IsDigit (get_or text 3 0)

pub four_digits : (text : List ℕ) → length text ≡ 4 → list_all is_octal_digit text ≡ true → FourDigits text
four_digits [] e all = absurd (omega (arith, e))
four_digits (a ∷ []) e all = absurd (omega (arith, e))
four_digits (a ∷ b ∷ []) e all = absurd (omega (arith, e))
four_digits (a ∷ b ∷ c ∷ []) e all = absurd (omega (arith, e))
four_digits (a ∷ b ∷ c ∷ d ∷ []) e all =
    let one = and_parts (is_octal_digit a) (list_all is_octal_digit (b ∷ c ∷ d ∷ [])) all in
    let two = and_parts (is_octal_digit b) (list_all is_octal_digit (c ∷ d ∷ [])) one.1 in
    let three = and_parts (is_octal_digit c) (list_all is_octal_digit (d ∷ [])) two.1 in
    let four = and_parts (is_octal_digit d) true three.1 in
    record { whole = refl; first = is_digit a one.0; second = is_digit b two.0; third = is_digit c three.0; fourth = is_digit d four.0 }
four_digits (a ∷ b ∷ c ∷ d ∷ x ∷ xs) e all = absurd (omega (arith, e))

pub digits : (a b c d : ℕ) → 48 ≤ a → a ≤ 55 → 48 ≤ b → b ≤ 55 → 48 ≤ c → c ≤ 55 → 48 ≤ d → d ≤ 55 → mode_text ((a - 48) * 512 + (b - 48) * 64 + (c - 48) * 8 + (d - 48)) ≡ a ∷ b ∷ c ∷ d ∷ []
unfolding mode_text
digits a b c d a1 a2 b1 b2 c1 c2 d1 d2 =
    let m = (a - 48) * 512 + (b - 48) * 64 + (c - 48) * 8 + (d - 48) in
    let first : octal_digit (m / 512) ≡ a = omega arith in
    let second : octal_digit (m / 64) ≡ b = omega arith in
    let third : octal_digit (m / 8) ≡ c = omega arith in
    let fourth : octal_digit m ≡ d = omega arith in
    cc

-- the mode that four digits are, and that it is one
pub mode_read : (text : List ℕ) (a b c d : ℕ) → FourDigits text → a ≡ get_or text 0 0 → b ≡ get_or text 1 0 → c ≡ get_or text 2 0 → d ≡ get_or text 3 0 → IsMode ((a - 48) * 512 + (b - 48) * 64 + (c - 48) * 8 + (d - 48)) × (mode_text ((a - 48) * 512 + (b - 48) * 64 + (c - 48) * 8 + (d - 48)) ≡ text)
mode_read text a b c d four e f g h =
    let first = four.first in
    let second = four.second in
    let third = four.third in
    let fourth = four.fourth in
    rw (e, f, g, h) (
      omega (arith, first.most, second.most, third.most, fourth.most),
      digits (get_or text 0 0) (get_or text 1 0) (get_or text 2 0) (get_or text 3 0) first.least first.most second.least second.most third.least third.most fourth.least fourth.most ∙ sym four.whole,
    )
