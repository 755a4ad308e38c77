-- The texts of calendar classes, and the date and time of a moment.
use Rattle.std.proofs.Common.{◌≡◌, ℕ, ◌+◌, ◌-◌, ◌/◌, ◌%◌, ◌^◌, ◌<◌, ◌≤◌, [], ◌∷◌, ◌++◌, false, ap, ◌∙◌, arith, inl, inr}
use Rattle.std.proofs.lemmas.Bool.{cases_lt}
use Rattle.std.proofs.lemmas.Fmt.{decimal_digit, decimal_step}
use Rattle.std.specs.Fmt.{decimal, styled_decimal, padded_integral, char_count, format_spec}
use Rattle.cfa_classes.specs.Calendar.{two_digits}

decimal-two_digits : (n : ℕ) → 10 ≤ n → n < 100 → decimal n ≡ two_digits n
decimal-two_digits n large small = decimal_step n large (omega arith) ∙ ap (λ front. front ++ (48 + n % 10) ∷ []) (decimal_digit (n / 10) (omega arith))

-- what `{:02}` writes of a number below a hundred
pub padded_integral-two_digits : (n : ℕ) → n < 100 → padded_integral (format_spec 32 0 4 2 (2 ^ 64 - 1)) false [] (decimal n) ≡ two_digits n
unfolding padded_integral char_count
padded_integral-two_digits n small = elim (cases_lt n 10) [
  | inl one ↦ let high : n / 10 ≡ 0 = omega arith in let low : n % 10 ≡ n = omega arith in rw (decimal_digit n one, high, low)
  | inr two ↦ rw (decimal-two_digits n two small)
]

-- what a hole `{:02}` writes of such a number
pub styled_decimal-two_digits : (s : _) (n : ℕ) → s ≡ format_spec 32 0 4 2 (2 ^ 64 - 1) → n < 100 → styled_decimal s n ≡ two_digits n
styled_decimal-two_digits s n is small = rw is (padded_integral-two_digits n small)
