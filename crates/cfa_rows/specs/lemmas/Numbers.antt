-- Numbers in decimal have nothing but digits, and tell their number.
use Rattle.std.proofs.Common.{◌≡◌, ℕ, ◌^◌, ◌<◌, ◌≤◌, List, [], ◌∷◌, true, false, not, ◌&&◌, ◌||◌, ◌==◌, ltb, length, get_or, ⊎_elim, Result, Ok, Err, refl, sym, ap, ◌∙◌, arith}
use Rattle.std.proofs.lemmas.Bool.{both_ways, and_parts, and_from, cases_Bool, cases_lt, eq-eqb, eqb-true, lt-ltb, ltb-true}
use Rattle.std.proofs.lemmas.Bool.Decides.{nat_tests}
use Rattle.std.proofs.lemmas.Fmt.{digits_decimal, decimal_digit, first_decimal, decimal_nonempty, decimal-digits_value, parse-decimal}
use Rattle.std.proofs.lemmas.List.Elements.{All-nil, All-cons}
use Rattle.std.proofs.lemmas.Str.Parse.{parse_digits}
use Rattle.std.specs.Char.{is_ascii_digit}
use Rattle.std.specs.Fmt.{decimal}
use Rattle.std.specs.Result.{result_ok}
use Rattle.std.specs.Str.{all_ascii_digits}
use Rattle.std.specs.Str.Parse.{ParsesUnsigned}
use Rattle.cfa_base.specs.Decimals.{is_decimal}
use Rattle.cfa_base.specs.lemmas.Numerals.{numerals}
use Rattle.cfa_base.specs.lemmas.Truths.{or_true}
use Rattle.cfa_base.specs.Lacking.{Lacks}
use Rattle.cfa_rows.specs.Rows.{Reads}

digit_is_other : (byte b : ℕ) → is_ascii_digit byte ≡ false → is_ascii_digit b ≡ true → b ≡ byte → ⊥
digit_is_other byte b other digit e = both_ways (is_ascii_digit byte) other (sym (ap is_ascii_digit e) ∙ digit)

digits-lack : (byte : ℕ) (ds : List ℕ) → is_ascii_digit byte ≡ false → all_ascii_digits ds ≡ true → Lacks byte ds
digits-lack byte [] other all = All-nil (λ b. b ≡ byte → ⊥)
digits-lack byte (d ∷ ds) other all =
    let parts = and_parts (is_ascii_digit d) (all_ascii_digits ds) all in
    All-cons (λ b. b ≡ byte → ⊥) d ds (digit_is_other byte d other parts.0) (digits-lack byte ds other parts.1)

-- a number has no byte but digits
pub decimal-lacks : (byte n : ℕ) → is_ascii_digit byte ≡ false → n < 2 ^ 64 → Lacks byte (decimal n)
decimal-lacks byte n other small = digits-lack byte (decimal n) other (digits_decimal numerals n small)

is_decimal-parts : (ds : List ℕ) → 0 < length ds → all_ascii_digits ds ≡ true → (get_or ds 0 0 ≡ 48 → length ds ≡ 1) → is_decimal ds ≡ true
is_decimal-parts ds some digits first = and_from _ _ (and_from _ _ (lt-ltb 0 (length ds) some) digits) (⊎_elim (λ zero. let one = eq-eqb (length ds) 1 (first (eqb-true (get_or ds 0 0) 48 zero)) in rw one (or_true _)) (λ other. rw other refl) (cases_Bool (get_or ds 0 0 == 48)))

first_of_decimal : (n : ℕ) → n < 2 ^ 64 → get_or (decimal n) 0 0 ≡ 48 → length (decimal n) ≡ 1
first_of_decimal n small zero =
    ⊎_elim
    (λ (none : n < 1).
    let e : n ≡ 0 = omega arith in
    rw (e, decimal_digit 0 (omega arith)) refl)
    (λ (some : 1 ≤ n). absurd (omega (arith, first_decimal n (omega arith) small)))
    (cases_lt n 1)

pub is_decimal-decimal : (n : ℕ) → n < 2 ^ 64 → is_decimal (decimal n) ≡ true
is_decimal-decimal n small = is_decimal-parts (decimal n) (decimal_nonempty n small) (digits_decimal numerals n small) (first_of_decimal n small)

pub record DecimalParts (ds : List ℕ) : Type 0 where
  pub some : 0 < length ds
  pub digits : all_ascii_digits ds ≡ true
  pub first : get_or ds 0 0 ≡ 48 → length ds ≡ 1

parts_of_decimal : (ds : List ℕ) → is_decimal ds ≡ true → DecimalParts ds
parts_of_decimal ds is =
    let outer = and_parts (ltb 0 (length ds) && all_ascii_digits ds) (not (get_or ds 0 0 == 48) || (length ds == 1)) is in
    let inner = and_parts (ltb 0 (length ds)) (all_ascii_digits ds) outer.0 in
    record {
      some = ltb-true 0 (length ds) inner.0;
      digits = inner.1;
      first = λ zero. grind (arith, nat_tests, outer.1);
    }

-- what is parsed of a number in decimal is the number
pub parsed : (E : Type 0) (text digits : List ℕ) (r : Result ℕ E) → digits ≡ text → is_decimal text ≡ true → ParsesUnsigned 64 10 digits r → Reads decimal (λ n. n < 2 ^ 64) text (result_ok r)
parsed E text digits (Ok n) same is parses =
    let parts = parts_of_decimal text is in
    let parses' = rw same at parses in
    let gives = parse_digits numerals {E = E} 64 text (Ok n) parses' parts.digits in
    let small = gives.0.1 in
    (rw gives.1 small, rw gives.1 (decimal-digits_value numerals text parts.digits parts.some parts.first small))
parsed E text digits (Err e) same is parses = λ n small written.
    let is = parse-decimal {E = E} 64 n digits (Err e) small small (same ∙ sym written) parses in
    cc
