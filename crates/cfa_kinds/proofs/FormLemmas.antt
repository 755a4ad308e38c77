-- The number that a few digits write.
use Rattle.std.proofs.Common.{◌≡◌, ◌<◌, ◌≤◌, ◌^◌, ℕ, true, List, length, Err, arith}
use Rattle.std.specs.Str.{all_ascii_digits}
use Rattle.std.specs.Str.Parse.{digits_value, ParsesUnsigned}
use Rattle.std.proofs.lemmas.Str.Parse.{parse_digits, digits_value_short}
use Rattle.std.specs.Prelude.{nat_le}
use Rattle.std.proofs.lemmas.Bool.{and_parts}
use Rattle.std.proofs.lemmas.Bool.Decides.{nat_tests}
use Rattle.cfa_base.specs.lemmas.Numerals.{numerals}
use Rattle.cfa_kinds.specs.declared.kinds.Form.TheVariants.{Minutes}
use Rattle.cfa_kinds.specs.Forms.{has_form, has_no_leading_zero}
use Rattle.cfa_kinds.specs.lemmas.Digits.{non_empty}

-- at most ten digits, one at least, are always read
pub always_read : {E : Type 0} (text : List ℕ) (e : E) → ParsesUnsigned 64 10 text (Err e) → all_ascii_digits text ≡ true → 0 < length text → length text ≤ 10 → ⊥
always_read text e parsed digits some short =
    let small : digits_value 10 text < 2 ^ 64 = omega (arith, digits_value_short numerals text 10 digits short) in
    parse_digits numerals 64 text (Err e) parsed digits (some, small)

-- the digits of a number of minutes are always read
pub minutes_read : {E : Type 0} (text : List ℕ) (e : E) → ParsesUnsigned 64 10 text (Err e) → has_form Minutes text ≡ true → ⊥
minutes_read text e parsed form =
    let short = and_parts (nat_le (length text) 10) _ form in
    let digits = and_parts (all_ascii_digits text) _ short.1 in
    let zero = and_parts (has_no_leading_zero text) _ digits.1 in
    let few = short.0 in
    let within : length text ≤ 10 = grind (arith, nat_tests) in
    always_read text e parsed digits.0 (non_empty text zero.0) within
