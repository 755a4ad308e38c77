-- The number of a field is one from 1 to 999.
use Rattle.std.proofs.Common.{◌≡◌, ◌≤◌, ℕ, true, List, length, arith}
use Rattle.std.specs.Prelude.{nat_le}
use Rattle.std.specs.Str.{all_ascii_digits}
use Rattle.std.specs.Str.Parse.{digits_value}
use Rattle.std.proofs.lemmas.Bool.{and_parts}
use Rattle.std.proofs.lemmas.Bool.Decides.{nat_tests}
use Rattle.cfa_kinds.specs.declared.kinds.Form.TheVariants.{FieldNumber}
use Rattle.cfa_kinds.specs.Forms.{has_form, has_no_leading_zero}

pub number_bounds : (text : List ℕ) → has_form FieldNumber text ≡ true → (1 ≤ digits_value 10 text) × (digits_value 10 text ≤ 999)
number_bounds text form =
    let short = and_parts (nat_le (length text) 10) _ form in
    let digits = and_parts (all_ascii_digits text) _ short.1 in
    let zero = and_parts (has_no_leading_zero text) _ digits.1 in
    let both = and_parts (nat_le 1 (digits_value 10 text)) (nat_le (digits_value 10 text) 999) zero.1 in
    let low = both.0 in
    let high = both.1 in
    (grind (arith, nat_tests), grind (arith, nat_tests))
