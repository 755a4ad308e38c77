-- Texts of decimal digits: one without a leading zero isn't empty, and a number of minutes is at most those of a year.
use Rattle.std.proofs.Common.{◌≡◌, ◌<◌, ◌≤◌, ℕ, true, List, [], ◌∷◌, length, arith}
use Rattle.std.specs.Prelude.{nat_le}
use Rattle.std.specs.Str.{all_ascii_digits}
use Rattle.std.specs.Str.Parse.{digits_value}
use Rattle.std.proofs.lemmas.Bool.{and_parts}
use Rattle.std.proofs.lemmas.Bool.Decides.{nat_tests}
use Rattle.cfa_kinds.specs.declared.kinds.Form.TheVariants.{Minutes}
use Rattle.cfa_kinds.specs.Forms.{has_form, has_no_leading_zero}

pub non_empty : (text : List ℕ) → has_no_leading_zero text ≡ true → 0 < length text
non_empty [] e = cc
non_empty (b ∷ rest) e = omega arith

pub small_digits : (text : List ℕ) → has_form Minutes text ≡ true → digits_value 10 text ≤ 525600
small_digits text form =
    let short = and_parts (nat_le (length text) 10) _ form in
    let digits = and_parts (all_ascii_digits text) _ short.1 in
    let zero = and_parts (has_no_leading_zero text) _ digits.1 in
    let least = and_parts (nat_le 0 (digits_value 10 text)) (nat_le (digits_value 10 text) 525600) zero.1 in
    let most : nat_le (digits_value 10 text) 525600 ≡ true = least.1 in
    grind (arith, nat_tests)
