-- The number that the text of a field number writes.
use Rattle.std.proofs.Common.{◌≡◌, ◌<◌, ◌^◌, ℕ, true, List, ◌&&◌, length, Err, Option, arith}
use Rattle.std.specs.Prelude.{nat_le}
use Rattle.std.specs.Str.{all_ascii_digits}
use Rattle.std.specs.Str.Parse.{digits_value, ParsesUnsigned}
use Rattle.std.proofs.lemmas.Bool.{and_parts}
use Rattle.std.proofs.lemmas.Str.Parse.{parse_digits}
use Rattle.cfa_base.specs.lemmas.Numerals.{numerals}
use Rattle.cfa_kinds.specs.declared.kinds.Form.TheVariants.{Character, FieldNumber, FieldOperation}
use Rattle.cfa_bodies.specs.declared.sayings.Said.{Said}
use Rattle.cfa_scripts.specs.EditPromises.{is_right_field, is_one_line, is_right}
use Rattle.cfa_kinds.specs.Forms.{has_form, has_no_leading_zero}
use Rattle.cfa_kinds.specs.lemmas.Digits.{non_empty}
use Rattle.cfa_scripts.specs.lemmas.FieldNumbers.{number_bounds}

-- a field's number is one where the field is right
pub number_of_field : (separator number value : List ℕ) (operation : Option Said) → is_right_field separator number value operation ≡ true → has_form FieldNumber number ≡ true
number_of_field separator number value operation right =
    let a = and_parts (has_form Character separator) (has_form FieldNumber number && (is_one_line value && is_right FieldOperation operation)) right in
    (and_parts (has_form FieldNumber number) (is_one_line value && is_right FieldOperation operation) a.1).0

-- such a number is always read
pub number_read : {E : Type 0} (text : List ℕ) (e : E) → ParsesUnsigned 16 10 text (Err e) → has_form FieldNumber text ≡ true → ⊥
number_read text e parsed form =
    let short = and_parts (nat_le (length text) 10) _ form in
    let digits = and_parts (all_ascii_digits text) _ short.1 in
    let zero = and_parts (has_no_leading_zero text) _ digits.1 in
    let bounds = number_bounds text form in
    let small : digits_value 10 text < 2 ^ 16 = omega (arith, bounds.1) in
    parse_digits numerals 16 text (Err e) parsed digits.0 (non_empty text zero.0, small)
