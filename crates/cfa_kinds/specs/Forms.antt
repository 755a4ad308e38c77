-- The forms that a text of an attribute may be asked to have.
use Rattle.std.specs.Prelude.{ℕ, Bool, true, false, ◌||◌, ◌&&◌, ◌==◌, not, nat_le, List, [], ◌∷◌, length, chars, codes, Option, Some, None, if◌then◌else◌}
use Rattle.std.specs.List.{list_all}
use Rattle.std.specs.Str.{bytes_eq, all_ascii_digits}
use Rattle.std.specs.Str.Parse.{digits_value}
use Rattle.cfa_base.specs.Octal.{is_octal_digit}
use Rattle.cfa_kinds.specs.declared.kinds.Form.{Form}
use Rattle.cfa_kinds.specs.declared.kinds.Form.TheVariants.{AnyText, Boolean, WholeNumber, ServicePolicy, LinkChoice, Digest, NoBackup, Mode, Minutes, Side, End, Occurrences, Character, FieldNumber, FieldOperation}

unfoldable pub is_boolean : List ℕ → Bool
is_boolean text =
    bytes_eq text (codes "true") || (bytes_eq text (codes "false") || (bytes_eq text (codes "yes") || (
    bytes_eq text (codes "no") || (bytes_eq text (codes "on") || bytes_eq text (codes "off")))))

unfoldable pub is_service_policy : List ℕ → Bool
is_service_policy text =
    bytes_eq text (codes "start") || (bytes_eq text (codes "stop") || (bytes_eq text (codes "enable") || (
    bytes_eq text (codes "disable") || bytes_eq text (codes "restart"))))

-- 1 to 18 decimal digits
abbrev pub is_digits : List ℕ → Bool
is_digits text = nat_le 1 (length text) && (nat_le (length text) 18 && all_ascii_digits text)

-- an optional `-`, which is 45, and 1 to 18 decimal digits
abbrev pub is_whole_number : List ℕ → Bool
is_whole_number [] = false
is_whole_number (b ∷ rest) = if b == 45 then is_digits rest else is_digits (b ∷ rest)

abbrev pub has_no_leading_zero : List ℕ → Bool
has_no_leading_zero [] = false
has_no_leading_zero (b ∷ []) = true
has_no_leading_zero (b ∷ c ∷ rest) = not (b == 48)

-- a number in decimal, without a sign or a leading zero, from the least to the greatest one; ten digits are enough
abbrev pub is_number_from : (least greatest : ℕ) → List ℕ → Bool
is_number_from least greatest text =
    nat_le (length text) 10 && (all_ascii_digits text && (has_no_leading_zero text && (
    nat_le least (digits_value 10 text) && nat_le (digits_value 10 text) greatest)))

abbrev pub is_mode : List ℕ → Bool
is_mode text = (length text == 3 || length text == 4) && list_all is_octal_digit text

-- whether a text has the form
abbrev pub has_form : Form → List ℕ → Bool
has_form AnyText text = true
has_form Boolean text = is_boolean text
has_form WholeNumber text = is_whole_number text
has_form ServicePolicy text = is_service_policy text
has_form LinkChoice text = bytes_eq text (codes "delete") || bytes_eq text (codes "keep")
has_form Digest text = bytes_eq text (codes "digest")
has_form NoBackup text = bytes_eq text (codes "false")
has_form Mode text = is_mode text
has_form Minutes text = is_number_from 0 525600 text
has_form Side text = bytes_eq text (codes "before") || bytes_eq text (codes "after")
has_form End text = bytes_eq text (codes "first") || bytes_eq text (codes "last")
has_form Occurrences text = bytes_eq text (codes "all") || bytes_eq text (codes "first")
has_form Character text = length (chars text) == 1
has_form FieldNumber text = is_number_from 1 999 text
has_form FieldOperation text = bytes_eq text (codes "set")

-- the number that a text of the form `Minutes` writes
abbrev pub minutes_written : List ℕ → Option ℕ
minutes_written text = if has_form Minutes text then Some (digits_value 10 text) else None
