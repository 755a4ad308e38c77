-- The table of clashes. Two edits of a script clash where the later one may undo what the earlier one did, or give it more
-- to do: a delete takes out a line that is inserted, a replace writes what is replaced again. An edit clashes with itself
-- where doing it twice may differ from doing it once.
use Rattle.std.specs.Prelude.{ℕ, ◌-◌, Bool, false, true, not, ◌&&◌, ◌||◌, ◌==◌, List, length, Option, Some, None, slice_get}
use Rattle.std.specs.List.{list_any}
use Rattle.std.specs.Str.{bytes_eq, chars}
use Rattle.cfa_base.specs.Patterns.{PatternText, matches_in}
use Rattle.cfa_edits.specs.declared.edits.Edit.{Edit}
use Rattle.cfa_edits.specs.declared.edits.Edit.TheVariants.{Delete, Field, Insert, Replace}
use Rattle.cfa_edits.specs.Edits.{fields_of}
use Rattle.cfa_edit_proof.specs.Plain.{is_plain, contains, is_in, shares_character}

abbrev pub is_text : Option (List ℕ) → List ℕ → Bool
is_text None value = false
is_text (Some text) value = bytes_eq text value

-- the line has a field of this number, counted from 1, and it is the value
abbrev pub has_field : (separator number : ℕ) → (value line : List ℕ) → Bool
has_field separator number value line = is_text (slice_get (fields_of separator line) (number - 1)) value

-- K1: a replace of the first match alone, or whose pattern isn't plain, or whose value is empty or shares a character with
-- the pattern; a field edit whose value holds its separator
abbrev pub clashes_alone : Edit → Bool
clashes_alone (Delete pattern) = false
clashes_alone (Field pattern separator number value) = is_in (chars value) separator
clashes_alone (Insert block spot) = false
clashes_alone (Replace pattern value all) =
    not all || (not (is_plain pattern.text) || ((length value == 0) || shares_character value pattern.text))

-- K2: a delete, and an insert with a line that its pattern matches
abbrev pub deletes_inserted : Edit → Edit → Bool
deletes_inserted (Delete pattern) (Insert block spot) = list_any (λ line. matches_in pattern line) block
deletes_inserted _ _ = false

-- K3: an insert with a line that contains the pattern of a replace
abbrev pub replaces_inserted : Edit → Edit → Bool
replaces_inserted (Insert block spot) (Replace pattern value all) = list_any (λ line. contains line pattern.text) block
replaces_inserted _ _ = false

-- a field edit or a replace
abbrev pub changes_lines : Edit → Bool
changes_lines (Delete pattern) = false
changes_lines (Field pattern separator number value) = true
changes_lines (Insert block spot) = false
changes_lines (Replace pattern value all) = true

-- K4: a delete or a field edit, and a field edit or a replace
abbrev pub changes_matched : Edit → Edit → Bool
changes_matched (Delete pattern) other = changes_lines other
changes_matched (Field pattern separator number value) other = changes_lines other
changes_matched (Insert block spot) other = false
changes_matched (Replace pattern value all) other = false

-- K5: two replaces, where the value of the later one shares a character with the pattern of the earlier one
abbrev pub replaces_again : Edit → Edit → Bool
replaces_again (Replace pattern value all) (Replace other written every) = shares_character written pattern.text
replaces_again _ _ = false

-- the pattern of a field edit matches the line, whose field isn't the value
abbrev pub wants_field : PatternText → (separator number : ℕ) → (value line : List ℕ) → Bool
wants_field pattern separator number value line =
    matches_in pattern line && not (has_field separator number value line)

-- K6: a field edit, and an insert with a line that its pattern matches and whose field is missing or isn't the value
abbrev pub edits_inserted : Edit → Edit → Bool
edits_inserted (Field pattern separator number value) (Insert block spot) =
    list_any (λ line. wants_field pattern separator number value line) block
edits_inserted _ _ = false

-- the rule of this number holds of two edits, the first of which stands before the second
abbrev pub clash_by : (rule : ℕ) → (first second : Edit) → Bool
clash_by rule first second =
    ((rule == 2) && deletes_inserted first second)
    || (((rule == 3) && replaces_inserted first second)
    || (((rule == 4) && changes_matched first second)
    || (((rule == 5) && replaces_again first second)
    || ((rule == 6) && edits_inserted first second))))
