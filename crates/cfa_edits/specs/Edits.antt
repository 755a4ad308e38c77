-- What edits do to the lines of a text. A delete takes out each line that its pattern matches. A field edit writes a value
-- as one of the fields of each matched line, which are its parts between the separators. An insert puts in those lines of a
-- block that aren't there. A replace writes a value in the place of what its pattern finds in each line.
use Rattle.std.specs.Prelude.{ℕ, ◌+◌, ◌-◌, Bool, true, false, not, nat_lt, ◌==◌, List, [], ◌∷◌, ◌++◌, map, filter, length, take, drop, slice_set, encode_utf8, encode_utf8_all, Option, Some, None, Result, Ok, Err, if◌then◌else◌}
use Rattle.std.specs.List.{slice_split, join_by, list_any, position_from}
use Rattle.std.specs.Option.{option_map, option_or}
use Rattle.std.specs.Str.{bytes_eq, chars}
use Rattle.cfa_base.specs.Patterns.{PatternText, matches_in, replaced}
use Rattle.cfa_edits.specs.declared.edits.Edit.{Edit}
use Rattle.cfa_edits.specs.declared.edits.Edit.TheVariants.{Delete, Field, Insert, Replace}
use Rattle.cfa_edits.specs.declared.edits.Spot.{Spot}
use Rattle.cfa_edits.specs.declared.edits.Spot.TheVariants.{Start, End, Before, After}
use Rattle.cfa_edits.specs.declared.edits.EditErr.{EditErr}
use Rattle.cfa_edits.specs.declared.edits.EditErr.TheVariants.{NoAnchor, FieldCount}

abbrev pub Lines : Type 0
Lines = List (List ℕ)

-- the lines that the pattern doesn't match
abbrev pub unmatched : PatternText → Lines → Lines
unmatched pattern lines = filter (λ line. not (matches_in pattern line)) lines

-- the fields of a line, from the first on: its parts between the separators
abbrev pub fields_of : ℕ → List ℕ → List (List ℕ)
fields_of separator line = map encode_utf8_all (slice_split (λ c. c == separator) (chars line))

abbrev pub joined_fields : ℕ → List (List ℕ) → List ℕ
joined_fields separator fields = join_by (λ field. field) (encode_utf8 separator) fields

-- the line with another value in the field of this number, counted from 1; none where it has fewer fields
unfoldable pub with_field : (separator number : ℕ) → (value line : List ℕ) → Option (List ℕ)
with_field separator number value line =
    let fields = fields_of separator line in
    if nat_lt (length fields) number then None
    else Some (joined_fields separator (slice_set fields (number - 1) value))

-- what one line becomes by a field edit
abbrev pub field_edited : PatternText → (separator number : ℕ) → (value line : List ℕ) → Option (List ℕ)
field_edited pattern separator number value line =
    if matches_in pattern line then with_field separator number value line else Some line

abbrev pub led_by : Option (List ℕ) → Option Lines → Option Lines
led_by None rest = None
led_by (Some line) None = None
led_by (Some line) (Some rest) = Some (line ∷ rest)

-- what the lines become, if each becomes one
abbrev pub each_becomes : (List ℕ → Option (List ℕ)) → Lines → Option Lines
each_becomes f [] = Some []
each_becomes f (line ∷ lines) = led_by (f line) (each_becomes f lines)

abbrev pub is_among : Lines → List ℕ → Bool
is_among lines line = list_any (λ other. bytes_eq line other) lines

-- the lines of the block that equal no line that is there and none before them in the block
abbrev pub lacking : Lines → Lines → Lines
lacking there [] = []
lacking there (line ∷ block) =
    if is_among there line then lacking (line ∷ there) block else line ∷ lacking (line ∷ there) block

-- the place of the last line that passes, where the list starts at place i
abbrev pub last_from : (List ℕ → Bool) → ℕ → Lines → Option ℕ
last_from test i [] = None
last_from test i (line ∷ lines) = option_or (last_from test (i + 1) lines) (if test line then Some i else None)

-- the place of the first or of the last line that the pattern matches
abbrev pub anchor : PatternText → Bool → Lines → Option ℕ
anchor pattern true lines = position_from (λ line. matches_in pattern line) 0 lines
anchor pattern false lines = last_from (λ line. matches_in pattern line) 0 lines

-- how many lines stand before the spot
abbrev pub spot_in : Lines → Spot → Option ℕ
spot_in lines Start = Some 0
spot_in lines End = Some (length lines)
spot_in lines (Before pattern is_first) = anchor pattern is_first lines
spot_in lines (After pattern is_first) = option_map (λ place. place + 1) (anchor pattern is_first lines)

-- the lines with more at a place, if there is one
abbrev pub put_at : Option ℕ → (more lines : Lines) → Result Lines EditErr
put_at None more lines = Err NoAnchor
put_at (Some place) more lines = Ok (take place lines ++ (more ++ drop place lines))

-- where nothing is to go in the spot isn't looked for
abbrev pub inserted : Spot → (more lines : Lines) → Result Lines EditErr
inserted spot [] lines = Ok lines
inserted spot (line ∷ more) lines = put_at (spot_in lines spot) (line ∷ more) lines

abbrev pub or_field_count : Option Lines → Result Lines EditErr
or_field_count None = Err FieldCount
or_field_count (Some lines) = Ok lines

-- the lines after one edit, or its refusal
abbrev pub edited_by : Edit → Lines → Result Lines EditErr
edited_by (Delete pattern) lines = Ok (unmatched pattern lines)
edited_by (Field pattern separator number value) lines =
    or_field_count (each_becomes (λ line. field_edited pattern separator number value line) lines)
edited_by (Insert block spot) lines = inserted spot (lacking lines block) lines
edited_by (Replace pattern value all) lines = Ok (map (λ line. replaced pattern line value all) lines)

abbrev pub unless_refused : (Lines → Result Lines EditErr) → Result Lines EditErr → Result Lines EditErr
unless_refused next (Err refusal) = Err refusal
unless_refused next (Ok lines) = next lines

-- the lines after the edits in their order, or the first refusal
abbrev pub edited : List Edit → Lines → Result Lines EditErr
edited [] lines = Ok lines
edited (edit ∷ edits) lines = unless_refused (edited edits) (edited_by edit lines)
