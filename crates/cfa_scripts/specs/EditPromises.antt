-- What a promise that edits gives to the script: one edit for each of its combinations, in their order. A pattern that doesn't
-- read fails its edit, and so does a separator that isn't one character, a field number that isn't one from 1 to 999, a value
-- with a newline in it, or a word that is none of its kind; of one edit the pattern is looked at first. Where something that
-- the promise or a body of it reads is unresolved, its files promise does nothing. Where it has too many combinations, or a text
-- or a list that is too long, its files promise fails for that.
use Rattle.std.specs.Prelude.{ℕ, Bool, true, false, not, ◌&&◌, ◌==◌, List, [], ◌∷◌, codes, chars, length, map, Option, Some, None, option_map, if◌then◌else◌}
use Rattle.std.specs.List.{list_any, slice_split}
use Rattle.std.specs.Str.{bytes_eq}
use Rattle.std.specs.Str.Parse.{digits_value}
use Rattle.cfa_base.specs.Patterns.{PatternText, pattern_of, is_pattern}
use Rattle.cfa_base.specs.declared.patterns.How.{How}
use Rattle.cfa_base.specs.declared.patterns.How.TheVariants.{Whole, Part}
use Rattle.cfa_tree.specs.Tree.{PromiseTree, PolicyTree}
use Rattle.cfa_kinds.specs.declared.kinds.PromiseType.{PromiseType}
use Rattle.cfa_kinds.specs.declared.kinds.PromiseType.TheVariants as promises
use Rattle.cfa_kinds.specs.declared.kinds.Form.{Form}
use Rattle.cfa_kinds.specs.declared.kinds.Form.TheVariants as forms
use Rattle.cfa_kinds.specs.Forms.{has_form}
use Rattle.cfa_vars.specs.declared.expanding.Expanded.{Expanded}
use Rattle.cfa_vars.specs.declared.expanding.Expanded.TheVariants.{Done, Unresolved as unset, TooLong as past}
use Rattle.cfa_vars.specs.Scopes.{InScope}
use Rattle.cfa_vars.specs.Expansion.{Chosen, expanded}
use Rattle.cfa_defines.specs.declared.combining.Combined.{Combined}
use Rattle.cfa_defines.specs.declared.combining.Combined.TheVariants.{Lacks as lacks, TooMany as too_many, TooLong as too_long, Found as found}
use Rattle.cfa_defines.specs.OwnTexts.{combined, own_reads}
use Rattle.cfa_bodies.specs.declared.sayings.Said.{Said}
use Rattle.cfa_bodies.specs.declared.hearing.Heard.{Heard}
use Rattle.cfa_bodies.specs.declared.hearing.Heard.TheVariants.{Lacks as lacks_body, TooMany as many_in_body, TooLong as long_in_body, All as all_heard}
use Rattle.cfa_bodies.specs.Bodies.{Bodies, bodies_of, said_in, text_in, heard, text_or_empty}
use Rattle.cfa_edits.specs.declared.edits.Edit.{Edit}
use Rattle.cfa_edits.specs.declared.edits.Edit.TheVariants.{Delete, Field, Insert, Replace}
use Rattle.cfa_edits.specs.declared.edits.Spot.{Spot}
use Rattle.cfa_edits.specs.declared.edits.Spot.TheVariants.{Start, End, Before, After}
use Rattle.cfa_scripts.specs.declared.contributing.Contribution.{Contribution}
use Rattle.cfa_scripts.specs.declared.contributing.Contribution.TheVariants.{Edit as an_edit, Unresolved as unresolved, TooMany as many, TooLong as long, BadPattern as bad_pattern, BadValue as bad_value}

-- ---- what bodies say

-- what is said as a text, empty where it isn't given
-- of this form, if it is given
abbrev pub is_right : Form → Option Said → Bool
is_right form None = true
is_right form (Some said) = has_form form (text_in said)

-- it is given, and is this word
abbrev pub is_word_said : List ℕ → Option Said → Bool
is_word_said word None = false
is_word_said word (Some said) = bytes_eq (text_in said) word

abbrev pub is_one_line : List ℕ → Bool
is_one_line content = not (list_any (λ byte. byte == 10) content)

abbrev pub first_character : List ℕ → ℕ
first_character [] = 0
first_character (c ∷ more) = c

-- ---- one edit

-- the pattern of a text, if it reads
abbrev pub pattern_read : How → List ℕ → Option PatternText
pattern_read how content = if is_pattern how content then Some (pattern_of how content) else None

-- without a pattern that is missing
abbrev pub pattern_if_given : Option Said → Option (Option PatternText)
pattern_if_given None = Some None
pattern_if_given (Some said) = option_map (λ pattern. Some pattern) (pattern_read Whole (text_in said))

abbrev pub unless_wrong : (is_right : Bool) → Edit → Contribution
unless_wrong true edit = an_edit edit
unless_wrong false edit = bad_value

-- a pattern that doesn't read goes before a value that is wrong
abbrev pub edit_with : {X : Type 0} → Option X → (X → Contribution) → Contribution
edit_with None make = bad_pattern
edit_with (Some pattern) make = make pattern

abbrev pub delete_for : (pattern : List ℕ) → Contribution
delete_for pattern = edit_with (pattern_read Whole pattern) (λ p. an_edit (Delete p))

abbrev pub is_right_field : (separator number value : List ℕ) → (operation : Option Said) → Bool
is_right_field separator number value operation =
    has_form forms.Character separator && (has_form forms.FieldNumber number && (is_one_line value && is_right forms.FieldOperation operation))

abbrev pub field_by : PatternText → (separator number value : List ℕ) → (operation : Option Said) → Contribution
field_by pattern separator number value operation =
    unless_wrong (is_right_field separator number value operation)
    (Field pattern (first_character (chars separator)) (digits_value 10 number) value)

abbrev pub field_for : (pattern separator number value : List ℕ) → (operation : Option Said) → Contribution
field_for pattern separator number value operation =
    edit_with (pattern_read Whole pattern) (λ p. field_by p separator number value operation)

-- the block of an insert: its promiser, split at newlines
abbrev pub block_of : List ℕ → List (List ℕ)
block_of promiser = slice_split (λ byte. byte == 10) promiser

-- without a pattern at the start or the end, else directly before or after the first or the last line that it matches
abbrev pub spot_for : Option PatternText → (is_before is_first : Bool) → Spot
spot_for None true is_first = Start
spot_for None false is_first = End
spot_for (Some pattern) true is_first = Before pattern is_first
spot_for (Some pattern) false is_first = After pattern is_first

abbrev pub insert_by : (promiser : List ℕ) → Option PatternText → (side end : Option Said) → Contribution
insert_by promiser anchor side end =
    unless_wrong (is_right forms.Side side && is_right forms.End end)
    (Insert (block_of promiser) (spot_for anchor (is_word_said (codes "before") side) (is_word_said (codes "first") end)))

abbrev pub insert_for : (promiser : List ℕ) → (anchor side end : Option Said) → Contribution
insert_for promiser anchor side end = edit_with (pattern_if_given anchor) (λ p. insert_by promiser p side end)

-- all of the matches, unless the first alone is asked for
abbrev pub replace_by : PatternText → (value : List ℕ) → (occurrences : Option Said) → Contribution
replace_by pattern value occurrences =
    unless_wrong (is_one_line value && is_right forms.Occurrences occurrences)
    (Replace pattern value (not (is_word_said (codes "first") occurrences)))

abbrev pub replace_for : (pattern value : List ℕ) → (occurrences : Option Said) → Contribution
replace_for pattern value occurrences = edit_with (pattern_read Part pattern) (λ p. replace_by p value occurrences)

-- the edit of a promise of a type, by its promiser and its bodies
abbrev pub edit_for : PromiseType → (promiser : List ℕ) → Bodies → Contribution
edit_for promises.FieldEdits promiser bodies =
    field_for promiser (text_or_empty (said_in bodies (codes "edit_field") (codes "field_separator")))
    (text_or_empty (said_in bodies (codes "edit_field") (codes "select_field")))
    (text_or_empty (said_in bodies (codes "edit_field") (codes "field_value")))
    (said_in bodies (codes "edit_field") (codes "field_operation"))
edit_for promises.InsertLines promiser bodies =
    insert_for promiser (said_in bodies (codes "location") (codes "select_line_matching"))
    (said_in bodies (codes "location") (codes "before_after")) (said_in bodies (codes "location") (codes "first_last"))
edit_for promises.ReplacePatterns promiser bodies =
    replace_for promiser (text_or_empty (said_in bodies (codes "replace_with") (codes "replace_value")))
    (said_in bodies (codes "replace_with") (codes "occurrences"))
edit_for type promiser bodies = delete_for promiser

-- ---- one combination

abbrev pub whole_text : Expanded → List ℕ
whole_text (Done whole) = whole
whole_text (unset name) = []
whole_text past = []

abbrev pub contribution_by : PromiseType → (promiser : List ℕ) → Bodies → Heard → Contribution
contribution_by type promiser bodies (lacks_body name) = unresolved name
contribution_by type promiser bodies many_in_body = many
contribution_by type promiser bodies long_in_body = long
contribution_by type promiser bodies all_heard = edit_for type promiser bodies

module _ (policy : PolicyTree) (scopes : InScope) (type : PromiseType) (promise : PromiseTree) where
  abbrev pub contribution_with : (promiser : List ℕ) → Bodies → Contribution
  contribution_with promiser bodies = contribution_by type promiser bodies (heard bodies)

  unfoldable pub contribution : Chosen → Contribution
  contribution choice =
      contribution_with (whole_text (expanded scopes choice promise.promiser)) (bodies_of policy scopes choice type promise)

  -- ---- all combinations

  abbrev pub edits_by : Combined → List Contribution
  edits_by (lacks name) = unresolved (Some name) ∷ []
  edits_by too_many = many ∷ []
  edits_by (too_long combinations) = long ∷ []
  edits_by (found choices) = map contribution choices

  unfoldable pub edits_of : List Contribution
  edits_of = edits_by (combined scopes (own_reads type promise))

-- how many visits it counts: as many as it has combinations, and one where it has none or too many or isn't resolved
abbrev pub at_least_one : ℕ → ℕ
at_least_one n = if n == 0 then 1 else n

abbrev pub count_combined : Combined → ℕ
count_combined (lacks name) = 1
count_combined too_many = 1
count_combined (too_long combinations) = combinations
count_combined (found choices) = at_least_one (length choices)

unfoldable pub edit_visits : InScope → PromiseType → PromiseTree → ℕ
edit_visits scopes type promise = count_combined (combined scopes (own_reads type promise))
