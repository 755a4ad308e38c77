-- Scripts: which lists of edits are scripts, and their texts. A text joins its edits by commas and the fields of an edit by
-- colons; fields are escaped, patterns as they are in the policy.
use Rattle.std.specs.Prelude.{◌≡◌, ◌≢◌, ℕ, ◌<◌, ◌≤◌, List, [], ◌∷◌, map, length, codes, All, encode_utf8, if◌then◌else◌}
use Rattle.std.specs.Fmt.{decimal}
use Rattle.std.specs.List.{join_with_byte}
use Rattle.cfa_base.specs.Escapes.{escaped}
use Rattle.cfa_base.specs.declared.patterns.How.TheVariants.{Whole, Part}
use Rattle.cfa_edits.specs.declared.edits.Edit.{Edit}
use Rattle.cfa_edits.specs.declared.edits.Edit.TheVariants.{Delete, Field, Insert, Replace}
use Rattle.cfa_edits.specs.declared.edits.Spot.{Spot}
use Rattle.cfa_edits.specs.declared.edits.Spot.TheVariants.{Start, End, Before, After}

-- no newline stands in it
abbrev pub IsOneLine : List ℕ → Type 0
IsOneLine text = All (λ byte. byte ≢ 10) text

-- the pattern of an anchor is built as a whole match
abbrev pub IsSpot : Spot → Type 0
IsSpot Start = Unit {0}
IsSpot End = Unit {0}
IsSpot (Before pattern is_first) = pattern.how ≡ Whole
IsSpot (After pattern is_first) = pattern.how ≡ Whole

abbrev pub IsEdit : Edit → Type 0
IsEdit (Delete pattern) = pattern.how ≡ Whole
IsEdit (Field pattern separator number value) =
    (pattern.how ≡ Whole) × (1 ≤ number) × (number ≤ 999) × IsOneLine value
IsEdit (Insert block spot) = IsSpot spot × (0 < length block) × All IsOneLine block
IsEdit (Replace pattern value all) = (pattern.how ≡ Part) × IsOneLine value

-- the place of an edit's kind among the kinds
abbrev pub rank : Edit → ℕ
rank (Delete pattern) = 0
rank (Field pattern separator number value) = 1
rank (Insert block spot) = 2
rank (Replace pattern value all) = 3

-- deletes first, then field edits, inserts and replaces
abbrev pub AreInOrder : List Edit → Type 0
AreInOrder [] = Unit {0}
AreInOrder (edit ∷ []) = Unit {0}
AreInOrder (edit ∷ next ∷ more) = (rank edit ≤ rank next) × AreInOrder (next ∷ more)

-- the edits of a script
pub record AreEdits (edits : List Edit) : Type 0 where
  pub each : All IsEdit edits
  pub order : AreInOrder edits

abbrev pub spot_name : Spot → List ℕ
spot_name Start = codes "start"
spot_name End = codes "end"
spot_name (Before pattern is_first) = if is_first then codes "before-first" else codes "before-last"
spot_name (After pattern is_first) = if is_first then codes "after-first" else codes "after-last"

-- the text of the anchor's pattern, empty where there is none
abbrev pub spot_pattern : Spot → List ℕ
spot_pattern Start = []
spot_pattern End = []
spot_pattern (Before pattern is_first) = pattern.text
spot_pattern (After pattern is_first) = pattern.text

-- the lines of a block, each escaped, joined by plus signs
abbrev pub block_text : List (List ℕ) → List ℕ
block_text block = join_with_byte 43 (map escaped block)

-- the fields of an edit's text
abbrev pub edit_fields : Edit → List (List ℕ)
edit_fields (Delete pattern) = codes "d" ∷ escaped pattern.text ∷ []
edit_fields (Field pattern separator number value) =
    codes "f" ∷ escaped pattern.text ∷ escaped (encode_utf8 separator) ∷ decimal number ∷ escaped value ∷ []
edit_fields (Insert block spot) =
    codes "i" ∷ spot_name spot ∷ escaped (spot_pattern spot) ∷ block_text block ∷ []
edit_fields (Replace pattern value all) =
    codes "r" ∷ (if all then codes "all" else codes "first") ∷ escaped pattern.text ∷ escaped value ∷ []

abbrev pub edit_text : Edit → List ℕ
edit_text edit = join_with_byte 58 (edit_fields edit)

unfoldable pub script_text : List Edit → List ℕ
script_text edits = join_with_byte 44 (map edit_text edits)
