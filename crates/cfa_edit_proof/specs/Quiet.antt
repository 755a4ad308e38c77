-- A script is quiet where no two of its edits clash and none clashes with itself. On lines on which a quiet script isn't
-- refused it settles: made again on the lines that it leaves, it leaves them as they are.
use Rattle.std.specs.Prelude.{◌≡◌, ◌⊎◌, ℕ, ◌-◌, ◌<◌, ◌≤◌, true, List, Option, Some, None, Ok, All, IsUtf8, slice_get}
use Rattle.std.specs.Char.{IsScalar}
use Rattle.cfa_edits.specs.declared.edits.Edit.{Edit}
use Rattle.cfa_edits.specs.declared.edits.Edit.TheVariants.{Delete, Field, Insert, Replace}
use Rattle.cfa_edits.specs.Edits.{Lines, edited}
use Rattle.cfa_edits.specs.Scripts.{AreEdits}
use Rattle.cfa_edit_proof.specs.declared.clashes.Clash.{Clash}
use Rattle.cfa_edit_proof.specs.Clashes.{clashes_alone, clash_by}

-- the edit has this number in the script, counted from 1
pub record IsNumbered (script : List Edit) (number : ℕ) (edit : Edit) : Type 0 where
  pub counted : 1 ≤ number
  pub is : slice_get script (number - 1) ≡ Some edit

-- an edit that clashes with itself, which is the first rule
pub record IsClashAlone (script : List Edit) (clash : Clash) (edit : Edit) : Type 0 where
  pub place : IsNumbered script clash.first edit
  pub same : clash.second ≡ clash.first
  pub rule : clash.rule ≡ 1
  pub holds : clashes_alone edit ≡ true

-- two edits that clash by a rule
pub record IsClashOfTwo (script : List Edit) (clash : Clash) (first second : Edit) : Type 0 where
  pub place : IsNumbered script clash.first first
  pub later : IsNumbered script clash.second second
  pub order : clash.first < clash.second
  pub holds : clash_by clash.rule first second ≡ true

abbrev pub IsClash : List Edit → Clash → Type 0
IsClash script clash =
    ((edit : Edit) × IsClashAlone script clash edit)
    ⊎ ((first : Edit) × (second : Edit) × IsClashOfTwo script clash first second)

-- by the number of the first edit, then of the second, then of the rule
abbrev pub IsAtMost : (clash other : Clash) → Type 0
IsAtMost clash other =
    (clash.first < other.first)
    ⊎ ((clash.first ≡ other.first) × ((clash.second < other.second)
    ⊎ ((clash.second ≡ other.second) × (clash.rule ≤ other.rule))))

abbrev pub IsQuiet : List Edit → Type 0
IsQuiet script = (clash : Clash) → IsClash script clash → ⊥

-- the least clash of the script, where it has any
abbrev pub IsFirstClash : List Edit → Option Clash → Type 0
IsFirstClash script None = IsQuiet script
IsFirstClash script (Some clash) =
    IsClash script clash × ((other : Clash) → IsClash script other → IsAtMost clash other)

-- the names of an edit are texts and its separator is a character, as their types keep
abbrev pub HasTexts : Edit → Type 0
HasTexts (Delete pattern) = Unit {0}
HasTexts (Field pattern separator number value) = IsScalar separator × IsUtf8 value
HasTexts (Insert block spot) = All IsUtf8 block
HasTexts (Replace pattern value all) = IsUtf8 value

-- on all lines on which the script isn't refused: what it leaves it leaves again
abbrev pub Settles : List Edit → Type 0
Settles script =
    (lines left : Lines) → All IsUtf8 lines → edited script lines ≡ Ok left → edited script left ≡ Ok left

-- a quiet script settles
abbrev pub QuietSettles : Type 0
QuietSettles = (script : List Edit) → AreEdits script → All HasTexts script → IsQuiet script → Settles script
