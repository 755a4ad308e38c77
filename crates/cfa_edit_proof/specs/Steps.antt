-- Of the code alone: whether two edits clash by any rule and by which they then do, and what a search through a script has
-- found.
use Rattle.std.specs.Prelude.{◌≡◌, ◌≢◌, ℕ, ◌<◌, ◌≤◌, Bool, true, false, ◌||◌, List, Option, Some, None, length}
use Rattle.std.specs.List.{AllWithin, HoldsAt}
use Rattle.cfa_edits.specs.declared.edits.Edit.{Edit}
use Rattle.cfa_edits.specs.declared.edits.Edit.TheVariants.{Delete, Field, Insert, Replace}
use Rattle.cfa_edit_proof.specs.declared.clashes.Clash.{Clash}
use Rattle.cfa_edit_proof.specs.Clashes.{deletes_inserted, replaces_inserted, changes_matched, replaces_again, edits_inserted}
use Rattle.cfa_edit_proof.specs.Quiet.{IsClash, IsAtMost}

abbrev pub clash_of_two : (first second : Edit) → Bool
clash_of_two first second =
    deletes_inserted first second
    || (replaces_inserted first second
    || (changes_matched first second || (replaces_again first second || edits_inserted first second)))

-- the one rule that can hold of two edits of these kinds
abbrev pub rule_between : (first second : Edit) → ℕ
rule_between (Delete _) (Insert _ _) = 2
rule_between (Insert _ _) second = 3
rule_between (Field _ _ _ _) (Insert _ _) = 6
rule_between (Replace _ _ _) second = 5
rule_between _ _ = 4

abbrev pub is_replace : Edit → Bool
is_replace (Replace _ _ _) = true
is_replace _ = false

-- none of the edits from the one place to the other clashes with this one
abbrev pub NoneClash : Edit → List Edit → (from to : ℕ) → Type 0
NoneClash edit edits from to = AllWithin (λ other. clash_of_two edit other ≡ false) edits from to

-- the first place from one on at which an edit clashes with this one, if there is any
abbrev pub IsFirstPlace : Edit → List Edit → ℕ → Option ℕ → Type 0
IsFirstPlace edit edits from None = NoneClash edit edits from (length edits)
IsFirstPlace edit edits from (Some place) =
    (from ≤ place) × (place < length edits)
    × HoldsAt (λ other. clash_of_two edit other ≡ true) edits place × NoneClash edit edits from place

-- the least of the clashes whose first edit has this number, if there is any
abbrev pub IsFirstOf : List Edit → ℕ → Option Clash → Type 0
IsFirstOf script number None = (clash : Clash) → IsClash script clash → clash.first ≢ number
IsFirstOf script number (Some clash) =
    IsClash script clash × (clash.first ≡ number)
    × ((other : Clash) → IsClash script other → other.first ≡ number → IsAtMost clash other)
