-- Laws on the canonical text. It reads back: the canonical text of a policy that was read from some tokens is the text
-- of tokens that read as the same policy, places aside, with no more levels open at once than before.
use Rattle.std.specs.Prelude.{◌≡◌, ◌↔◌, ℕ, List, Option, IsTrue}
use Rattle.cfa_base.specs.declared.places.Place.{Place}
use Rattle.cfa_base.specs.Tokens.{Token}
use Rattle.cfa_base.specs.Lexing.{Lexes, first_place}
use Rattle.cfa_tree.specs.Tree.{ExprTree, PolicyTree}
use Rattle.cfa_tree.specs.Grammar.{Levels, ReadsWithin}
use Rattle.cfa_tree.specs.Unplaced.{unplaced}
use Rattle.cfa_printer.specs.Printing.{printed}
use Rattle.cfa_printer.specs.SameExpr.{same_guard}

-- in a file of this number, the text is that of tokens that read as this policy, places aside
abbrev pub ReadsAs : Levels → (file : ℕ) → (bytes : List ℕ) → PolicyTree → Type 0
ReadsAs levels file bytes tree =
    (tokens : List Token) × (again : PolicyTree) × Lexes (first_place file) bytes tokens × ReadsWithin levels tokens again × (unplaced again ≡ unplaced tree)

abbrev pub PrintedReadsBack : Type 0
PrintedReadsBack =
    (levels : Levels) (place : Place) (source : List ℕ) (tokens : List Token) (tree : PolicyTree) →
    Lexes place source tokens → ReadsWithin levels tokens tree → (file : ℕ) → ReadsAs levels file (printed tree) tree

-- the line of a guard is left out exactly where the guard is that of the promise before
abbrev pub TestTellsEqual : Type 0
TestTellsEqual = (a b : Option ExprTree) → IsTrue (same_guard a b) ↔ (a ≡ b)
