-- The expression that is computed from a text is the one that the text is.
use Rattle.std.proofs.Common.{◌≡◌, ℕ, Bool, true, false, List, length, Option, Some, None, refl, ap, ◌∙◌, arith}
use Rattle.std.specs.Prelude.{IsTrue, if◌then◌else◌}
use Rattle.std.specs.List.{list_all}
use Rattle.std.proofs.lemmas.Bool.{cond-true}
use Rattle.cfa_base.specs.declared.places.Place.{Place}
use Rattle.cfa_base.specs.Tokens.{Token}
use Rattle.cfa_base.specs.Lexing.{first_place, Fault, Scans}
use Rattle.cfa_base.specs.Scanned.{scan}
use Rattle.cfa_base.specs.lemmas.Scanning.{scan_scans, scans_same}
use Rattle.cfa_tree.specs.Tree.{ExprTree}
use Rattle.cfa_tree.specs.Guards.{GuardState, guard_start}
use Rattle.cfa_tree.specs.ClassTexts.{stays_on_line, IsExpression, guard_by_all, guard_by_bytes, expression_of}
use Rattle.cfa_tree.proofs.GuardEnds.{guard_by_reads, reads_guard_by}

-- where the bytes stay on a line, a guard becomes by them what it becomes by their tokens
pub by_scan : {place : Place} {bytes : List ℕ} {tokens : List Token} {fault : Option Fault} → Scans place bytes tokens fault → (g : GuardState) →
    guard_by_bytes place bytes g ≡ (if list_all stays_on_line bytes then guard_by_all tokens fault g else None)
by_scan {place} {bytes} {tokens} {fault} scans g =
    let same = scans_same (scan_scans (length bytes) place bytes (omega arith)) scans in
    ap (λ ts. if list_all stays_on_line bytes then guard_by_all ts (scan (length bytes) place bytes).fault g else None) same.0
    ∙ ap (λ f. if list_all stays_on_line bytes then guard_by_all tokens f g else None) same.1

pub expressions_are_computed : (text : List ℕ) (tree : ExprTree) → IsExpression text tree → expression_of text ≡ Some tree
unfolding expression_of
expressions_are_computed text tree is =
    by_scan is.lexes guard_start ∙ (cond-true (list_all stays_on_line text) _ _ is.blanks ∙ reads_guard_by is.tokens tree is.reads)

-- the tokens of a text on one line that make a guard
read_by : (text : List ℕ) (tree : ExprTree) (tokens : List Token) (fault : Option Fault) → IsTrue (list_all stays_on_line text) → Scans (first_place 0) text tokens fault →
    guard_by_all tokens fault guard_start ≡ Some tree → IsExpression text tree
read_by text tree tokens None blanks scans is = record { tokens = tokens; blanks = blanks; lexes = scans; reads = guard_by_reads tokens tree is }
read_by text tree tokens (Some fault) blanks scans is = absurd (cc)

read_if : (text : List ℕ) (tree : ExprTree) (tokens : List Token) (fault : Option Fault) (one_line : Bool) → list_all stays_on_line text ≡ one_line → Scans (first_place 0) text tokens fault →
    (if one_line then guard_by_all tokens fault guard_start else None) ≡ Some tree → IsExpression text tree
read_if text tree tokens fault true line scans is = read_by text tree tokens fault line scans is
read_if text tree tokens fault false line scans is = absurd (cc)

pub computed_are_expressions : (text : List ℕ) (tree : ExprTree) → expression_of text ≡ Some tree → IsExpression text tree
unfolding expression_of
computed_are_expressions text tree is =
    let scanned = scan (length text) (first_place 0) text in
    read_if text tree scanned.tokens scanned.fault (list_all stays_on_line text) refl (scan_scans (length text) (first_place 0) text (omega arith)) is

-- a text of which no expression is computed is none
pub none_computed : (text : List ℕ) → expression_of text ≡ None → (tree : ExprTree) → ¬ IsExpression text tree
none_computed text none tree is = let some = expressions_are_computed text tree is in cc
