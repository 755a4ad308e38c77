-- A turn's marks hang on what its own step added, and on how many changes the last instance had made before: nothing that other turns added
-- has a part in them. So they can be read off the log of all, or step by step.
use Rattle.std.specs.Prelude.{◌≡◌, ◌==◌, ℕ, suc, Bool, true, false, List, [], ◌∷◌, ◌++◌, length}
use Rattle.std.specs.List.{AllByRecursion as Each}
use Rattle.cfa_outside.specs.declared.sites.Entry.{Entry}
use Rattle.cfa_outside.specs.declared.sites.Entry.TheVariants.{Did, Refused}
use Rattle.cfa_agent.specs.Marks.{counted_on}
use Rattle.cfa_drill.specs.Interleaving.{marks_in, turn_marks_behind, turn_marks_of}

-- how many calls were refused
abbrev pub refusals_in : List Entry → ℕ
refusals_in [] = 0
refusals_in (Did change ∷ log) = refusals_in log
refusals_in (Refused call ∷ log) = suc (refusals_in log)

-- how many changes the last instance has made behind a log, where one had made so many before
abbrev pub counted_behind : (changes : ℕ) → List Entry → ℕ
counted_behind changes [] = changes
counted_behind changes (Did change ∷ log) = counted_behind (counted_on changes change) log
counted_behind changes (Refused call ∷ log) = counted_behind changes log

-- each refused call is paired with its turn
abbrev pub ArePaired : List Entry → (turns : List ℕ) → Type 0
ArePaired log turns = length turns ≡ refusals_in log

abbrev pub AreOthers : (turn : ℕ) → (turns : List ℕ) → Type 0
AreOthers turn turns = Each (λ (other : ℕ). (other == turn) ≡ false) turns

abbrev pub TurnsHaveTheirMarks : Type 0
TurnsHaveTheirMarks =
    (before step later : List Entry) (first own last : List ℕ) (turn number : ℕ) →
    ArePaired before first → ArePaired step own → AreOthers turn first → AreOthers turn last →
    marks_in turn number (turn_marks_of (before ++ (step ++ later)) (first ++ (own ++ last)))
    ≡ marks_in turn number (turn_marks_behind (counted_behind 0 before) step own)
