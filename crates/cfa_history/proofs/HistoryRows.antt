-- Histories that are known.
use Rattle.std.proofs.Common.{◌≡◌, ℕ, List, [], ◌∷◌, codes, replicate, refl}
use Rattle.cfa_base.specs.declared.places.PromiseId.{PromiseId}
use Rattle.cfa_journal.specs.declared.records.Digest.{Digest}
use Rattle.cfa_journal.specs.declared.records.Digest.TheVariants.{Nothing, Over, Sha}
use Rattle.cfa_journal.specs.declared.records.Record.{Record}
use Rattle.cfa_journal.specs.declared.records.Record.TheVariants.{Run, Run2, Open, File, Repaired, Failed, Fail}
use Rattle.cfa_history.specs.declared.gaps.Gap.{Gap}
use Rattle.cfa_history.specs.declared.rows.Row.{Row}
use Rattle.cfa_history.specs.Gaps.{gaps_of}
use Rattle.cfa_history.specs.Instances.{instances}
use Rattle.cfa_history.specs.Rows.{row_of}

abbrev of_main : ℕ → ℕ → PromiseId
of_main number line = record { bundle = codes "main"; number = number; line = line }

abbrev z : List ℕ
z = replicate 64 48

abbrev x : Digest
x = Sha (replicate 64 49)

abbrev y : Digest
y = Sha (replicate 64 50)

abbrev a : List ℕ
a = codes "/a"

abbrev tells : PromiseId → (repaired changes failed left_open last : ℕ) → Row
tells id repaired changes failed left_open last = record { id = id; repaired = repaired; changes = changes; failed = failed; left_open = left_open; last = last }

abbrev gap : (moment : ℕ) (expected found : Digest) → Gap
gap moment expected found = record { path = a; moment = moment; expected = expected; found = found }

-- one repair was finished, and the agent was stopped in the next
abbrev stopped : List Record
stopped = Run 5 ∷ Open 1 (of_main 1 4) z ∷ Repaired 1 1 ∷ Open 2 (of_main 2 5) z ∷ []

pub stopped_first : row_of (instances 0 stopped) (of_main 1 4) ≡ tells (of_main 1 4) 1 1 0 0 5
stopped_first = refl

pub stopped_second : row_of (instances 0 stopped) (of_main 2 5) ≡ tells (of_main 2 5) 0 0 0 1 5
stopped_second = refl

pub stopped_gaps : gaps_of stopped ≡ []
stopped_gaps = refl

-- two repairs of one file, of which the second found this content
abbrev twice : Digest → List Record
twice found = Run2 5 ∷ Open 1 (of_main 1 4) z ∷ File 1 a Nothing x ∷ Repaired 1 1 ∷ Run2 70 ∷ Open 1 (of_main 1 4) z ∷ File 1 a found x ∷ Repaired 1 1 ∷ []

pub twice_row : row_of (instances 0 (twice y)) (of_main 1 4) ≡ tells (of_main 1 4) 2 2 0 0 70
twice_row = refl

-- another content than the first repair left, the same, and one that wasn't digested
pub changed_between : gaps_of (twice y) ≡ gap 70 x y ∷ []
changed_between = refl

pub left_alone : gaps_of (twice x) ≡ []
left_alone = refl

pub too_long_between : gaps_of (twice Over) ≡ []
too_long_between = refl

pub removed_between : gaps_of (twice Nothing) ≡ gap 70 x Nothing ∷ []
removed_between = refl

-- the first write failed, was left open in the middle, or came to its end: what it found may stand there in the first two
abbrev behind : Record → List Record
behind ended = Run2 5 ∷ Open 1 (of_main 1 4) z ∷ File 1 a y x ∷ ended ∷ Run2 70 ∷ Open 1 (of_main 1 4) z ∷ File 1 a y x ∷ []

pub behind_failed : gaps_of (behind (Failed 1 3)) ≡ []
behind_failed = refl

pub behind_open : gaps_of (behind (Run2 6)) ≡ []
behind_open = refl

pub behind_done : gaps_of (behind (Repaired 1 1)) ≡ gap 70 x y ∷ []
behind_done = refl

-- two writes to one path in one instance, and one to another path between
pub two_writes : gaps_of (Run2 5 ∷ Open 1 (of_main 1 4) z ∷ File 1 a Nothing x ∷ File 1 (codes "/b") Nothing y ∷ File 1 a x y ∷ Repaired 1 3 ∷ []) ≡ []
two_writes = refl

-- a promise that failed alone, in a run of version 1
pub failed_alone : row_of (instances 0 (Run 5 ∷ Fail 1 (of_main 1 4) z 5 ∷ [])) (of_main 1 4) ≡ tells (of_main 1 4) 0 0 1 0 5
failed_alone = refl
