-- What a journal tells of the instances of its runs: each `open` and each `fail` is one. A `done` belongs to the `open` that
-- it stands behind, with nothing but `file` records between, and an `open` without one was left open. An instance is of
-- the run whose `run` is the last one before it.
use Rattle.std.specs.Prelude.{ℕ, Bool, true, false, List, [], ◌∷◌}
use Rattle.cfa_base.specs.declared.places.PromiseId.{PromiseId}
use Rattle.cfa_journal.specs.declared.records.Record.{Record}
use Rattle.cfa_journal.specs.declared.records.Record.TheVariants.{Run, Run2, Open, File, Repaired, Failed, Fail}
use Rattle.cfa_history.specs.declared.endings.Ending.{Ending}
use Rattle.cfa_history.specs.declared.endings.Ending.TheVariants as endings

pub record Instance : Type 0 where
  pub id : PromiseId
  pub moment : ℕ
  pub ending : Ending

-- how an instance ended, by the records behind its `open` or behind one of its `file` records
abbrev pub ending_of : List Record → Ending
ending_of [] = endings.LeftOpen
ending_of (File n path before after ∷ rest) = ending_of rest
ending_of (Repaired n changes ∷ rest) = endings.Repaired changes
ending_of (Failed n reason ∷ rest) = endings.Failed
ending_of (Run moment ∷ rest) = endings.LeftOpen
ending_of (Run2 moment ∷ rest) = endings.LeftOpen
ending_of (Open n id key ∷ rest) = endings.LeftOpen
ending_of (Fail n id key reason ∷ rest) = endings.LeftOpen

-- the instances that records tell of, in order, in a run of this moment up to the next `run`
abbrev pub instances : (moment : ℕ) → List Record → List Instance
instances moment [] = []
instances moment (Run next ∷ rest) = instances next rest
instances moment (Run2 next ∷ rest) = instances next rest
instances moment (Open n id key ∷ rest) = record { id = id; moment = moment; ending = ending_of rest } ∷ instances moment rest
instances moment (File n path before after ∷ rest) = instances moment rest
instances moment (Repaired n changes ∷ rest) = instances moment rest
instances moment (Failed n reason ∷ rest) = instances moment rest
instances moment (Fail n id key reason ∷ rest) = record { id = id; moment = moment; ending = endings.Failed } ∷ instances moment rest

-- ways to end

abbrev pub is_repaired : Ending → Bool
is_repaired (endings.Repaired changes) = true
is_repaired endings.Failed = false
is_repaired endings.LeftOpen = false

abbrev pub is_failed : Ending → Bool
is_failed (endings.Repaired changes) = false
is_failed endings.Failed = true
is_failed endings.LeftOpen = false

abbrev pub is_left_open : Ending → Bool
is_left_open (endings.Repaired changes) = false
is_left_open endings.Failed = false
is_left_open endings.LeftOpen = true

-- the changes of a repair that came to its end
abbrev pub changes_of : Ending → ℕ
changes_of (endings.Repaired changes) = changes
changes_of endings.Failed = 0
changes_of endings.LeftOpen = 0
