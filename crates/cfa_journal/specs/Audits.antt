-- What a journal tells of its runs. A run is a `run` with the records behind it up to the next one. Of these, each `done`
-- tells a promise that was repaired or that failed, each `fail` one that failed, and each `open` without its `done` a repair
-- that was begun and whose end isn't known. What `file` records tell isn't counted.
use Rattle.std.specs.Prelude.{ℕ, ◌+◌, Bool, true, false, ◌==◌, if◌then◌else◌, List, [], ◌∷◌, count_by, Option, Some, None}
use Rattle.cfa_journal.specs.declared.records.Record.{Record}
use Rattle.cfa_journal.specs.declared.records.Record.TheVariants.{Run, Run2, Open, File, Repaired, Failed, Fail}
use Rattle.cfa_journal.specs.declared.audits.AuditedRun.{AuditedRun}

-- the records up to the next `run`
abbrev pub up_to_run : List Record → List Record
up_to_run [] = []
up_to_run (Run moment ∷ rest) = []
up_to_run (Run2 moment ∷ rest) = []
up_to_run (record' ∷ rest) = record' ∷ up_to_run rest

abbrev pub is_repaired : Record → Bool
is_repaired (Repaired n changes) = true
is_repaired _ = false

abbrev pub is_failed : Record → Bool
is_failed (Failed n reason) = true
is_failed (Fail n id key reason) = true
is_failed _ = false

-- the record is the `done` of this number
abbrev pub is_done : ℕ → Option Record → Bool
is_done n (Some (Repaired n' changes)) = n == n'
is_done n (Some (Failed n' reason)) = n == n'
is_done n _ = false

-- the first record that is no `file`
abbrev pub past_files : List Record → Option Record
past_files [] = None
past_files (File n path before after ∷ rest) = past_files rest
past_files (record' ∷ rest) = Some record'

-- how many of the records are an `open` with no `done` of its number behind it and its `file` records
abbrev pub left_open : List Record → ℕ
left_open [] = 0
left_open (Open n id key ∷ rest) = (if is_done n (past_files rest) then 0 else 1) + left_open rest
left_open (_ ∷ rest) = left_open rest

-- the run of a moment, by the records behind its `run`
abbrev pub audited : (moment : ℕ) → List Record → AuditedRun
audited moment records = record {
  moment = moment;
  repaired = count_by is_repaired records;
  failed = count_by is_failed records;
  opened = left_open records;
}

-- the runs of a journal, in order
abbrev pub runs_of : List Record → List AuditedRun
runs_of [] = []
runs_of (Run moment ∷ rest) = audited moment (up_to_run rest) ∷ runs_of rest
runs_of (Run2 moment ∷ rest) = audited moment (up_to_run rest) ∷ runs_of rest
runs_of (_ ∷ rest) = runs_of rest

-- Of the code alone: one record more of a run is counted, by the first behind it that is no `file`.
abbrev pub counted : AuditedRun → Record → (next : Option Record) → AuditedRun
counted run (Run moment) next = run
counted run (Run2 moment) next = run
counted run (Open n id key) next = if is_done n next then run else record run { opened = run.opened + 1 }
counted run (File n path before after) next = run
counted run (Repaired n changes) next = record run { repaired = run.repaired + 1 }
counted run (Failed n reason) next = record run { failed = run.failed + 1 }
counted run (Fail n id key reason) next = record run { failed = run.failed + 1 }
