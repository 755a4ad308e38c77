-- A journal has no more records than bytes. So one that is short enough to be read has few enough for its history. And what
-- instances tell are some rows alone.
use Rattle.std.specs.Prelude.{◌≡◌, ℕ, ◌≤◌, List, length}
use Rattle.cfa_journal.specs.declared.records.Record.{Record}
use Rattle.cfa_journal.specs.Journals.{IsJournal}
use Rattle.cfa_history.specs.declared.rows.Row.{Row}
use Rattle.cfa_history.specs.Instances.{Instance}
use Rattle.cfa_history.specs.Rows.{IsTold}

abbrev pub NoMoreRecords : Type 0
NoMoreRecords = (bytes : List ℕ) (records : List Record) (torn : ℕ) → IsJournal bytes records torn → length records ≤ length bytes

abbrev pub RowsAreOne : Type 0
RowsAreOne = (told : List Instance) (rows other : List Row) → IsTold told rows → IsTold told other → rows ≡ other
