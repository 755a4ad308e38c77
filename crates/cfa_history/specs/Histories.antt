-- A history is complete where its rows count each record that tells how an instance ended, and none twice: together they
-- have as many repairs as the journal has `done repaired`, as many failures as it has `done failed` and `fail`, and as
-- many that were left open as it has `open` without a `done`.
use Rattle.std.specs.Prelude.{◌≡◌, Bool, true, false, List, count_by, sum_by}
use Rattle.cfa_journal.specs.declared.records.Record.{Record}
use Rattle.cfa_journal.specs.declared.records.Record.TheVariants.{Run, Run2}
use Rattle.cfa_journal.specs.Audits.{is_repaired, is_failed, left_open}
use Rattle.cfa_history.specs.declared.rows.Row.{Row}

abbrev pub is_run : Record → Bool
is_run (Run moment) = true
is_run (Run2 moment) = true
is_run _ = false

pub record IsComplete (records : List Record) (rows : List Row) : Type 0 where
  pub repaired : sum_by (λ row. row.repaired) rows ≡ count_by is_repaired records
  pub failed : sum_by (λ row. row.failed) rows ≡ count_by is_failed records
  pub opened : sum_by (λ row. row.left_open) rows ≡ left_open records
