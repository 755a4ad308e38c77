-- What a history prints: a line for each promise that the journal tells of, one for each gap between two recorded writes to a
-- file, one for the number of runs, and then one for a torn tail. A journal is read, and refused, as for an audit.
use Rattle.std.specs.Prelude.{ℕ, ◌≡◌, ◌≤◌, List, ◌++◌, codes, count_by, flat_map, length, Some}
use Rattle.cfa_base.specs.Escapes.{escaped}
use Rattle.cfa_journal.specs.declared.journals.TheConstants.{MOST_JOURNAL_BYTES}
use Rattle.cfa_journal.specs.declared.records.Record.{Record}
use Rattle.cfa_journal.specs.Journals.{IsJournal}
use Rattle.cfa_history.specs.declared.gaps.Gap.{Gap}
use Rattle.cfa_history.specs.declared.rows.Row.{Row}
use Rattle.cfa_history.specs.Gaps.{gaps_of}
use Rattle.cfa_history.specs.Histories.{is_run}
use Rattle.cfa_history.specs.Instances.{instances}
use Rattle.cfa_history.specs.Rows.{IsTold}
use Rattle.cfa_output.specs.Lines.{history_line, unrecorded_line, number_line}
use Rattle.cfa_sources.specs.Sources.{Texts}
use Rattle.cfa_main.specs.Audits.{bytes_of, torn_line}

-- ---- the lines

abbrev pub row_line : Row → List ℕ
row_line row = history_line row.id row.repaired row.changes row.failed row.left_open row.last

abbrev pub gap_line : Gap → List ℕ
gap_line gap = unrecorded_line (escaped gap.path) gap.moment

abbrev pub runs_line : (runs : ℕ) → List ℕ
runs_line runs = number_line (codes "runs") runs

abbrev pub history_text : List Row → List Gap → (runs torn : ℕ) → List ℕ
history_text rows gaps runs torn = flat_map row_line rows ++ (flat_map gap_line gaps ++ (runs_line runs ++ torn_line torn))

-- the text of the history of records, and of a torn tail behind them: its rows are those that the records tell
pub record IsHistoryText (records : List Record) (torn : ℕ) (text : List ℕ) : Type 0 where
  pub rows : List Row
  pub told : IsTold (instances 0 records) rows
  pub text_is : text ≡ history_text rows (gaps_of records) (count_by is_run records) torn

-- ---- the journal

-- the bytes of this name are a journal, and this is the text of its history
pub record RecountsAs (texts : Texts) (name text : List ℕ) : Type 0 where
  pub bytes : List ℕ
  pub found : bytes_of texts name ≡ Some bytes
  pub short : length bytes ≤ MOST_JOURNAL_BYTES
  pub records : List Record
  pub torn : ℕ
  pub is_journal : IsJournal bytes records torn
  pub is_text : IsHistoryText records torn text
