-- What an audit of a journal prints: a line for each run, by what its records tell, and then one for a torn tail. A journal
-- that is too long, or has a line that is no record in its place, is refused.
use Rattle.std.specs.Prelude.{ℕ, ◌+◌, ◌≡◌, ◌<◌, ◌≤◌, ◌==◌, if◌then◌else◌, List, [], ◌++◌, codes, flat_map, length, take, Option, Some, option_map}
use Rattle.cfa_outside.specs.Inputs.{text_of}
use Rattle.cfa_journal.specs.declared.journals.TheConstants.{MOST_JOURNAL_BYTES}
use Rattle.cfa_journal.specs.declared.records.Record.{Record}
use Rattle.cfa_journal.specs.declared.audits.AuditedRun.{AuditedRun}
use Rattle.cfa_journal.specs.Journals.{IsJournal, HasBadRecord}
use Rattle.cfa_journal.specs.Audits.{runs_of}
use Rattle.cfa_output.specs.Lines.{audit_line, number_line, journal_bad_line, journal_long_line}
use Rattle.cfa_sources.specs.Sources.{Texts}

-- ---- the lines

abbrev pub run_line : AuditedRun → List ℕ
run_line run = audit_line run.moment run.repaired run.failed run.opened

-- a journal that ends with a newline isn't torn
abbrev pub torn_line : (torn : ℕ) → List ℕ
torn_line torn = if torn == 0 then [] else number_line (codes "torn") torn

abbrev pub audit_text : List AuditedRun → (torn : ℕ) → List ℕ
audit_text runs torn = flat_map run_line runs ++ torn_line torn

-- ---- the journal

-- what is read of a journal: the bytes of its name, up to one more than a journal may have
unfoldable pub bytes_of : Texts → (name : List ℕ) → Option (List ℕ)
bytes_of texts name = option_map (take (MOST_JOURNAL_BYTES + 1)) (text_of texts name)

-- the bytes of this name are a journal, and this is the text of its audit
pub record AuditsAs (texts : Texts) (name text : List ℕ) : Type 0 where
  pub bytes : List ℕ
  pub found : bytes_of texts name ≡ Some bytes
  pub short : length bytes ≤ MOST_JOURNAL_BYTES
  pub records : List Record
  pub torn : ℕ
  pub is_journal : IsJournal bytes records torn
  pub text_is : text ≡ audit_text (runs_of records) torn

-- the bytes of this name are refused with the line: for their length first, then for the first line that is no record in
-- its place
pub data RefusesJournal (texts : Texts) (name : List ℕ) : (line : List ℕ) → Type 0 where
  too_long : {bytes : List ℕ} → bytes_of texts name ≡ Some bytes → MOST_JOURNAL_BYTES < length bytes →
      RefusesJournal texts name (journal_long_line name)
  bad_record : {bytes : List ℕ} {line : ℕ} → bytes_of texts name ≡ Some bytes →
      length bytes ≤ MOST_JOURNAL_BYTES → HasBadRecord bytes line →
      RefusesJournal texts name (journal_bad_line name line)
