-- A journal is a line for each record, each in its place, and then a last piece without a newline, if it was torn.
use Rattle.std.specs.Prelude.{◌≡◌, ℕ, ◌+◌, List, ◌∷◌, ◌++◌, length, None}
use Rattle.cfa_rows.specs.Rows.{written, Reads}
use Rattle.cfa_base.specs.Lacking.{Lacks}
use Rattle.cfa_journal.specs.declared.records.Record.{Record}
use Rattle.cfa_journal.specs.declared.positions.Position.TheVariants.{Start}
use Rattle.cfa_journal.specs.Records.{record_text}
use Rattle.cfa_journal.specs.Positions.{MayStand, InPlaceFrom, behind_all}

-- the text of some records
abbrev pub journal_text : List Record → List ℕ
journal_text records = written record_text records

-- each record stands in its place
abbrev pub InPlace : List Record → Type 0
InPlace records = InPlaceFrom Start records

-- the bytes are records in their places, and a torn tail of so many bytes
pub record IsJournal (bytes : List ℕ) (records : List Record) (torn : ℕ) : Type 0 where
  pub tail : List ℕ
  pub whole : journal_text records ++ tail ≡ bytes
  pub in_place : InPlace records
  pub no_newline : Lacks 10 tail
  pub counted : length tail ≡ torn

-- the first line that is no record in its place has this number, from 1
pub record HasBadRecord (bytes : List ℕ) (number : ℕ) : Type 0 where
  pub before : List Record
  pub line : List ℕ
  pub rest : List ℕ
  pub whole : journal_text before ++ (line ++ 10 ∷ rest) ≡ bytes
  pub in_place : InPlace before
  pub a_line : Lacks 10 line
  pub no_record : Reads record_text (MayStand (behind_all Start before)) line None
  pub counted : number ≡ length before + 1

-- bytes are records in one way, and where they are some no line of them is bad
abbrev pub OneJournal : Type 0
OneJournal = (bytes : List ℕ) (records other : List Record) (torn torn' : ℕ) → IsJournal bytes records torn → IsJournal bytes other torn' → (records ≡ other) × (torn ≡ torn')

abbrev pub NeverBoth : Type 0
NeverBoth = (bytes : List ℕ) (records : List Record) (torn line : ℕ) → IsJournal bytes records torn → ¬ HasBadRecord bytes line

-- one line alone is the first that is no record in its place
abbrev pub OneBadRecord : Type 0
OneBadRecord = (bytes : List ℕ) (line other : ℕ) → HasBadRecord bytes line → HasBadRecord bytes other → line ≡ other
