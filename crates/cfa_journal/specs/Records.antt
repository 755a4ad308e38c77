-- A record of a journal is a line: `run` begins a run and tells its version where that is 2, `open` stands before the first
-- change of an instance, `file` before each file that it writes, with the digest of what stood there and of what is to
-- stand there, `done` behind its last change, and `fail` tells an instance that failed without a change. Instances are
-- numbered in their run.
use Rattle.std.specs.Prelude.{ℕ, ◌^◌, ◌<◌, ◌≤◌, IsTrue, List, ◌∷◌, ◌++◌, codes, length, ⊤}
use Rattle.std.specs.Fmt.{decimal}
use Rattle.std.specs.Str.{IsUtf8}
use Rattle.cfa_base.specs.Escapes.{escaped}
use Rattle.cfa_base.specs.Keys.{is_key}
use Rattle.cfa_base.specs.Lexing.{is_word}
use Rattle.cfa_base.specs.declared.places.PromiseId.{PromiseId}
use Rattle.cfa_base.specs.declared.limits.TheConstants.{LAST_MOMENT}
use Rattle.cfa_rows.specs.Rows.{◌then◌}
use Rattle.cfa_journal.specs.declared.records.Digest.{Digest}
use Rattle.cfa_journal.specs.declared.records.Digest.TheVariants.{Nothing, Over, Sha}
use Rattle.cfa_journal.specs.declared.records.Record.{Record}
use Rattle.cfa_journal.specs.declared.records.Record.TheVariants.{Run, Run2, Open, File, Repaired, Failed, Fail}

-- Ranges.

-- a number of instances, changes, promises or lines: from 1, in 32 bits
abbrev pub IsCount : ℕ → Type 0
IsCount n = (1 ≤ n) × (n < 2 ^ 32)

abbrev pub IsMoment : ℕ → Type 0
IsMoment moment = moment ≤ LAST_MOMENT

-- a reason is numbered from 1 to 13
abbrev pub IsReason : ℕ → Type 0
IsReason reason = (1 ≤ reason) × (reason ≤ 13)

abbrev pub IsId : PromiseId → Type 0
IsId id = IsTrue (is_word id.bundle) × (IsCount id.number × IsCount id.line)

-- the path of a file is a text that isn't empty
abbrev pub IsFilled : List ℕ → Type 0
IsFilled text = IsUtf8 text × (0 < length text)

abbrev pub IsDigest : Digest → Type 0
IsDigest Nothing = ⊤
IsDigest Over = ⊤
IsDigest (Sha key) = IsTrue (is_key key)

-- every number is in its range, the bundle of an id is a word, and a path isn't empty
abbrev pub IsRecord : Record → Type 0
IsRecord (Run moment) = IsMoment moment
IsRecord (Run2 moment) = IsMoment moment
IsRecord (Open n id key) = IsCount n × (IsId id × IsTrue (is_key key))
IsRecord (File n path before after) = IsCount n × (IsFilled path × (IsDigest before × IsDigest after))
IsRecord (Repaired n changes) = IsCount n × IsCount changes
IsRecord (Failed n reason) = IsCount n × IsReason reason
IsRecord (Fail n id key reason) = IsCount n × (IsId id × (IsTrue (is_key key) × IsReason reason))

-- Texts.

-- `BUNDLE:NUMBER@LINE`
abbrev pub id_text : PromiseId → List ℕ
id_text id = id.bundle ++ 58 ∷ (decimal id.number ++ 64 ∷ decimal id.line)

-- `F1` to `F13`
abbrev pub reason_text : ℕ → List ℕ
reason_text reason = 70 ∷ decimal reason

-- `-` for no file, `*` for one with too many bytes, else the digits of the digest
abbrev pub digest_text : Digest → List ℕ
digest_text Nothing = codes "-"
digest_text Over = codes "*"
digest_text (Sha key) = key

-- the word that a record begins with
abbrev pub word_of : Record → List ℕ
word_of (Run moment) = codes "run"
word_of (Run2 moment) = codes "run"
word_of (Open n id key) = codes "open"
word_of (File n path before after) = codes "file"
word_of (Repaired n changes) = codes "done"
word_of (Failed n reason) = codes "done"
word_of (Fail n id key reason) = codes "fail"

-- its fields behind the word
abbrev pub fields_of : Record → List ℕ
fields_of (Run moment) = decimal moment
fields_of (Run2 moment) = decimal moment then codes "2"
fields_of (Open n id key) = decimal n then id_text id then key
fields_of (File n path before after) = decimal n then escaped path then digest_text before then digest_text after
fields_of (Repaired n changes) = decimal n then codes "repaired" then decimal changes
fields_of (Failed n reason) = decimal n then codes "failed" then reason_text reason
fields_of (Fail n id key reason) = decimal n then id_text id then key then reason_text reason

-- the line of a record, without its newline
unfoldable pub record_text : Record → List ℕ
record_text record' = word_of record' then fields_of record'
