-- What the actuation of an instance with acts adds to the log of a site. Its changes are those that its acts need one after the
-- other, up to the first act that fails. `open` stands before the first change and `done` behind the last one; a failure without
-- a change begun is one `fail` record, and an instance that is kept writes nothing. `run` stands before the first record of a
-- run. Directly before each file that is put stands its `file` record, with the digest of what stood there and of what is put.
--
-- A mark says of the instance with a number that after so many changes a call of some kind failed in an act, or in the look or
-- read for its digest. The instance then fails with a fault at this place; where the call is a change, the next needed change was
-- begun.
use Rattle.std.specs.Prelude.{ℕ, ◌==◌, Bool, true, false, ◌||◌, nat_le, if◌then◌else◌, List, [], ◌∷◌, ◌++◌, length, take, drop, find, Option, Some, None}
use Rattle.std.specs.FinMap as finite
use Rattle.cfa_base.specs.declared.limits.TheConstants.{MOST_FILE_BYTES}
use Rattle.cfa_outside.specs.declared.worlds.Node.{Node}
use Rattle.cfa_outside.specs.declared.worlds.Node.TheVariants.{File, Dir}
use Rattle.cfa_outside.specs.declared.worlds.World.{World}
use Rattle.cfa_outside.specs.declared.sites.Call.{Call}
use Rattle.cfa_outside.specs.declared.sites.Call.TheVariants as calls
use Rattle.cfa_outside.specs.declared.sites.Change.{Change}
use Rattle.cfa_outside.specs.declared.sites.Change.TheVariants.{Append, PutFile}
use Rattle.cfa_outside.specs.declared.sites.Entry.{Entry}
use Rattle.cfa_outside.specs.declared.sites.Entry.TheVariants.{Did, Refused}
use Rattle.cfa_outside.specs.Sites.{after_change}
use Rattle.cfa_acts.specs.declared.acts.Reason.{Reason}
use Rattle.cfa_acts.specs.declared.acts.Reason.TheVariants as reasons
use Rattle.cfa_journal.specs.declared.records.Digest.{Digest}
use Rattle.cfa_journal.specs.declared.records.Digest.TheVariants.{Nothing, Over, Sha}
use Rattle.cfa_journal.specs.declared.records.Record.{Record}
use Rattle.cfa_journal.specs.declared.records.Record.TheVariants as records
use Rattle.cfa_journal.specs.Records.{record_text}
use Rattle.cfa_locks.specs.Locks.{digest_of, key_of}
use Rattle.cfa_resolve.specs.declared.instances.Instance.{Instance}
use Rattle.cfa_outcomes.specs.declared.outcomes.Outcome.{Outcome}
use Rattle.cfa_states.specs.Tellers.{Actuated, actuated, after_all, acts_of, outcome_by}

-- ---- marks

pub record Mark : Type 0 where
  pub instance : ℕ
  pub changes : ℕ
  pub call : Call

abbrev pub mark_of : List Mark → (number : ℕ) → Option Mark
mark_of marks number = find (λ m. m.instance == number) marks

-- ---- what was done

-- the changes that were made, the one that was begun and refused behind them, the call that was refused, why the instance failed,
-- and whether a change was begun
pub record Done : Type 0 where
  pub changes : List Change
  pub begun : Option Change
  pub refused : Option Call
  pub failure : Option Reason
  pub is_begun : Bool

abbrev pub is_change : Call → Bool
is_change calls.Look = false
is_change calls.Read = false
is_change calls.Perms = false
is_change calls.Service = false
is_change calls.Lock = false
is_change calls.Children = false
is_change calls.Change = true

abbrev pub is_some_change : List Change → Bool
is_some_change [] = false
is_some_change (change ∷ changes) = true

abbrev pub first_of : List Change → Option Change
first_of [] = None
first_of (change ∷ changes) = Some change

-- the next of the needed changes, where that was refused
abbrev pub begun_by : Call → (left : List Change) → Option Change
begun_by call left = if is_change call then first_of left else None

abbrev pub done_by : Actuated → Option Mark → Done
done_by planned None = record {
  changes = planned.changes;
  begun = None;
  refused = None;
  failure = planned.failure;
  is_begun = is_some_change planned.changes;
}
done_by planned (Some mark) = record {
  changes = take mark.changes planned.changes;
  begun = begun_by mark.call (drop mark.changes planned.changes);
  refused = Some mark.call;
  failure = Some reasons.Fault;
  is_begun = is_some_change (take mark.changes planned.changes) || is_change mark.call;
}

-- what an instance of this number does on a world
unfoldable pub done_on : List Mark → (number : ℕ) → Instance → World → Done
done_on marks number instance world = done_by (actuated (acts_of instance.work) world) (mark_of marks number)

abbrev pub outcome_done : Done → Outcome
outcome_done done = outcome_by done.changes done.failure

-- ---- records

abbrev pub number_of : Reason → ℕ
number_of reasons.BadPath = 1
number_of reasons.Missing = 2
number_of reasons.Obstructed = 3
number_of reasons.NotText = 4
number_of reasons.NonConvergent = 5
number_of reasons.NoAnchor = 6
number_of reasons.FieldCount = 7
number_of reasons.UnknownService = 8
number_of reasons.BadPattern = 9
number_of reasons.BadValue = 10
number_of reasons.Fault = 11
number_of reasons.TooLong = 12
number_of reasons.TooMany = 13

-- the change that appends the line of a record
abbrev pub appended : Record → Entry
appended written = Did (Append (record_text written ++ 10 ∷ []))

-- `-` where no file stands, `*` where one of too many bytes does, else its digest
abbrev pub content_digest : Option Node → Digest
content_digest None = Nothing
content_digest (Some (Dir perms)) = Nothing
content_digest (Some (File bytes perms)) = if nat_le (length bytes) MOST_FILE_BYTES then Sha (digest_of bytes) else Over

-- the `file` record of a change that puts a file on a world, in an instance of this number; other changes have none
abbrev pub file_record : (number : ℕ) → Change → World → List Entry
file_record number (PutFile path bytes) world =
    appended (records.File number path (content_digest (finite.get world.nodes path)) (Sha (digest_of bytes))) ∷ []
file_record number _ world = []

-- changes that are made from a world on, each file behind its record
abbrev pub changed : (number : ℕ) → World → List Change → List Entry
changed number world [] = []
changed number world (change ∷ changes) =
    file_record number change world ++ (Did change ∷ changed number (after_change change world) changes)

-- what stands before a change that was begun and refused
abbrev pub begun_record : (number : ℕ) → World → Option Change → List Entry
begun_record number world None = []
begun_record number world (Some change) = file_record number change world

abbrev pub refused_entry : Option Call → List Entry
refused_entry None = []
refused_entry (Some call) = Refused call ∷ []

-- `run`, unless the run has a record already
abbrev pub run_record : (moment : ℕ) → (has_record : Bool) → List Entry
run_record moment true = []
run_record moment false = appended (records.Run2 moment) ∷ []

abbrev pub closing_record : (number changes : ℕ) → Option Reason → Record
closing_record number changes None = records.Repaired number changes
closing_record number changes (Some reason) = records.Failed number (number_of reason)

abbrev pub without_change : (number : ℕ) → Instance → Done → List Entry → Option Reason → List Entry
without_change number instance done run_before None = []
without_change number instance done run_before (Some reason) =
    refused_entry done.refused ++ (run_before
    ++ appended (records.Fail number instance.source (key_of instance.text) (number_of reason)) ∷ [])

abbrev pub entries_by : (number : ℕ) → Instance → World → Done → List Entry → (is_begun : Bool) → List Entry
entries_by number instance world done run_before false = without_change number instance done run_before done.failure
entries_by number instance world done run_before true =
    run_before ++ appended (records.Open number instance.source (key_of instance.text))
    ∷ (changed number world done.changes
    ++ (begun_record number (after_all done.changes world) done.begun
    ++ (refused_entry done.refused ++ appended (closing_record number (length done.changes) done.failure) ∷ [])))

-- the entries of an instance that begins on a world, by whether the run has a record already
unfoldable pub entries_of : (moment number : ℕ) → Instance → World → Done → (has_record : Bool) → List Entry
entries_of moment number instance world done has_record =
    entries_by number instance world done (run_record moment has_record) done.is_begun
