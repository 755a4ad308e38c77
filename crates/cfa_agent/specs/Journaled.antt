-- The log of a run is bracketed, and so is each first part of it: whatever locks and marks it has, where what its
-- instances did can be told. For that the moment, the numbers of instances and of changes and the ids of promises have
-- to be in the ranges of records, and each file that is put has to have a name.
use Rattle.std.specs.Prelude.{ℕ, suc, ◌≡◌, ◌+◌, ◌<◌, ◌≤◌, ◌^◌, ◌⊎◌, Bool, true, false, IsTrue, All, List, [], ◌∷◌, ◌++◌, length, count_by, Option, Some, None, IfSome, ⊤}
use Rattle.std.specs.FinMap as finite
use Rattle.cfa_outside.specs.declared.sites.Change.{Change}
use Rattle.cfa_outside.specs.declared.sites.Change.TheVariants.{Append, PutFile, PutDir, Remove}
use Rattle.cfa_outside.specs.declared.sites.Entry.{Entry}
use Rattle.cfa_outside.specs.declared.sites.Entry.TheVariants.{Did, Refused}
use Rattle.cfa_outside.specs.declared.worlds.Node.{Node}
use Rattle.cfa_outside.specs.declared.worlds.Node.TheVariants.{File, Dir}
use Rattle.cfa_outside.specs.declared.worlds.World.{World}
use Rattle.cfa_outside.specs.Sites.{after}
use Rattle.cfa_acts.specs.declared.acts.Act.{Act}
use Rattle.cfa_acts.specs.declared.acts.Act.TheVariants as act
use Rattle.cfa_journal.specs.declared.records.Digest.{Digest}
use Rattle.cfa_journal.specs.declared.records.Digest.TheVariants.{Nothing, Over, Sha}
use Rattle.cfa_journal.specs.declared.records.Record.{Record}
use Rattle.cfa_journal.specs.declared.records.Record.TheVariants as records
use Rattle.cfa_journal.specs.Audits.{left_open, runs_of}
use Rattle.cfa_journal.specs.Journals.{journal_text, InPlace}
use Rattle.cfa_journal.specs.Records.{IsCount, IsMoment, IsId, IsFilled}
use Rattle.cfa_locks.specs.Locks.{digest_of}
use Rattle.cfa_rows.specs.Rows.{last_of}
use Rattle.cfa_resolve.specs.declared.instances.Instance.{Instance}
use Rattle.cfa_resolve.specs.declared.instances.Work.{Work}
use Rattle.cfa_resolve.specs.declared.instances.Work.TheVariants.{Acts, Call, Report}
use Rattle.cfa_states.specs.History.{History, Begun, Set, Raised, Reached, Listed, Told}
use Rattle.cfa_states.specs.Views.{Setting}
use Rattle.cfa_agent.specs.Actuations.{Done}
use Rattle.cfa_agent.specs.Bracketed.{IsBracketed, AllBracketed}
use Rattle.cfa_agent.specs.Runs.{Start, actuations_in, done_in, log_in, log_of, run_of, history_of}

-- a file that is put has a name
abbrev pub IsNamed : Change → Type 0
IsNamed (PutFile path bytes) = IsFilled path
IsNamed change = ⊤

-- so has the file that an act puts
abbrev pub HasName : Act → Type 0
HasName (act.Create path) = IsFilled path
HasName (act.Content path bytes) = IsFilled path
HasName (act.Copy source path) = IsFilled path
HasName (act.Edit path script) = IsFilled path
HasName _ = ⊤

-- what the instance of a number did can be told
pub record CanBeTold (number : ℕ) (instance : Instance) (done : Done) : Type 0 where
  pub number_fits : IsCount number
  pub source_fits : IsId instance.source
  pub changes_fit : length done.changes < 2 ^ 32
  pub named : All IsNamed done.changes
  pub begun_named : IfSome done.begun IsNamed

-- only instances with acts have records
abbrev pub CanBeToldBy : Work → (number : ℕ) → Instance → Done → Type 0
CanBeToldBy (Acts acts) number instance done = CanBeTold number instance done
CanBeToldBy (Call name arguments) number instance done = ⊤
CanBeToldBy (Report content) number instance done = ⊤

-- of each instance that was actuated
abbrev pub AllCanBeTold : Start → History → Type 0
AllCanBeTold s [] = ⊤
AllCanBeTold s (Told instance [] ∷ h) = AllCanBeTold s h
AllCanBeTold s (Told instance (outcome ∷ others) ∷ h) =
    CanBeToldBy instance.work (suc (actuations_in h)) instance (done_in s h instance) × AllCanBeTold s h
AllCanBeTold s (Begun p arguments ∷ h) = AllCanBeTold s h
AllCanBeTold s (Set p name datum ∷ h) = AllCanBeTold s h
AllCanBeTold s (Raised place class status source ∷ h) = AllCanBeTold s h
AllCanBeTold s (Reached home promise guard sets visits ∷ h) = AllCanBeTold s h
AllCanBeTold s (Listed instance status ∷ h) = AllCanBeTold s h

abbrev pub LogsAreBracketed : Type 0
LogsAreBracketed =
    (s : Start) (h : History) → IsMoment s.moment → AllCanBeTold s h → AllBracketed s.world (log_in s h)

-- so the log of a run is
abbrev pub RunsAreBracketed : Type 0
RunsAreBracketed =
    (setting : Setting) (s : Start) → IsMoment s.moment → AllCanBeTold s (history_of (run_of setting s)) →
    AllBracketed s.world (log_of setting s)

-- ---- what the journal of a bracketed log tells

-- the bytes that a log appends, in order
abbrev pub appended_in : List Entry → List ℕ
appended_in [] = []
appended_in (Did (Append bytes) ∷ log) = bytes ++ appended_in log
appended_in (Did change ∷ log) = appended_in log
appended_in (Refused call ∷ log) = appended_in log

-- what stands at a path has this digest, which is `-` where that is no file
abbrev pub HasDigest : Option Node → Digest → Type 0
HasDigest (Some (File bytes perms)) (Sha key) = key ≡ digest_of bytes
HasDigest (Some (Dir perms)) Nothing = ⊤
HasDigest None Nothing = ⊤
HasDigest _ _ = ⊥

-- a `file` record of which BEFORE isn't `*` tells what stands at its path: BEFORE or AFTER is its digest
abbrev pub LastTells : (last : Option Record) → World → Type 0
LastTells (Some (records.File n path Over after)) world = ⊤
LastTells (Some (records.File n path before after)) world =
    HasDigest (finite.get world.nodes path) before ⊎ HasDigest (finite.get world.nodes path) after
LastTells _ world = ⊤

-- nothing is removed behind the last record and no directory is made, unless this was so before the log
abbrev pub spared_by : (spared : Bool) → Change → Bool
spared_by spared (Append bytes) = true
spared_by spared (PutDir path) = false
spared_by spared (Remove path) = false
spared_by spared change = spared

abbrev pub is_spared : (spared : Bool) → List Entry → Bool
is_spared spared [] = spared
is_spared spared (Did change ∷ log) = is_spared (spared_by spared change) log
is_spared spared (Refused call ∷ log) = is_spared spared log

abbrev pub begins_instance : Record → Bool
begins_instance (records.Open n id key) = true
begins_instance _ = false

abbrev pub ends_instance : Record → Bool
ends_instance (records.Repaired n changes) = true
ends_instance (records.Failed n reason) = true
ends_instance _ = false

-- the bytes are records in their places, of one run at most; each `open` has its `done`, but for one at most; the last of
-- them, where it is a `file`, tells what stands there
pub record TellsRun (world : World) (log : List Entry) : Type 0 where
  pub told : List Record
  pub whole : journal_text told ≡ appended_in log
  pub in_place : InPlace told
  pub one_run : length (runs_of told) ≤ 1
  pub one_open : left_open told ≤ 1
  pub others_done : count_by begins_instance told ≡ count_by ends_instance told + left_open told
  pub last_file : IsTrue (is_spared true log) → LastTells (last_of told) (after log world)

abbrev pub BracketedLogsTell : Type 0
BracketedLogsTell = (world : World) (log : List Entry) → IsBracketed world log → TellsRun world log
