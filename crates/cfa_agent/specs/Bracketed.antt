-- Told by the journal: how the changes of a log stand to the records in it, from a first world on.
--
-- The bytes that are appended are whole records, each in its place, and all of one run of version 2. Each change of a node
-- or a service stands behind an `open` and before its `done`, or behind the last `open`, if that has none. A file that is
-- put stands directly behind its `file` record, of which AFTER is the digest of what is put and BEFORE that of what stands
-- there. `done` tells as many changes as stand between it and its `open`. A lock is set while no instance is open.
--
-- A log is gone through entry by entry, so each first part of a bracketed log is one.
use Rattle.std.specs.Prelude.{ℕ, suc, ◌≡◌, Bool, true, false, not, IsTrue, List, [], ◌∷◌, ◌++◌, Option, Some, None, ⊤}
use Rattle.std.specs.FinMap as finite
use Rattle.cfa_outside.specs.declared.worlds.World.{World}
use Rattle.cfa_outside.specs.declared.sites.Change.{Change}
use Rattle.cfa_outside.specs.declared.sites.Change.TheVariants.{Append, PutFile, PutLock}
use Rattle.cfa_outside.specs.declared.sites.Entry.{Entry}
use Rattle.cfa_outside.specs.declared.sites.Entry.TheVariants.{Did, Refused}
use Rattle.cfa_outside.specs.Sites.{after_change}
use Rattle.cfa_journal.specs.declared.positions.Position.{Position}
use Rattle.cfa_journal.specs.declared.positions.Position.TheVariants.{Start, Between, Within}
use Rattle.cfa_journal.specs.declared.records.Digest.TheVariants.{Sha}
use Rattle.cfa_journal.specs.declared.records.Record.{Record}
use Rattle.cfa_journal.specs.declared.records.Record.TheVariants.{Run, Run2, Open, File, Repaired, Failed, Fail}
use Rattle.cfa_journal.specs.Positions.{MayStand, behind}
use Rattle.cfa_journal.specs.Records.{record_text}
use Rattle.cfa_locks.specs.Locks.{digest_of}
use Rattle.cfa_agent.specs.Actuations.{content_digest}

-- ---- a point of a log

-- what an entry finds before it: the position in the journal, the record directly before, if one stands there, how many
-- changes the instance that is open has made, and the world
pub record Point : Type 0 where
  pub position : Position
  pub written : Option Record
  pub changes : ℕ
  pub world : World

-- where a run begins
abbrev pub first_point : World → Point
first_point world = record { position = Start; written = None; changes = 0; world = world }

-- the bytes of a record
abbrev pub line_of : Record → List ℕ
line_of written = record_text written ++ 10 ∷ []

-- a `file` record leaves the count, and each other one begins or ends an instance
abbrev pub changes_behind : (changes : ℕ) → Record → ℕ
changes_behind changes (File n path before after) = changes
changes_behind changes written = 0

abbrev pub behind_record : Point → Record → Point
behind_record here written = record {
  position = behind here.position written;
  written = Some written;
  changes = changes_behind here.changes written;
  world = after_change (Append (line_of written)) here.world;
}

abbrev pub behind_change : Point → Change → Point
behind_change here change = record {
  position = here.position;
  written = None;
  changes = suc here.changes;
  world = after_change change here.world;
}

abbrev pub behind_lock : Point → (key : List ℕ) → (moment : ℕ) → Point
behind_lock here key moment = record {
  position = here.position;
  written = None;
  changes = here.changes;
  world = after_change (PutLock key moment) here.world;
}

abbrev pub behind_refusal : Point → Point
behind_refusal here = record here { written = None }

-- ---- what may stand there

-- an instance is open
abbrev pub is_open : Position → Bool
is_open Start = false
is_open (Between version) = false
is_open (Within version n) = true

-- what a record tells is so: only the first one is a `run`, BEFORE is the digest of what stands at the path, and the changes
-- of a `done` are those that were made
abbrev pub TellsSo : Point → Record → Type 0
TellsSo here (Run moment) = ⊥
TellsSo here (Run2 moment) = here.position ≡ Start
TellsSo here (Open n id key) = ⊤
TellsSo here (File n path before after) = before ≡ content_digest (finite.get here.world.nodes path)
TellsSo here (Repaired n changes) = changes ≡ here.changes
TellsSo here (Failed n reason) = ⊤
TellsSo here (Fail n id key reason) = ⊤

abbrev pub MayBeWritten : Point → Record → Type 0
MayBeWritten here written = MayStand here.position written × TellsSo here written

-- the record tells of this file, and its AFTER is the digest of these bytes
abbrev pub IsOfFile : (path bytes : List ℕ) → Option Record → Type 0
IsOfFile path bytes (Some (File n path' before after)) = (path' ≡ path) × (after ≡ Sha (digest_of bytes))
IsOfFile path bytes _ = ⊥

-- a file is put directly behind its record
abbrev pub IsFiled : Change → Option Record → Type 0
IsFiled (PutFile path bytes) written = IsOfFile path bytes written
IsFiled change written = ⊤

abbrev pub MayBeMade : Point → Change → Type 0
MayBeMade here change = IsTrue (is_open here.position) × IsFiled change here.written

-- ---- logs

-- a log goes on like this from a point
abbrev pub IsBracketedFrom : Point → List Entry → Type 0
IsBracketedFrom here [] = ⊤
IsBracketedFrom here (Did (Append bytes) ∷ log) =
    (written : Record) × (bytes ≡ line_of written) × MayBeWritten here written × IsBracketedFrom (behind_record here written) log
IsBracketedFrom here (Did (PutLock key moment) ∷ log) =
    IsTrue (not (is_open here.position)) × IsBracketedFrom (behind_lock here key moment) log
IsBracketedFrom here (Did change ∷ log) = MayBeMade here change × IsBracketedFrom (behind_change here change) log
IsBracketedFrom here (Refused call ∷ log) = IsBracketedFrom (behind_refusal here) log

abbrev pub IsBracketed : World → List Entry → Type 0
IsBracketed world log = IsBracketedFrom (first_point world) log

-- so is each first part of a log
abbrev pub AllBracketed : World → List Entry → Type 0
AllBracketed world log = (front rest : List Entry) → log ≡ front ++ rest → IsBracketed world front

-- a first part of a bracketed log is bracketed
abbrev pub FrontsAreBracketed : Type 0
FrontsAreBracketed = (world : World) (log : List Entry) → IsBracketed world log → AllBracketed world log
