-- What is counted of the calls on a site: the entries that they add to its log, and the changes among these that are no
-- records of the journal.
use Rattle.std.specs.Prelude.{ℕ, zero, suc, ◌+◌, ◌-◌, ◌≡◌, List, [], ◌∷◌, ◌++◌, length, Option, Some, None, option_map, IfSome, Result, Ok, Err}
use Rattle.cfa_base.specs.Shown.{Shown}
use Rattle.cfa_outside.specs.declared.errors.OutsideErr.{OutsideErr}
use Rattle.cfa_outside.specs.declared.errors.OutsideErr.TheVariants.{Failed, NoMemory}
use Rattle.cfa_outside.specs.declared.sites.Call.TheVariants.{Look, Read}
use Rattle.cfa_outside.specs.declared.sites.Change.{Change}
use Rattle.cfa_outside.specs.declared.sites.Change.TheVariants.{PutFile, PutDir, Remove, SetPerms, PutService, PutLock, Append}
use Rattle.cfa_outside.specs.declared.sites.Entry.{Entry}
use Rattle.cfa_outside.specs.declared.sites.Entry.TheVariants.{Did, Refused}
use Rattle.cfa_outside.specs.Sites.{Told, adds}
use Rattle.cfa_outside.specs.Worlds.{HasParents}

-- a record of the journal is no change that counts
abbrev pub changes_of : Change → ℕ
changes_of (PutFile path bytes) = 1
changes_of (PutDir path) = 1
changes_of (Remove path) = 1
changes_of (SetPerms path perms) = 1
changes_of (PutService name row) = 1
changes_of (PutLock key moment) = 1
changes_of (Append bytes) = 0

-- how many entries of a log are changes
abbrev pub changes_in : List Entry → ℕ
changes_in [] = 0
changes_in (Did change ∷ log) = changes_of change + changes_in log
changes_in (Refused call ∷ log) = changes_in log

-- how many entries a call adds that changes nothing
abbrev pub refusals : {X : Type 0} → Result X OutsideErr → ℕ
refusals (Ok answer) = 0
refusals (Err Failed) = 1
refusals (Err NoMemory) = 0

-- how many entries the call of a change adds, and how many changes it makes
abbrev pub additions : Result (Unit {0}) OutsideErr → ℕ
additions (Ok done) = 1
additions (Err Failed) = 1
additions (Err NoMemory) = 0

abbrev pub changes_made : Result (Unit {0}) OutsideErr → Change → ℕ
changes_made (Ok done) change = changes_of change
changes_made (Err error) change = 0

-- Of the code alone: what a counting site shows. Its world and its faults are those of its site. Its log is that of its site
-- behind two numbers, each written as so many entries of one kind and one of another: by how much the length of the log and
-- the number of its changes pass the counts. No call changes these numbers, so that from what is shown before and after
-- calls it can be told that the counts are exact.

abbrev pub coded : ℕ → List Entry
coded zero = Refused Read ∷ []
coded (suc n) = Refused Look ∷ coded n

abbrev pub counted_log : (entries changes : ℕ) → List Entry → List Entry
counted_log entries changes log =
    coded (suc (length log) - entries) ++ (coded (suc (changes_in log) - changes) ++ log)

abbrev pub counted_told : (entries changes : ℕ) → Told → Told
counted_told entries changes t = record { world = t.world; log = counted_log entries changes t.log }

abbrev pub counted : (entries changes : ℕ) → Shown Told → Shown Told
counted entries changes shown =
    record { told = option_map (counted_told entries changes) shown.told; faults = shown.faults }

-- its world is one where its site's is
pub counted_parents : (entries changes : ℕ) (shown : Shown Told) →
    IfSome shown.told (λ t. HasParents t.world.nodes) → IfSome (counted entries changes shown).told (λ t. HasParents t.world.nodes)
counted_parents entries changes shown h = by shown.told h where
  by : (told : Option Told) → IfSome told (λ t. HasParents t.world.nodes) →
      IfSome (option_map (counted_told entries changes) told) (λ t. HasParents t.world.nodes)
  by None h = tt
  by (Some t) h = h

-- what a site with counts of 0 shows, and the entries that are added to it, tell the site's own log and the counts
pub record IsCounted (entries changes : ℕ) (before after : Told) (added : List Entry) : Type 0 where
  pub site_is : after ≡ adds added before
  pub entries_are : entries ≡ length added
  pub changes_are : changes ≡ changes_in added

abbrev pub CountsAreExact : Type 0
CountsAreExact =
    (entries changes : ℕ) (before after : Told) (added : List Entry) →
    counted_told entries changes after ≡ adds added (counted_told 0 0 before) →
    IsCounted entries changes before after added
