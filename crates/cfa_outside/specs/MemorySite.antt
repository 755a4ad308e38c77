-- What a site in memory shows of itself, and when its calls fail: exactly those whose number is listed, and after so
-- many changes every call.
use Rattle.std.specs.Prelude.{◌≡◌, ℕ, List, Option, Some, Bool, ◌||◌, Result, Ok, Err, OnOk}
use Rattle.cfa_base.specs.Shown.{Shown}
use Rattle.cfa_outside.specs.declared.errors.OutsideErr.{OutsideErr}
use Rattle.cfa_outside.specs.declared.memory_site.MemorySite.{MemorySite}
use Rattle.cfa_outside.specs.declared.sites.Call.{Call}
use Rattle.cfa_outside.specs.declared.sites.Entry.{Entry}
use Rattle.cfa_outside.specs.declared.worlds.World.{World}
use Rattle.cfa_outside.specs.Sites.{Told, Seen}
use Rattle.cfa_outside.specs.Turns.{Numbering, next_number, is_next_listed, is_stopped, TakesTurn}

abbrev pub world_of : MemorySite → World
world_of site = site.world

abbrev pub log_of : MemorySite → List Entry
log_of site = site.log.items

-- the calls so far
abbrev pub turns_of : MemorySite → Numbering
turns_of site = site.turns

-- the number of changes after which every call fails
abbrev pub stops_after : MemorySite → Option ℕ
stops_after site = site.stop

abbrev pub changes_so_far : MemorySite → ℕ
changes_so_far site = site.changes

abbrev pub shown_of : MemorySite → Shown Told
shown_of site = record { told = Some (record { world = world_of site; log = log_of site }); faults = site.turns.faults }

-- the next call's number is listed, or the changes are used up
abbrev pub fails_next : MemorySite → Bool
fails_next site = is_next_listed (turns_of site) || is_stopped (stops_after site) (changes_so_far site)

-- the number of changes after a change that gave this result
abbrev pub changes_after : {X : Type 0} → Result X OutsideErr → ℕ → ℕ
changes_after (Ok _) changes = next_number changes
changes_after (Err _) changes = changes

-- a call that changes nothing takes its turn, and is logged as refused where it fails
pub record Sees {X : Type 0} (call : Call) (before after : MemorySite) (result : Result X OutsideErr) : Type 0 where
  pub shown : Seen call (shown_of before) (shown_of after) result
  pub turn : TakesTurn (fails_next before) (turns_of before) (turns_of after) result
  pub world : world_of after ≡ world_of before
  pub log : OnOk result (log_of after ≡ log_of before)
  pub stop : stops_after after ≡ stops_after before
  pub changes : changes_so_far after ≡ changes_so_far before
