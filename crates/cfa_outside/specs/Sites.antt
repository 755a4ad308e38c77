-- What the calls of a site show and do. A look shows the world. A change makes the next world, and is logged; a refused
-- call is logged and changes nothing. So the world is always what the log makes of the first one.
use Rattle.std.specs.Prelude.{ℕ, List, [], ◌∷◌, ◌++◌, Bool, true, IsTrue, Result}
use Rattle.std.specs.FinMap as map
use Rattle.cfa_base.specs.Shown.{Shown, Untouched}
use Rattle.cfa_outside.specs.declared.errors.OutsideErr.{OutsideErr}
use Rattle.cfa_outside.specs.declared.worlds.World.{World}
use Rattle.cfa_outside.specs.declared.sites.Call.{Call}
use Rattle.cfa_outside.specs.declared.sites.Look.{Look}
use Rattle.cfa_outside.specs.declared.sites.Change.{Change}
use Rattle.cfa_outside.specs.declared.sites.Change.TheVariants.{PutFile, PutDir, Remove, SetPerms, PutService, PutLock, Append}
use Rattle.cfa_outside.specs.declared.sites.Entry.{Entry}
use Rattle.cfa_outside.specs.declared.sites.Entry.TheVariants.{Did, Refused}
use Rattle.cfa_outside.specs.Answered.{Answered}
use Rattle.cfa_outside.specs.Worlds.{look_at, takes_file, takes_directory, is_removable, put_file, put_directory, set_perms, HasParents}

-- a world, and what happened to it so far, in order
pub record Told : Type 0 where
  pub world : World
  pub log : List Entry

-- what a look at a path of a world shows
abbrev pub look_of : World → List ℕ → Look
look_of world path = look_at world.nodes path

-- the change may be made
abbrev pub fits : Change → World → Bool
fits (PutFile path _) world = takes_file (look_of world path)
fits (PutDir path) world = takes_directory (look_of world path)
fits (Remove path) world = is_removable (look_of world path)
fits (SetPerms path _) world = map.contains_key world.nodes path
fits (PutService name _) world = map.contains_key world.services name
fits (PutLock _ _) world = true
fits (Append _) world = true

unfoldable pub after_change : Change → World → World
after_change (PutFile path bytes) world = record world { nodes = put_file path bytes world.nodes }
after_change (PutDir path) world = record world { nodes = put_directory path world.nodes }
after_change (Remove path) world = record world { nodes = map.remove world.nodes path }
after_change (SetPerms path perms) world = record world { nodes = set_perms path perms world.nodes }
after_change (PutService name row) world = record world { services = map.insert world.services name row }
after_change (PutLock key moment) world = record world { locks = map.insert world.locks key moment }
after_change (Append bytes) world = record world { journal = world.journal ++ bytes }

-- the world after the changes that were done, in order; refused calls are passed over
abbrev pub after : List Entry → World → World
after [] world = world
after (Did change ∷ log) world = after log (after_change change world)
after (Refused _ ∷ log) world = after log world

-- the entries happen
abbrev pub adds : List Entry → Told → Told
adds entries t = record { world = after entries t.world; log = t.log ++ entries }

-- a call that changes nothing, and is logged as refused where it fails
abbrev pub Seen : {X : Type 0} → Call → (before after : Shown Told) → Result X OutsideErr → Type 0
Seen call before after result = Answered (λ _. Untouched) (adds (Refused call ∷ [])) before after result

-- each change of the log fits the world that it meets
abbrev pub AllFit : List Entry → World → Type 0
AllFit [] world = Unit {0}
AllFit (Did change ∷ log) world = IsTrue (fits change world) × AllFit log (after_change change world)
AllFit (Refused _ ∷ log) world = AllFit log world

-- after a change that fits, the parent of each node is still a directory or the root
abbrev pub ChangesKeepParents : Type 0
ChangesKeepParents =
    (change : Change) (world : World) → IsTrue (fits change world) → HasParents world.nodes →
    HasParents (after_change change world).nodes

-- the same after a log whose changes fit
abbrev pub LogsKeepParents : Type 0
LogsKeepParents =
    (log : List Entry) (world : World) → AllFit log world → HasParents world.nodes → HasParents (after log world).nodes
