-- An act's post is what it asks of a world. An act is kept exactly where its post holds; elsewhere it needs one change, or
-- fails for the first reason of its list that applies.
use Rattle.std.specs.Prelude.{ℕ, ◌+◌, ◌-◌, ◌^◌, ◌≤◌, List, [], length, Bool, true, false, not, ◌||◌, ◌&&◌, ◌==◌, nat_le, if◌then◌else◌, Option, Some, None, IsTrue, slice_get}
use Rattle.std.specs.List.{list_any}
use Rattle.std.specs.Option.{unwrap_or}
use Rattle.std.specs.Str.{IsUtf8, bytes_eq}
use Rattle.std.specs.FinMap as map
use Rattle.cfa_base.specs.declared.limits.TheConstants.{MOST_FILE_BYTES}
use Rattle.cfa_outside.specs.declared.worlds.Node.{Node}
use Rattle.cfa_outside.specs.declared.worlds.Node.TheVariants.{File, Dir}
use Rattle.cfa_outside.specs.declared.worlds.Perms.{Perms}
use Rattle.cfa_outside.specs.declared.worlds.ServiceRow.{ServiceRow}
use Rattle.cfa_outside.specs.declared.worlds.World.{World}
use Rattle.cfa_outside.specs.declared.sites.Look.{Look}
use Rattle.cfa_outside.specs.declared.sites.Look.TheVariants as look
use Rattle.cfa_outside.specs.declared.sites.Change.TheVariants.{PutFile, PutDir, Remove, SetPerms, PutService}
use Rattle.cfa_outside.specs.Worlds.{is_file, is_directory, takes_file, takes_directory, perms_in}
use Rattle.cfa_outside.specs.Sites.{look_of, fits}
use Rattle.cfa_acts.specs.declared.acts.Act.{Act}
use Rattle.cfa_acts.specs.declared.acts.Act.TheVariants as act
use Rattle.cfa_acts.specs.declared.acts.Reason.{Reason}
use Rattle.cfa_acts.specs.declared.acts.Reason.TheVariants.{Missing, Obstructed, UnknownService, BadValue, TooLong, Fault}
use Rattle.cfa_acts.specs.declared.acts.Decision.{Decision}
use Rattle.cfa_acts.specs.declared.acts.Decision.TheVariants.{Kept, Needs, Fail}
use Rattle.cfa_acts.specs.Settling.{is_settled, edits}

-- a reason that an act has of itself: a fault comes from a failed call alone
abbrev pub IsOwn : Reason → Type 0
IsOwn Fault = ⊥
IsOwn _ = Unit {0}

-- a content that may be put: a text within the limit of a file
pub record IsContent (bytes : List ℕ) : Type 0 where
  pub text : IsUtf8 bytes
  pub short : length bytes ≤ MOST_FILE_BYTES

-- what each call on an act may take for granted
abbrev pub IsAct : Act → Type 0
IsAct (act.Content _ bytes) = IsContent bytes
IsAct (act.Bust reason) = IsOwn reason
IsAct _ = Unit {0}

-- a file with these bytes
abbrev pub has_bytes : List ℕ → Option Node → Bool
has_bytes bytes (Some (File present _)) = bytes_eq present bytes
has_bytes bytes (Some (Dir _)) = false
has_bytes bytes None = false

-- a source within the limit, and a file with its bytes
abbrev pub is_copied : (source copy : Option Node) → Bool
is_copied (Some (File bytes _)) copy = nat_le (length bytes) MOST_FILE_BYTES && has_bytes bytes copy
is_copied (Some (Dir _)) copy = false
is_copied None copy = false

-- among the listed names, where any is listed
abbrev pub is_listed : List (List ℕ) → List ℕ → Bool
is_listed names present = (length names == 0) || list_any (λ name. bytes_eq name present) names

-- the given mode, where one is given
abbrev pub is_mode : Option ℕ → ℕ → Bool
is_mode None present = true
is_mode (Some mode) present = mode == present

-- what is asked of the permissions of what stands at a path
abbrev pub are_perms : Option ℕ → (owners groups : List (List ℕ)) → Perms → Bool
are_perms mode owners groups present =
    is_mode mode present.mode && (is_listed owners present.owner && is_listed groups present.group)

abbrev pub has_perms : Option ℕ → (owners groups : List (List ℕ)) → Option Perms → Bool
has_perms mode owners groups None = false
has_perms mode owners groups (Some present) = are_perms mode owners groups present

-- a service with a row that passes
abbrev pub has_row : (ServiceRow → Bool) → Option ServiceRow → Bool
has_row test None = false
has_row test (Some row) = test row

-- what an act asks for
unfoldable pub post : Act → World → Bool
post (act.Create path) world = is_file (map.get world.nodes path)
post (act.MakeDir path) world = is_directory (map.get world.nodes path)
post (act.Delete path _) world = not (map.contains_key world.nodes path)
post (act.Content path bytes) world = has_bytes bytes (map.get world.nodes path)
post (act.Copy source path) world =
    is_copied (map.get world.nodes source) (map.get world.nodes path)
post (act.Edit path script) world = is_settled script (map.get world.nodes path)
post (act.Perms path mode owners groups) world =
    has_perms mode owners groups (perms_in (map.get world.nodes path))
post (act.Start name) world = has_row (λ row. row.running) (map.get world.services name)
post (act.Stop name) world = has_row (λ row. not row.running) (map.get world.services name)
post (act.Enable name) world = has_row (λ row. row.enabled) (map.get world.services name)
post (act.Disable name) world = has_row (λ row. not row.enabled) (map.get world.services name)
post (act.Restart _) world = false
post (act.Bust _) world = false

-- a file with these bytes is put; a directory there or a file above obstructs it
abbrev pub puts_file : (path bytes : List ℕ) → Look → Decision
puts_file path bytes here = if takes_file here then Needs (PutFile path bytes) else Fail Obstructed

-- a directory is put; a file there or above obstructs it
abbrev pub puts_directory : List ℕ → Look → Decision
puts_directory path here = if takes_directory here then Needs (PutDir path) else Fail Obstructed

-- a file may be deleted, and an empty directory where that is asked for
abbrev pub is_deletable : (with_directories : Bool) → Look → Bool
is_deletable with_directories look.Nothing = false
is_deletable with_directories look.Blocked = false
is_deletable with_directories (look.File _) = true
is_deletable with_directories (look.Dir is_empty) = with_directories && is_empty

abbrev pub deletes : List ℕ → Bool → Look → Decision
deletes path with_directories here =
    if is_deletable with_directories here then Needs (Remove path) else Fail Obstructed

-- the source has to be a file, the target one or nothing, and the source within the limit, in this order
abbrev pub copies : List ℕ → (source : Option Node) → Look → Decision
copies path None here = Fail Missing
copies path (Some (Dir _)) here = Fail Obstructed
copies path (Some (File bytes _)) here =
    if takes_file here
    then (if nat_le (length bytes) MOST_FILE_BYTES
    then Needs (PutFile path bytes)
    else Fail TooLong)
    else Fail Obstructed

-- the first of the names, where the present one isn't listed
abbrev pub listed_or_first : List (List ℕ) → List ℕ → List ℕ
listed_or_first names present =
    if is_listed names present then present else unwrap_or (slice_get names 0) present

-- the permissions that are asked for, the present ones as far as they will do
abbrev pub asked_perms : Option ℕ → (owners groups : List (List ℕ)) → Perms → Perms
asked_perms mode owners groups present = record {
  mode = unwrap_or mode present.mode;
  owner = listed_or_first owners present.owner;
  group = listed_or_first groups present.group;
}

abbrev pub sets_perms :
    List ℕ → Option ℕ → (owners groups : List (List ℕ)) → Option Perms → Decision
sets_perms path mode owners groups None = Fail Missing
sets_perms path mode owners groups (Some present) =
    Needs (SetPerms path (asked_perms mode owners groups present))

-- a row with its other fields as they are
abbrev pub with_running : Bool → ServiceRow → ServiceRow
with_running running row = record row { running = running }

abbrev pub with_enabled : Bool → ServiceRow → ServiceRow
with_enabled enabled row = record row { enabled = enabled }

abbrev pub restarted : ServiceRow → ServiceRow
restarted row = record row { running = true; restarts = row.restarts + 1 }

abbrev pub puts_row : List ℕ → (ServiceRow → ServiceRow) → Option ServiceRow → Decision
puts_row name changed None = Fail UnknownService
puts_row name changed (Some row) = Needs (PutService name (changed row))

-- a service that was restarted 4,294,967,295 times isn't restarted again
abbrev pub restarts : List ℕ → Option ServiceRow → Decision
restarts name None = Fail UnknownService
restarts name (Some row) =
    if row.restarts == (2 ^ 32 - 1) then Fail BadValue else Needs (PutService name (restarted row))

-- what an act needs where its post doesn't hold
unfoldable pub needed : Act → World → Decision
needed (act.Create path) world = puts_file path [] (look_of world path)
needed (act.MakeDir path) world = puts_directory path (look_of world path)
needed (act.Delete path with_directories) world = deletes path with_directories (look_of world path)
needed (act.Content path bytes) world = puts_file path bytes (look_of world path)
needed (act.Copy source path) world = copies path (map.get world.nodes source) (look_of world path)
needed (act.Edit path script) world = edits path script (map.get world.nodes path)
needed (act.Perms path mode owners groups) world =
    sets_perms path mode owners groups (perms_in (map.get world.nodes path))
needed (act.Start name) world = puts_row name (with_running true) (map.get world.services name)
needed (act.Stop name) world = puts_row name (with_running false) (map.get world.services name)
needed (act.Enable name) world = puts_row name (with_enabled true) (map.get world.services name)
needed (act.Disable name) world = puts_row name (with_enabled false) (map.get world.services name)
needed (act.Restart name) world = restarts name (map.get world.services name)
needed (act.Bust reason) world = Fail reason

unfoldable pub decision : Act → World → Decision
decision act world = if post act world then Kept else needed act world

-- a change that is needed fits the world
abbrev pub NeedFits : Decision → World → Type 0
NeedFits (Needs change) world = IsTrue (fits change world)
NeedFits _ world = Unit {0}
