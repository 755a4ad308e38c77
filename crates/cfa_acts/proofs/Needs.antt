-- What is known where an act needs a change, and that the change fits.
use Rattle.std.proofs.Common.{◌≡◌, ℕ, List, [], length, Bool, true, false, cond, Option, Some, None, is_some, IsTrue, refl, sym, ap, subst}
use Rattle.std.proofs.lemmas.Bool.{false≢true}
use Rattle.std.specs.Prelude.{nat_le, nat_eq, ◌-◌, ◌^◌, Result, Ok, Err}
use Rattle.std.specs.Str.{is_utf8}
use Rattle.std.specs.FinMap as map
use Rattle.cfa_base.specs.declared.limits.TheConstants.{MOST_FILE_BYTES}
use Rattle.cfa_outside.specs.declared.worlds.World.{World}
use Rattle.cfa_outside.specs.declared.worlds.Node.{Node}
use Rattle.cfa_outside.specs.declared.worlds.Node.TheVariants.{File, Dir}
use Rattle.cfa_outside.specs.declared.worlds.Perms.{Perms}
use Rattle.cfa_outside.specs.declared.worlds.ServiceRow.{ServiceRow}
use Rattle.cfa_outside.specs.declared.sites.Look.{Look}
use Rattle.cfa_outside.specs.declared.sites.Look.TheVariants as look
use Rattle.cfa_outside.specs.declared.sites.Change.{Change}
use Rattle.cfa_outside.specs.declared.sites.Change.TheVariants.{PutFile, PutDir, Remove, SetPerms, PutService}
use Rattle.cfa_outside.specs.Worlds.{is_file, is_directory, is_blocked, has_below, shows, look_at, bytes_in, perms_in, takes_file, takes_directory, is_removable}
use Rattle.cfa_outside.specs.Sites.{look_of, fits}
use Rattle.cfa_outside.specs.lemmas.Looks.{no_directory}
use Rattle.cfa_lines.specs.Decks.{lines_of, text_of}
use Rattle.cfa_edits.specs.declared.edits.Edit.{Edit}
use Rattle.cfa_edits.specs.declared.edits.EditErr.{EditErr}
use Rattle.cfa_edits.specs.Edits.{Lines, edited}
use Rattle.cfa_acts.specs.declared.acts.Act.{Act}
use Rattle.cfa_acts.specs.declared.acts.Act.TheVariants as act
use Rattle.cfa_acts.specs.declared.acts.Reason.{Reason}
use Rattle.cfa_acts.specs.declared.acts.Reason.TheVariants.{Obstructed, NotText, NonConvergent, TooLong, BadValue}
use Rattle.cfa_acts.specs.declared.acts.Decision.{Decision}
use Rattle.cfa_acts.specs.declared.acts.Decision.TheVariants.{Kept, Needs, Fail}
use Rattle.cfa_acts.specs.Acts.{post, needed, decision, copies, is_deletable, asked_perms, sets_perms, puts_row, with_running, with_enabled, restarted, restarts}
use Rattle.cfa_acts.specs.Settling.{is_short, leaves, puts_lines, edits}
use Rattle.cfa_acts.specs.Laws.{KeptWherePostHolds, NeededFits}

if_needs : (b : Bool) (one change : Change) (reason : Reason) → cond b (Needs one) (Fail reason) ≡ Needs change → (b ≡ true) × (one ≡ change)
if_needs true one change reason e = (refl, cc)
if_needs false one change reason e = cc

unless_kept : (b : Bool) (d : Decision) (change : Change) → cond b Kept d ≡ Needs change → (b ≡ false) × (d ≡ Needs change)
unless_kept true d change e = cc
unless_kept false d change e = (refl, e)

-- where an act needs a change its post doesn't hold
pub unmet : (a : Act) (world : World) (change : Change) → decision a world ≡ Needs change → (post a world ≡ false) × (needed a world ≡ Needs change)
unfolding decision
unmet a world change e = unless_kept (post a world) (needed a world) change e

-- what a look that takes a file or a directory says of what stands there
nothing_there : (here : Option Node) (blocked below : Bool) → takes_directory (shows here blocked below) ≡ true → here ≡ None
nothing_there (Some (File _ _)) blocked below is = absurd (false≢true is)
nothing_there (Some (Dir _)) blocked below is = absurd (false≢true is)
nothing_there None blocked below is = refl

no_file_there : (here : Option Node) (blocked below : Bool) → takes_file (shows here blocked below) ≡ true → is_file here ≡ false → here ≡ None
no_file_there (Some (File _ _)) blocked below is clear = absurd (false≢true (sym clear))
no_file_there (Some (Dir _)) blocked below is clear = absurd (false≢true is)
no_file_there None blocked below is clear = refl

pub create_needs : (path : List ℕ) (world : World) (change : Change) → decision (act.Create path) world ≡ Needs change → (PutFile path [] ≡ change) × ((map.get world.nodes path ≡ None) × (takes_file (look_of world path) ≡ true))
unfolding look_at post needed
create_needs path world change e =
    let un = unmet (act.Create path) world change e in
    let parts = if_needs (takes_file (look_of world path)) (PutFile path []) change Obstructed un.1 in
    (parts.1, (no_file_there (map.get world.nodes path) (is_blocked world.nodes path) (has_below world.nodes path) parts.0 un.0, parts.0))

pub make_dir_needs : (path : List ℕ) (world : World) (change : Change) → decision (act.MakeDir path) world ≡ Needs change → (PutDir path ≡ change) × ((map.get world.nodes path ≡ None) × (takes_directory (look_of world path) ≡ true))
unfolding look_at post needed
make_dir_needs path world change e =
    let un = unmet (act.MakeDir path) world change e in
    let parts = if_needs (takes_directory (look_of world path)) (PutDir path) change Obstructed un.1 in
    (parts.1, (nothing_there (map.get world.nodes path) (is_blocked world.nodes path) (has_below world.nodes path) parts.0, parts.0))

pub delete_needs : (path : List ℕ) (dirs : Bool) (world : World) (change : Change) → decision (act.Delete path dirs) world ≡ Needs change → (Remove path ≡ change) × (is_deletable dirs (look_of world path) ≡ true)
unfolding needed
delete_needs path dirs world change e =
    let un = unmet (act.Delete path dirs) world change e in
    let parts = if_needs (is_deletable dirs (look_of world path)) (Remove path) change Obstructed un.1 in
    (parts.1, parts.0)

pub content_needs : (path bytes : List ℕ) (world : World) (change : Change) → decision (act.Content path bytes) world ≡ Needs change → (PutFile path bytes ≡ change) × ((is_directory (map.get world.nodes path) ≡ false) × (takes_file (look_of world path) ≡ true))
unfolding look_at needed
content_needs path bytes world change e =
    let un = unmet (act.Content path bytes) world change e in
    let parts = if_needs (takes_file (look_of world path)) (PutFile path bytes) change Obstructed un.1 in
    (parts.1, (no_directory (map.get world.nodes path) (is_blocked world.nodes path) (has_below world.nodes path) parts.0, parts.0))

pub record CopyNeeds (path : List ℕ) (source target : Option Node) (taken : Bool) (change : Change) : Type 0 where
  pub bytes : List ℕ
  pub read : bytes_in source ≡ Some bytes
  pub short : nat_le (length bytes) MOST_FILE_BYTES ≡ true
  pub put : PutFile path bytes ≡ change
  pub takes : taken ≡ true

copied_needs : (path : List ℕ) (source target : Option Node) (here : Look) (change : Change) → copies path source here ≡ Needs change → CopyNeeds path source target (takes_file here) change
copied_needs path (Some (File bytes perms)) target here change e = by (takes_file here) (nat_le (length bytes) MOST_FILE_BYTES) refl e where
  by : (t b : Bool) → nat_le (length bytes) MOST_FILE_BYTES ≡ b → cond t (cond b (Needs (PutFile path bytes)) (Fail TooLong)) (Fail Obstructed) ≡ Needs change → CopyNeeds path (Some (File bytes perms)) target t change
  by true true short is = record { bytes = bytes; read = refl; short = short; put = cc; takes = refl }
  by true false short is = cc
  by false b short is = cc
copied_needs path (Some (Dir _)) target here change e = cc
copied_needs path None target here change e = cc

pub copy_needs : (source path : List ℕ) (world : World) (change : Change) → decision (act.Copy source path) world ≡ Needs change → CopyNeeds path (map.get world.nodes source) (map.get world.nodes path) (takes_file (look_of world path)) change
unfolding needed
copy_needs source path world change e =
    copied_needs path (map.get world.nodes source) (map.get world.nodes path) (look_of world path) change (unmet (act.Copy source path) world change e).1

pub takes_no_directory : (path : List ℕ) (world : World) → takes_file (look_of world path) ≡ true → is_directory (map.get world.nodes path) ≡ false
unfolding look_at
takes_no_directory path world is = no_directory (map.get world.nodes path) (is_blocked world.nodes path) (has_below world.nodes path) is

pub record EditNeeds (path : List ℕ) (script : List Edit) (here : Option Node) (change : Change) : Type 0 where
  pub bytes : List ℕ
  pub perms : Perms
  pub there : here ≡ Some (File bytes perms)
  pub text : List ℕ
  pub put : PutFile path text ≡ change
  pub left : leaves script text ≡ true
  pub short : is_short text ≡ true

-- an edit of a file that needs a change
module _ (path : List ℕ) (script : List Edit) (bytes : List ℕ) (perms : Perms) (change : Change) where
  text_needs : (text : List ℕ) (l s : Bool) → leaves script text ≡ l → is_short text ≡ s → cond l (cond s (Needs (PutFile path text)) (Fail TooLong)) (Fail NonConvergent) ≡ Needs change → EditNeeds path script (Some (File bytes perms)) change
  text_needs text true true left short e = record { bytes = bytes; perms = perms; there = refl; text = text; put = cc; left = left; short = short }
  text_needs text true false left short e = cc
  text_needs text false s left short e = cc

  lines_needs : (made : Result Lines EditErr) → puts_lines path script made ≡ Needs change → EditNeeds path script (Some (File bytes perms)) change
  lines_needs (Err refused) e = cc
  lines_needs (Ok left) e = text_needs (text_of left) (leaves script (text_of left)) (is_short (text_of left)) refl refl e

  file_needs : (s u : Bool) (made : Result Lines EditErr) → cond s (cond u (puts_lines path script made) (Fail NotText)) (Fail TooLong) ≡ Needs change → EditNeeds path script (Some (File bytes perms)) change
  file_needs true true made e = lines_needs made e
  file_needs true false made e = cc
  file_needs false u made e = cc

edits_needs : (path : List ℕ) (script : List Edit) (here : Option Node) (change : Change) → edits path script here ≡ Needs change → EditNeeds path script here change
edits_needs path script (Some (File bytes perms)) change e = file_needs path script bytes perms change (is_short bytes) (is_utf8 bytes) (edited script (lines_of bytes)) e
edits_needs path script (Some (Dir _)) change e = cc
edits_needs path script None change e = cc

pub edit_needs : (path : List ℕ) (script : List Edit) (world : World) (change : Change) → decision (act.Edit path script) world ≡ Needs change → EditNeeds path script (map.get world.nodes path) change
unfolding needed
edit_needs path script world change e = edits_needs path script (map.get world.nodes path) change (unmet (act.Edit path script) world change e).1

file_taken : (here : Option Node) (bytes : List ℕ) (perms : Perms) (blocked below : Bool) → here ≡ Some (File bytes perms) → takes_file (shows here blocked below) ≡ true
file_taken here bytes perms blocked below is = ap (λ (o : Option Node). takes_file (shows o blocked below)) is

edit_taken : (path : List ℕ) (script : List Edit) (world : World) (change : Change) → EditNeeds path script (map.get world.nodes path) change → takes_file (look_of world path) ≡ true
unfolding look_at
edit_taken path script world change need = file_taken (map.get world.nodes path) need.bytes need.perms (is_blocked world.nodes path) (has_below world.nodes path) need.there

pub record PermsNeeds (path : List ℕ) (mode : Option ℕ) (owners groups : List (List ℕ)) (here : Option Perms) (change : Change) : Type 0 where
  pub present : Perms
  pub there : here ≡ Some present
  pub set : SetPerms path (asked_perms mode owners groups present) ≡ change

set_needs : (path : List ℕ) (mode : Option ℕ) (owners groups : List (List ℕ)) (here : Option Perms) (change : Change) → sets_perms path mode owners groups here ≡ Needs change → PermsNeeds path mode owners groups here change
set_needs path mode owners groups None change e = cc
set_needs path mode owners groups (Some present) change e = record { present = present; there = refl; set = cc }

pub perms_needs : (path : List ℕ) (mode : Option ℕ) (owners groups : List (List ℕ)) (world : World) (change : Change) → decision (act.Perms path mode owners groups) world ≡ Needs change → PermsNeeds path mode owners groups (perms_in (map.get world.nodes path)) change
unfolding needed
perms_needs path mode owners groups world change e =
    set_needs path mode owners groups (perms_in (map.get world.nodes path)) change (unmet (act.Perms path mode owners groups) world change e).1

pub record RowNeeds (name : List ℕ) (changed : ServiceRow → ServiceRow) (here : Option ServiceRow) (change : Change) : Type 0 where
  pub row : ServiceRow
  pub there : here ≡ Some row
  pub put : PutService name (changed row) ≡ change

row_needs : (name : List ℕ) (changed : ServiceRow → ServiceRow) (here : Option ServiceRow) (change : Change) → puts_row name changed here ≡ Needs change → RowNeeds name changed here change
row_needs name changed None change e = cc
row_needs name changed (Some row) change e = record { row = row; there = refl; put = cc }

restarts_needs : (name : List ℕ) (here : Option ServiceRow) (change : Change) → restarts name here ≡ Needs change → RowNeeds name restarted here change
restarts_needs name None change e = cc
restarts_needs name (Some row) change e = by (nat_eq row.restarts (2 ^ 32 - 1)) e where
  by : (b : Bool) → cond b (Fail BadValue) (Needs (PutService name (restarted row))) ≡ Needs change → RowNeeds name restarted (Some row) change
  by true is = cc
  by false is = record { row = row; there = refl; put = cc }

pub start_needs : (name : List ℕ) (world : World) (change : Change) → decision (act.Start name) world ≡ Needs change → RowNeeds name (with_running true) (map.get world.services name) change
unfolding needed
start_needs name world change e = row_needs name (with_running true) (map.get world.services name) change (unmet (act.Start name) world change e).1

pub stop_needs : (name : List ℕ) (world : World) (change : Change) → decision (act.Stop name) world ≡ Needs change → RowNeeds name (with_running false) (map.get world.services name) change
unfolding needed
stop_needs name world change e = row_needs name (with_running false) (map.get world.services name) change (unmet (act.Stop name) world change e).1

pub enable_needs : (name : List ℕ) (world : World) (change : Change) → decision (act.Enable name) world ≡ Needs change → RowNeeds name (with_enabled true) (map.get world.services name) change
unfolding needed
enable_needs name world change e = row_needs name (with_enabled true) (map.get world.services name) change (unmet (act.Enable name) world change e).1

pub disable_needs : (name : List ℕ) (world : World) (change : Change) → decision (act.Disable name) world ≡ Needs change → RowNeeds name (with_enabled false) (map.get world.services name) change
unfolding needed
disable_needs name world change e = row_needs name (with_enabled false) (map.get world.services name) change (unmet (act.Disable name) world change e).1

pub restart_needs : (name : List ℕ) (world : World) (change : Change) → decision (act.Restart name) world ≡ Needs change → RowNeeds name restarted (map.get world.services name) change
unfolding needed
restart_needs name world change e = restarts_needs name (map.get world.services name) change (unmet (act.Restart name) world change e).1

pub bust_needs : (reason : Reason) (world : World) (change : Change) → decision (act.Bust reason) world ≡ Needs change → ⊥
unfolding needed
bust_needs reason world change e = let is : Fail reason ≡ Needs change = (unmet (act.Bust reason) world change e).1 in cc

-- the change fits
deletable_removable : (dirs : Bool) (here : Look) → is_deletable dirs here ≡ true → is_removable here ≡ true
deletable_removable dirs look.Nothing is = is
deletable_removable dirs look.Blocked is = is
deletable_removable dirs (look.File _) is = refl
deletable_removable true (look.Dir is_empty) is = is
deletable_removable false (look.Dir is_empty) is = absurd (false≢true is)

pub perms_there : (here : Option Node) (present : Perms) → perms_in here ≡ Some present → is_some here ≡ true
perms_there (Some _) present is = refl
perms_there None present is = cc

row_fits : (name : List ℕ) (changed : ServiceRow → ServiceRow) (world : World) (change : Change) → RowNeeds name changed (map.get world.services name) change → IsTrue (fits change world)
row_fits name changed world change need =
    subst (λ (c : Change). IsTrue (fits c world)) need.put (ap is_some need.there)

pub needed_fits : NeededFits
needed_fits (act.Create path) world change e =
    let need = create_needs path world change e in subst (λ (c : Change). IsTrue (fits c world)) need.0 need.1.1
needed_fits (act.MakeDir path) world change e =
    let need = make_dir_needs path world change e in subst (λ (c : Change). IsTrue (fits c world)) need.0 need.1.1
needed_fits (act.Delete path dirs) world change e =
    let need = delete_needs path dirs world change e in subst (λ (c : Change). IsTrue (fits c world)) need.0 (deletable_removable dirs (look_of world path) need.1)
needed_fits (act.Content path bytes) world change e =
    let need = content_needs path bytes world change e in subst (λ (c : Change). IsTrue (fits c world)) need.0 need.1.1
needed_fits (act.Copy source path) world change e =
    let need = copy_needs source path world change e in subst (λ (c : Change). IsTrue (fits c world)) need.put need.takes
needed_fits (act.Edit path script) world change e =
    let need = edit_needs path script world change e in subst (λ (c : Change). IsTrue (fits c world)) need.put (edit_taken path script world change need)
needed_fits (act.Perms path mode owners groups) world change e =
    let need = perms_needs path mode owners groups world change e in
    subst (λ (c : Change). IsTrue (fits c world)) need.set (perms_there (map.get world.nodes path) need.present need.there)
needed_fits (act.Start name) world change e = row_fits name (with_running true) world change (start_needs name world change e)
needed_fits (act.Stop name) world change e = row_fits name (with_running false) world change (stop_needs name world change e)
needed_fits (act.Enable name) world change e = row_fits name (with_enabled true) world change (enable_needs name world change e)
needed_fits (act.Disable name) world change e = row_fits name (with_enabled false) world change (disable_needs name world change e)
needed_fits (act.Restart name) world change e = row_fits name restarted world change (restart_needs name world change e)
needed_fits (act.Bust reason) world change e = absurd (bust_needs reason world change e)

row_kept : (name : List ℕ) (changed : ServiceRow → ServiceRow) (here : Option ServiceRow) → puts_row name changed here ≡ Kept → ⊥
row_kept name changed None is = cc
row_kept name changed (Some row) is = cc

-- an act needs a change or fails where its post doesn't hold
never_kept : (a : Act) (world : World) → needed a world ≡ Kept → ⊥
unfolding needed
never_kept (act.Create path) world e = by (takes_file (look_of world path)) e where
  by : (b : Bool) → cond b (Needs (PutFile path [])) (Fail Obstructed) ≡ Kept → ⊥
  by true is = cc
  by false is = cc
never_kept (act.MakeDir path) world e = by (takes_directory (look_of world path)) e where
  by : (b : Bool) → cond b (Needs (PutDir path)) (Fail Obstructed) ≡ Kept → ⊥
  by true is = cc
  by false is = cc
never_kept (act.Delete path dirs) world e = by (is_deletable dirs (look_of world path)) e where
  by : (b : Bool) → cond b (Needs (Remove path)) (Fail Obstructed) ≡ Kept → ⊥
  by true is = cc
  by false is = cc
never_kept (act.Content path bytes) world e = by (takes_file (look_of world path)) e where
  by : (b : Bool) → cond b (Needs (PutFile path bytes)) (Fail Obstructed) ≡ Kept → ⊥
  by true is = cc
  by false is = cc
never_kept (act.Copy source path) world e = by (map.get world.nodes source) e where
  file : (t b : Bool) (bytes : List ℕ) → cond t (cond b (Needs (PutFile path bytes)) (Fail TooLong)) (Fail Obstructed) ≡ Kept → ⊥
  file true true bytes is = cc
  file true false bytes is = cc
  file false b bytes is = cc

  by : (here : Option Node) → copies path here (look_of world path) ≡ Kept → ⊥
  by (Some (File bytes _)) is = file (takes_file (look_of world path)) (nat_le (length bytes) MOST_FILE_BYTES) bytes is
  by (Some (Dir _)) is = cc
  by None is = cc
never_kept (act.Edit path script) world e = by (map.get world.nodes path) e where
  text : (t : List ℕ) (l s : Bool) → cond l (cond s (Needs (PutFile path t)) (Fail TooLong)) (Fail NonConvergent) ≡ Kept → ⊥
  text t true true is = cc
  text t true false is = cc
  text t false s is = cc

  lines : (made : Result Lines EditErr) → puts_lines path script made ≡ Kept → ⊥
  lines (Err refused) is = cc
  lines (Ok left) is = text (text_of left) (leaves script (text_of left)) (is_short (text_of left)) is

  file : (s u : Bool) (made : Result Lines EditErr) → cond s (cond u (puts_lines path script made) (Fail NotText)) (Fail TooLong) ≡ Kept → ⊥
  file true true made is = lines made is
  file true false made is = cc
  file false u made is = cc

  by : (here : Option Node) → edits path script here ≡ Kept → ⊥
  by (Some (File bytes _)) is = file (is_short bytes) (is_utf8 bytes) (edited script (lines_of bytes)) is
  by (Some (Dir _)) is = cc
  by None is = cc
never_kept (act.Perms path mode owners groups) world e = by (perms_in (map.get world.nodes path)) e where
  by : (here : Option Perms) → sets_perms path mode owners groups here ≡ Kept → ⊥
  by None is = cc
  by (Some present) is = cc
never_kept (act.Start name) world e = row_kept name (with_running true) (map.get world.services name) e
never_kept (act.Stop name) world e = row_kept name (with_running false) (map.get world.services name) e
never_kept (act.Enable name) world e = row_kept name (with_enabled true) (map.get world.services name) e
never_kept (act.Disable name) world e = row_kept name (with_enabled false) (map.get world.services name) e
never_kept (act.Restart name) world e = by (map.get world.services name) e where
  one : (b : Bool) (row : ServiceRow) (reason : Reason) → cond b (Fail reason) (Needs (PutService name (restarted row))) ≡ Kept → ⊥
  one true row reason is = cc
  one false row reason is = cc

  by : (here : Option ServiceRow) → restarts name here ≡ Kept → ⊥
  by None is = cc
  by (Some row) is = one (nat_eq row.restarts (2 ^ 32 - 1)) row BadValue is
never_kept (act.Bust reason) world e = cc

pub kept_by_post : KeptWherePostHolds
unfolding decision
kept_by_post a world = (by (post a world), λ holds. ap (λ b. cond b Kept (needed a world)) holds) where
  by : (b : Bool) → cond b Kept (needed a world) ≡ Kept → b ≡ true
  by true is = refl
  by false is = absurd (never_kept a world is)
