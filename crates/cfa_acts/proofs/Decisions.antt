-- What the code finds is the decision of the world.
use Rattle.std.proofs.Common.{◌≡◌, ℕ, ◌≤◌, List, [], length, Bool, true, false, cond, ◌&&◌, not, Option, Some, None, is_some, refl, sym, ap, subst, ◌∙◌}
use Rattle.std.proofs.lemmas.Bool.{false≢true, eqb-true, eq-eqb, le-leb, leb-true}
use Rattle.std.proofs.lemmas.Slice.Eq.{bytes_eq-Decides}
use Rattle.std.specs.Prelude.{nat_le}
use Rattle.std.specs.Bool.{beq}
use Rattle.std.specs.Str.{bytes_eq, is_utf8}
use Rattle.std.specs.FinMap as map
use Rattle.cfa_base.specs.declared.limits.TheConstants.{MOST_FILE_BYTES}
use Rattle.cfa_outside.specs.declared.worlds.World.{World}
use Rattle.cfa_outside.specs.declared.worlds.Node.{Node}
use Rattle.cfa_outside.specs.declared.worlds.Node.TheVariants.{File, Dir}
use Rattle.cfa_outside.specs.declared.worlds.Perms.{Perms}
use Rattle.cfa_outside.specs.declared.worlds.ServiceRow.{ServiceRow}
use Rattle.cfa_outside.specs.declared.sites.Look.{Look}
use Rattle.cfa_outside.specs.declared.sites.Change.TheVariants.{PutFile, PutService}
use Rattle.cfa_outside.specs.Worlds.{is_file, is_directory, is_blocked, has_below, shows, look_at, is_readable, bytes_in, perms_in, takes_file}
use Rattle.cfa_outside.specs.Sites.{look_of}
use Rattle.cfa_lines.specs.Decks.{lines_of}
use Rattle.cfa_edits.specs.declared.edits.Edit.{Edit}
use Rattle.cfa_edits.specs.Edits.{edited}
use Rattle.cfa_acts.specs.declared.acts.Act.{Act}
use Rattle.cfa_acts.specs.declared.acts.Act.TheVariants as act
use Rattle.cfa_acts.specs.declared.acts.Reason.{Reason}
use Rattle.cfa_acts.specs.declared.acts.Reason.TheVariants.{Missing, Obstructed, NotText, TooLong}
use Rattle.cfa_acts.specs.declared.acts.Decision.{Decision}
use Rattle.cfa_acts.specs.declared.acts.Decision.TheVariants.{Kept, Needs, Fail}
use Rattle.cfa_acts.specs.Acts.{post, needed, decision, has_bytes, is_copied, copies, puts_file, puts_directory, deletes, has_row, puts_row, with_running, with_enabled, has_perms, sets_perms, restarts}
use Rattle.cfa_acts.specs.Seeing.{created, made, deleted, has_size, stands, copy_refusal, edit_refusal, edit_decision, running_act, enabled_act, put_running, put_enabled, perms_decision}
use Rattle.cfa_acts.specs.Settling.{is_short, are_left, leaves, is_settled, puts_lines, edits}

pub kept : (a : Act) (world : World) → post a world ≡ true → Kept ≡ decision a world
unfolding decision
kept a world holds = ap (λ b. cond b Kept (needed a world)) (sym holds)

pub unkept : (a : Act) (world : World) → post a world ≡ false → needed a world ≡ decision a world
unfolding decision
unkept a world fails = ap (λ b. cond b Kept (needed a world)) (sym fails)

created_by : (path : List ℕ) (here : Option Node) (blocked below : Bool) → created path (shows here blocked below) ≡ cond (is_file here) Kept (puts_file path [] (shows here blocked below))
created_by path (Some (File _ _)) blocked below = refl
created_by path (Some (Dir _)) blocked below = refl
created_by path None true below = refl
created_by path None false below = refl

pub create_decided : (path : List ℕ) (world : World) → created path (look_of world path) ≡ decision (act.Create path) world
unfolding look_at decision post needed
create_decided path world = created_by path (map.get world.nodes path) (is_blocked world.nodes path) (has_below world.nodes path)

made_by : (path : List ℕ) (here : Option Node) (blocked below : Bool) → made path (shows here blocked below) ≡ cond (is_directory here) Kept (puts_directory path (shows here blocked below))
made_by path (Some (File _ _)) blocked below = refl
made_by path (Some (Dir _)) blocked below = refl
made_by path None true below = refl
made_by path None false below = refl

pub make_dir_decided : (path : List ℕ) (world : World) → made path (look_of world path) ≡ decision (act.MakeDir path) world
unfolding look_at decision post needed
make_dir_decided path world = made_by path (map.get world.nodes path) (is_blocked world.nodes path) (has_below world.nodes path)

deleted_by : (path : List ℕ) (dirs : Bool) (here : Option Node) (blocked below : Bool) → deleted path dirs (shows here blocked below) ≡ cond (not (is_some here)) Kept (deletes path dirs (shows here blocked below))
deleted_by path dirs (Some (File _ _)) blocked below = refl
deleted_by path dirs (Some (Dir _)) blocked below = refl
deleted_by path dirs None true below = refl
deleted_by path dirs None false below = refl

pub delete_decided : (path : List ℕ) (dirs : Bool) (world : World) → deleted path dirs (look_of world path) ≡ decision (act.Delete path dirs) world
unfolding look_at decision post needed
delete_decided path dirs world = deleted_by path dirs (map.get world.nodes path) (is_blocked world.nodes path) (has_below world.nodes path)

-- a file of another size has other bytes
other_size : (bytes : List ℕ) (here : Option Node) (blocked below : Bool) → has_size (length bytes) (shows here blocked below) ≡ false → has_bytes bytes here ≡ false
other_size bytes (Some (File present _)) blocked below other =
    elim (bytes_eq present bytes) as (λ b. bytes_eq present bytes ≡ b → b ≡ false) [
      | true ↦ λ same. absurd (false≢true (sym other ∙ eq-eqb (length present) (length bytes) (ap length ((bytes_eq-Decides present bytes).0 same))))
      | false ↦ λ _. refl
    ] refl
other_size bytes (Some (Dir _)) blocked below other = refl
other_size bytes None blocked below other = refl

pub lacks_bytes : (bytes path : List ℕ) (world : World) → has_size (length bytes) (look_of world path) ≡ false → false ≡ has_bytes bytes (map.get world.nodes path)
unfolding look_at
lacks_bytes bytes path world other = sym (other_size bytes (map.get world.nodes path) (is_blocked world.nodes path) (has_below world.nodes path) other)

sized_readable : (size : ℕ) (here : Option Node) (blocked below : Bool) → size ≤ MOST_FILE_BYTES → has_size size (shows here blocked below) ≡ true → is_readable here ≡ true
sized_readable size (Some (File present _)) blocked below short is =
    subst (λ (n : ℕ). nat_le n MOST_FILE_BYTES ≡ true) (sym (eqb-true (length present) size is)) (le-leb size MOST_FILE_BYTES short)
sized_readable size (Some (Dir _)) blocked below short is = absurd (false≢true is)
sized_readable size None true below short is = absurd (false≢true is)
sized_readable size None false below short is = absurd (false≢true is)

pub readable : (size : ℕ) (path : List ℕ) (world : World) → size ≤ MOST_FILE_BYTES → has_size size (look_of world path) ≡ true → is_readable (map.get world.nodes path) ≡ true
unfolding look_at
readable size path world short is = sized_readable size (map.get world.nodes path) (is_blocked world.nodes path) (has_below world.nodes path) short is

pub read_short : (bytes : List ℕ) (here : Option Node) → bytes_in here ≡ Some bytes → is_readable here ≡ true → length bytes ≤ MOST_FILE_BYTES
read_short bytes (Some (File x _)) is short =
    let same : x ≡ bytes = cc in leb-true (length bytes) MOST_FILE_BYTES (subst (λ (v : List ℕ). nat_le (length v) MOST_FILE_BYTES ≡ true) same short)
read_short bytes (Some (Dir _)) is short = cc
read_short bytes None is short = cc

pub has_read : (present bytes : List ℕ) (here : Option Node) → bytes_in here ≡ Some present → bytes_eq present bytes ≡ has_bytes bytes here
has_read present bytes (Some (File x _)) is = let same : x ≡ present = cc in ap (λ (v : List ℕ). bytes_eq v bytes) (sym same)
has_read present bytes (Some (Dir _)) is = cc
has_read present bytes None is = cc

pub content_decided : (path bytes : List ℕ) (world : World) → cond (has_bytes bytes (map.get world.nodes path)) Kept (puts_file path bytes (look_of world path)) ≡ decision (act.Content path bytes) world
unfolding decision post needed
content_decided path bytes world = refl

untaken_lacks : (bytes : List ℕ) (here : Option Node) (blocked below : Bool) → takes_file (shows here blocked below) ≡ false → has_bytes bytes here ≡ false
untaken_lacks bytes (Some (File _ _)) blocked below untaken = absurd (false≢true (sym untaken))
untaken_lacks bytes (Some (Dir _)) blocked below untaken = refl
untaken_lacks bytes None blocked below untaken = refl

-- a copy of a file that is refused
module _ (path bytes : List ℕ) (there : Option Node) (reason : Reason) where
  refused_long : (b : Bool) → cond b None (Some TooLong) ≡ Some reason → Fail reason ≡ cond (b && has_bytes bytes there) Kept (cond b (Needs (PutFile path bytes)) (Fail TooLong))
  refused_long true is = cc
  refused_long false is = let same : TooLong ≡ reason = cc in ap Fail (sym same)

  refused_there : (b : Bool) → has_bytes bytes there ≡ false → Obstructed ≡ reason → Fail reason ≡ cond (b && has_bytes bytes there) Kept (Fail Obstructed)
  refused_there true lacks same = ap Fail (sym same) ∙ ap (λ h. cond h Kept (Fail Obstructed)) (sym lacks)
  refused_there false lacks same = ap Fail (sym same)

  refused_file : (taken b : Bool) → (taken ≡ false → has_bytes bytes there ≡ false) → cond taken (cond b None (Some TooLong)) (Some Obstructed) ≡ Some reason → Fail reason ≡ cond (b && has_bytes bytes there) Kept (cond taken (cond b (Needs (PutFile path bytes)) (Fail TooLong)) (Fail Obstructed))
  refused_file true b lacks is = refused_long b is
  refused_file false b lacks is = let same : Obstructed ≡ reason = cc in refused_there b (lacks refl) same

refused_by : (path : List ℕ) (reason : Reason) (here there : Option Node) (blocked below : Bool) (target : Look) → ((bytes : List ℕ) → takes_file target ≡ false → has_bytes bytes there ≡ false) → copy_refusal (shows here blocked below) target ≡ Some reason → Fail reason ≡ cond (is_copied here there) Kept (copies path here target)
refused_by path reason (Some (File bytes _)) there blocked below target lacks is = refused_file path bytes there reason (takes_file target) (nat_le (length bytes) MOST_FILE_BYTES) (lacks bytes) is
refused_by path reason (Some (Dir _)) there blocked below target lacks is = let same : Obstructed ≡ reason = cc in ap Fail (sym same)
refused_by path reason None there true below target lacks is = let same : Missing ≡ reason = cc in ap Fail (sym same)
refused_by path reason None there false below target lacks is = let same : Missing ≡ reason = cc in ap Fail (sym same)

pub copy_refused : (source path : List ℕ) (reason : Reason) (world : World) → copy_refusal (look_of world source) (look_of world path) ≡ Some reason → Fail reason ≡ decision (act.Copy source path) world
unfolding look_at decision post needed
copy_refused source path reason world is =
    refused_by path reason (map.get world.nodes source) (map.get world.nodes path) (is_blocked world.nodes source) (has_below world.nodes source) (look_of world path)
    (λ bytes untaken. untaken_lacks bytes (map.get world.nodes path) (is_blocked world.nodes path) (has_below world.nodes path) untaken) is

-- a copy that isn't refused
module _ (bytes : List ℕ) where
  short_by : (taken b : Bool) → cond taken (cond b None (Some TooLong)) (Some Obstructed) ≡ None → (b ≡ true) × (taken ≡ true)
  short_by true true is = (refl, refl)
  short_by true false is = cc
  short_by false b is = cc

free_by : (here : Option Node) (blocked below : Bool) (target : Look) → copy_refusal (shows here blocked below) target ≡ None → (is_readable here ≡ true) × (takes_file target ≡ true)
free_by (Some (File bytes _)) blocked below target is = short_by bytes (takes_file target) (nat_le (length bytes) MOST_FILE_BYTES) is
free_by (Some (Dir _)) blocked below target is = cc
free_by None true below target is = cc
free_by None false below target is = cc

pub copy_readable : (source : List ℕ) (target : Look) (world : World) → copy_refusal (look_of world source) target ≡ None → is_readable (map.get world.nodes source) ≡ true
unfolding look_at
copy_readable source target world is = (free_by (map.get world.nodes source) (is_blocked world.nodes source) (has_below world.nodes source) target is).0

copied_by : (path bytes : List ℕ) (here there : Option Node) (target : Look) → bytes_in here ≡ Some bytes → is_readable here ≡ true → takes_file target ≡ true → cond (has_bytes bytes there) Kept (puts_file path bytes target) ≡ cond (is_copied here there) Kept (copies path here target)
copied_by path bytes (Some (File x _)) there target is short taken =
    let same : x ≡ bytes = cc in
    subst (λ (v : List ℕ). cond (has_bytes bytes there) Kept (puts_file path bytes target) ≡ cond (nat_le (length v) MOST_FILE_BYTES && has_bytes v there) Kept (cond (takes_file target) (cond (nat_le (length v) MOST_FILE_BYTES) (Needs (PutFile path v)) (Fail TooLong)) (Fail Obstructed))) (sym same)
    (within (nat_le (length bytes) MOST_FILE_BYTES) (subst (λ (v : List ℕ). nat_le (length v) MOST_FILE_BYTES ≡ true) same short)) where
      within : (b : Bool) → b ≡ true → cond (has_bytes bytes there) Kept (puts_file path bytes target) ≡ cond (b && has_bytes bytes there) Kept (cond (takes_file target) (cond b (Needs (PutFile path bytes)) (Fail TooLong)) (Fail Obstructed))
      within true e = refl
      within false e = absurd (false≢true e)
copied_by path bytes (Some (Dir _)) there target is short taken = cc
copied_by path bytes None there target is short taken = cc

pub copy_decided : (source path bytes : List ℕ) (world : World) → bytes_in (map.get world.nodes source) ≡ Some bytes → copy_refusal (look_of world source) (look_of world path) ≡ None → cond (has_bytes bytes (map.get world.nodes path)) Kept (puts_file path bytes (look_of world path)) ≡ decision (act.Copy source path) world
unfolding look_at decision post needed
copy_decided source path bytes world is free =
    let allowed = free_by (map.get world.nodes source) (is_blocked world.nodes source) (has_below world.nodes source) (look_of world path) free in
    copied_by path bytes (map.get world.nodes source) (map.get world.nodes path) (look_of world path) is allowed.0 allowed.1

-- edits
unedited_by : (path : List ℕ) (script : List Edit) (reason : Reason) (here : Option Node) (blocked below : Bool) → edit_refusal (shows here blocked below) ≡ Some reason → Fail reason ≡ cond (is_settled script here) Kept (edits path script here)
unedited_by path script reason (Some (File bytes _)) blocked below is = by (is_short bytes) (leaves script bytes) (cond (is_utf8 bytes) (puts_lines path script (edited script (lines_of bytes))) (Fail NotText)) is where
  by : (s l : Bool) (more : Decision) → cond s None (Some TooLong) ≡ Some reason → Fail reason ≡ cond (s && l) Kept (cond s more (Fail TooLong))
  by true l more is = cc
  by false l more is = let same : TooLong ≡ reason = cc in ap Fail (sym same)
unedited_by path script reason (Some (Dir _)) blocked below is = let same : Obstructed ≡ reason = cc in ap Fail (sym same)
unedited_by path script reason None true below is = let same : Missing ≡ reason = cc in ap Fail (sym same)
unedited_by path script reason None false below is = let same : Missing ≡ reason = cc in ap Fail (sym same)

pub edit_refused : (path : List ℕ) (script : List Edit) (reason : Reason) (world : World) → edit_refusal (look_of world path) ≡ Some reason → Fail reason ≡ decision (act.Edit path script) world
unfolding look_at decision post needed
edit_refused path script reason world is = unedited_by path script reason (map.get world.nodes path) (is_blocked world.nodes path) (has_below world.nodes path) is

editable_by : (here : Option Node) (blocked below : Bool) → edit_refusal (shows here blocked below) ≡ None → is_readable here ≡ true
editable_by (Some (File bytes _)) blocked below is = by (nat_le (length bytes) MOST_FILE_BYTES) is where
  by : (s : Bool) → cond s None (Some TooLong) ≡ None → s ≡ true
  by true is = refl
  by false is = cc
editable_by (Some (Dir _)) blocked below is = cc
editable_by None true below is = cc
editable_by None false below is = cc

pub edit_readable : (path : List ℕ) (world : World) → edit_refusal (look_of world path) ≡ None → is_readable (map.get world.nodes path) ≡ true
unfolding look_at
edit_readable path world is = editable_by (map.get world.nodes path) (is_blocked world.nodes path) (has_below world.nodes path) is

same_order : (s u l : Bool) (more : Decision) → s ≡ true → cond u (cond l Kept more) (Fail NotText) ≡ cond (s && (u && l)) Kept (cond s (cond u more (Fail NotText)) (Fail TooLong))
same_order true true true more short = refl
same_order true true false more short = refl
same_order true false l more short = refl
same_order false u l more short = absurd (false≢true short)

of_file : (path : List ℕ) (script : List Edit) (bytes : List ℕ) → is_short bytes ≡ true → edit_decision path script bytes ≡ cond (is_short bytes && leaves script bytes) Kept (cond (is_short bytes) (cond (is_utf8 bytes) (puts_lines path script (edited script (lines_of bytes))) (Fail NotText)) (Fail TooLong))
unfolding edit_decision leaves
of_file path script bytes short = same_order (is_short bytes) (is_utf8 bytes) (are_left (edited script (lines_of bytes)) (lines_of bytes)) (puts_lines path script (edited script (lines_of bytes))) short

decided_by : (path : List ℕ) (script : List Edit) (bytes : List ℕ) (here : Option Node) → bytes_in here ≡ Some bytes → is_readable here ≡ true → edit_decision path script bytes ≡ cond (is_settled script here) Kept (edits path script here)
decided_by path script bytes (Some (File x _)) is short =
    let same : x ≡ bytes = cc in
    ap (edit_decision path script) (sym same) ∙ of_file path script x short
decided_by path script bytes (Some (Dir _)) is short = cc
decided_by path script bytes None is short = cc

pub edit_decided : (path : List ℕ) (script : List Edit) (bytes : List ℕ) (world : World) → bytes_in (map.get world.nodes path) ≡ Some bytes → is_readable (map.get world.nodes path) ≡ true → edit_decision path script bytes ≡ decision (act.Edit path script) world
unfolding decision post needed
edit_decided path script bytes world is short = decided_by path script bytes (map.get world.nodes path) is short

-- permissions
stands_by : (here : Option Node) (blocked below : Bool) → stands (shows here blocked below) ≡ is_some here
stands_by (Some (File _ _)) blocked below = refl
stands_by (Some (Dir _)) blocked below = refl
stands_by None true below = refl
stands_by None false below = refl

pub stands_there : (path : List ℕ) (world : World) → stands (look_of world path) ≡ map.contains_key world.nodes path
unfolding look_at
stands_there path world = stands_by (map.get world.nodes path) (is_blocked world.nodes path) (has_below world.nodes path)

missing_by : (path : List ℕ) (mode : Option ℕ) (owners groups : List (List ℕ)) (here : Option Node) → is_some here ≡ false → Fail Missing ≡ cond (has_perms mode owners groups (perms_in here)) Kept (sets_perms path mode owners groups (perms_in here))
missing_by path mode owners groups (Some _) lacks = absurd (false≢true (sym lacks))
missing_by path mode owners groups None lacks = refl

pub perms_missing : (path : List ℕ) (mode : Option ℕ) (owners groups : List (List ℕ)) (world : World) → map.contains_key world.nodes path ≡ false → Fail Missing ≡ decision (act.Perms path mode owners groups) world
unfolding decision post needed
perms_missing path mode owners groups world lacks = missing_by path mode owners groups (map.get world.nodes path) lacks

pub perms_decided : (path : List ℕ) (mode : Option ℕ) (owners groups : List (List ℕ)) (present : Perms) (world : World) → perms_in (map.get world.nodes path) ≡ Some present → perms_decision path mode owners groups present ≡ decision (act.Perms path mode owners groups) world
unfolding decision post needed
perms_decided path mode owners groups present world is =
    ap (λ (o : Option Perms). cond (has_perms mode owners groups o) Kept (sets_perms path mode owners groups o)) (sym is)

-- services
pub running_decided : (running : Bool) (name : List ℕ) (row : Option ServiceRow) (world : World) → row ≡ map.get world.services name → put_running running name row ≡ decision (running_act running name) world
unfolding decision post needed
running_decided true name row world is = subst (λ (o : Option ServiceRow). put_running true name row ≡ cond (has_row (λ r. r.running) o) Kept (puts_row name (with_running true) o)) is (by_row row) where
  by_row : (o : Option ServiceRow) → put_running true name o ≡ cond (has_row (λ r. r.running) o) Kept (puts_row name (with_running true) o)
  by_row None = refl
  by_row (Some r) = elim r.running as (λ b. cond (beq b true) Kept (Needs (PutService name (with_running true r))) ≡ cond b Kept (Needs (PutService name (with_running true r)))) [ true ↦ refl | false ↦ refl ]
running_decided false name row world is = subst (λ (o : Option ServiceRow). put_running false name row ≡ cond (has_row (λ r. not r.running) o) Kept (puts_row name (with_running false) o)) is (by_row row) where
  by_row : (o : Option ServiceRow) → put_running false name o ≡ cond (has_row (λ r. not r.running) o) Kept (puts_row name (with_running false) o)
  by_row None = refl
  by_row (Some r) = elim r.running as (λ b. cond (beq b false) Kept (Needs (PutService name (with_running false r))) ≡ cond (not b) Kept (Needs (PutService name (with_running false r)))) [ true ↦ refl | false ↦ refl ]

pub enabled_decided : (enabled : Bool) (name : List ℕ) (row : Option ServiceRow) (world : World) → row ≡ map.get world.services name → put_enabled enabled name row ≡ decision (enabled_act enabled name) world
unfolding decision post needed
enabled_decided true name row world is = subst (λ (o : Option ServiceRow). put_enabled true name row ≡ cond (has_row (λ r. r.enabled) o) Kept (puts_row name (with_enabled true) o)) is (by_row row) where
  by_row : (o : Option ServiceRow) → put_enabled true name o ≡ cond (has_row (λ r. r.enabled) o) Kept (puts_row name (with_enabled true) o)
  by_row None = refl
  by_row (Some r) = elim r.enabled as (λ b. cond (beq b true) Kept (Needs (PutService name (with_enabled true r))) ≡ cond b Kept (Needs (PutService name (with_enabled true r)))) [ true ↦ refl | false ↦ refl ]
enabled_decided false name row world is = subst (λ (o : Option ServiceRow). put_enabled false name row ≡ cond (has_row (λ r. not r.enabled) o) Kept (puts_row name (with_enabled false) o)) is (by_row row) where
  by_row : (o : Option ServiceRow) → put_enabled false name o ≡ cond (has_row (λ r. not r.enabled) o) Kept (puts_row name (with_enabled false) o)
  by_row None = refl
  by_row (Some r) = elim r.enabled as (λ b. cond (beq b false) Kept (Needs (PutService name (with_enabled false r))) ≡ cond (not b) Kept (Needs (PutService name (with_enabled false r)))) [ true ↦ refl | false ↦ refl ]

pub restart_decided : (name : List ℕ) (row : Option ServiceRow) (world : World) → row ≡ map.get world.services name → restarts name row ≡ decision (act.Restart name) world
unfolding decision post needed
restart_decided name row world is = ap (restarts name) is

pub bust_decided : (reason : Reason) (world : World) → Fail reason ≡ decision (act.Bust reason) world
unfolding decision post needed
bust_decided reason world = refl
