-- A needed change makes the post of its act.
use Rattle.std.proofs.Common.{◌≡◌, ℕ, List, [], ◌∷◌, length, Bool, true, false, cond, ◌||◌, ◌&&◌, not, Option, Some, None, is_some, refl, sym, ap, subst, ◌∙◌, arith}
use Rattle.std.proofs.lemmas.Bool.{false≢true, and_parts, and_from, eq-eqb, ne_eqb, not-false, or_parts, or_right, or_left}
use Rattle.std.specs.Prelude.{nat_le, nat_eq, slice_get}
use Rattle.std.specs.Cmp.Lexicographic.{pointwise}
use Rattle.std.specs.Option.{unwrap_or}
use Rattle.std.specs.Str.{bytes_eq}
use Rattle.std.specs.FinMap as map
use Rattle.cfa_base.specs.declared.limits.TheConstants.{MOST_FILE_BYTES}
use Rattle.cfa_base.specs.lemmas.TextMaps.{get-put}
use Rattle.cfa_base.specs.lemmas.EqualTexts.{same_text, is_text}
use Rattle.cfa_outside.specs.declared.worlds.World.{World}
use Rattle.cfa_outside.specs.declared.worlds.Node.{Node}
use Rattle.cfa_outside.specs.declared.worlds.Node.TheVariants.{File, Dir}
use Rattle.cfa_outside.specs.declared.worlds.Perms.{Perms}
use Rattle.cfa_outside.specs.declared.worlds.ServiceRow.{ServiceRow}
use Rattle.cfa_outside.specs.declared.sites.Change.{Change}
use Rattle.cfa_outside.specs.declared.sites.Change.TheVariants.{PutFile, SetPerms, PutService}
use Rattle.cfa_outside.specs.Worlds.{is_file, is_directory, file_with, with_perms, bytes_in, perms_in}
use Rattle.cfa_outside.specs.Sites.{after_change}
use Rattle.cfa_edits.specs.declared.edits.Edit.{Edit}
use Rattle.cfa_acts.specs.declared.acts.Act.TheVariants as act
use Rattle.cfa_acts.specs.Acts.{has_bytes, is_copied, is_listed, is_mode, are_perms, has_perms, has_row, post, listed_or_first, asked_perms, with_running, with_enabled}
use Rattle.cfa_acts.specs.Disturbs.{modes_differ, lists_differ}
use Rattle.cfa_acts.specs.Settling.{is_short, leaves as leaves_lines, is_settled}
use Rattle.cfa_acts.specs.Laws.{NeededMakesPost}
use Rattle.cfa_acts.proofs.Needs.{create_needs, make_dir_needs, delete_needs, content_needs, copy_needs, edit_needs, perms_needs, start_needs, stop_needs, enable_needs, disable_needs, bust_needs, RowNeeds, perms_there}
use Rattle.cfa_acts.proofs.Effects.{leaves, put_there, directory_there, removed_there}

-- what stands at a path, where a test of it passes
pub record At (T : Option Node → Bool) (here : Option Node) : Type 0 where
  pub node : Node
  pub is : here ≡ Some node
  pub holds : T (Some node) ≡ true

pub at : (T : Option Node → Bool) (here : Option Node) → T None ≡ false → T here ≡ true → At T here
at T (Some n) none holds = record { node = n; is = refl; holds = holds }
at T None none holds = absurd (false≢true (sym none ∙ holds))

pub made_file : (bytes : List ℕ) (here : Option Node) → is_file (Some (file_with bytes here)) ≡ true
made_file bytes (Some (File _ _)) = refl
made_file bytes (Some (Dir _)) = refl
made_file bytes None = refl

pub made_bytes : (bytes : List ℕ) (here : Option Node) → has_bytes bytes (Some (file_with bytes here)) ≡ true
made_bytes bytes (Some (File _ _)) = same_text bytes
made_bytes bytes (Some (Dir _)) = same_text bytes
made_bytes bytes None = same_text bytes

pub made_perms : (bytes : List ℕ) (n : Node) → is_directory (Some n) ≡ false → perms_in (Some (file_with bytes (Some n))) ≡ perms_in (Some n)
made_perms bytes (File _ _) is = refl
made_perms bytes (Dir _) is = absurd (false≢true (sym is))

pub made_settled : (script : List Edit) (text : List ℕ) (here : Option Node) → is_short text ≡ true → leaves_lines script text ≡ true → is_settled script (Some (file_with text here)) ≡ true
made_settled script text (Some (File _ _)) short left = and_from (is_short text) (leaves_lines script text) short left
made_settled script text (Some (Dir _)) short left = and_from (is_short text) (leaves_lines script text) short left
made_settled script text None short left = and_from (is_short text) (leaves_lines script text) short left

pub set_settled : (script : List Edit) (perms : Perms) (n : Node) → is_settled script (Some (with_perms perms n)) ≡ is_settled script (Some n)
set_settled script perms (File _ _) = refl
set_settled script perms (Dir _) = refl

pub set_file : (perms : Perms) (n : Node) → is_file (Some (with_perms perms n)) ≡ is_file (Some n)
set_file perms (File _ _) = refl
set_file perms (Dir _) = refl

pub set_bytes : (bytes : List ℕ) (perms : Perms) (n : Node) → has_bytes bytes (Some (with_perms perms n)) ≡ has_bytes bytes (Some n)
set_bytes bytes perms (File _ _) = refl
set_bytes bytes perms (Dir _) = refl

pub set_perms_in : (perms : Perms) (n : Node) → perms_in (Some (with_perms perms n)) ≡ Some perms
set_perms_in perms (File _ _) = refl
set_perms_in perms (Dir _) = refl

read_bytes : (bytes : List ℕ) (here : Option Node) → bytes_in here ≡ Some bytes → has_bytes bytes here ≡ true
read_bytes bytes (Some (File x _)) is = let e : x ≡ bytes = cc in ap (λ (v : List ℕ). bytes_eq v bytes) e ∙ same_text bytes
read_bytes bytes (Some (Dir _)) is = cc
read_bytes bytes None is = cc

-- a copy, and what makes one
pub record Copied (source copy : Option Node) : Type 0 where
  pub bytes : List ℕ
  pub source_has : has_bytes bytes source ≡ true
  pub short : nat_le (length bytes) MOST_FILE_BYTES ≡ true
  pub copy_has : has_bytes bytes copy ≡ true

pub copied : (source copy : Option Node) → is_copied source copy ≡ true → Copied source copy
copied (Some (File bytes _)) copy is =
    let parts = and_parts (nat_le (length bytes) MOST_FILE_BYTES) (has_bytes bytes copy) is in
    record { bytes = bytes; source_has = same_text bytes; short = parts.0; copy_has = parts.1 }
copied (Some (Dir _)) copy is = absurd (false≢true is)
copied None copy is = absurd (false≢true is)

pub copies_as : (bytes : List ℕ) (source copy : Option Node) → has_bytes bytes source ≡ true → nat_le (length bytes) MOST_FILE_BYTES ≡ true → has_bytes bytes copy ≡ true → is_copied source copy ≡ true
copies_as bytes (Some (File x _)) copy source_has short copy_has =
    let e : x ≡ bytes = is_text x bytes source_has in
    and_from (nat_le (length x) MOST_FILE_BYTES) (has_bytes x copy)
    (ap (λ (v : List ℕ). nat_le (length v) MOST_FILE_BYTES) e ∙ short)
    (ap (λ (v : List ℕ). has_bytes v copy) e ∙ copy_has)
copies_as bytes (Some (Dir _)) copy source_has short copy_has = absurd (false≢true source_has)
copies_as bytes None copy source_has short copy_has = absurd (false≢true source_has)

-- permissions that are asked for are those that are asked of them
nonzero : (x : List ℕ) (xs : List (List ℕ)) → nat_eq (length (x ∷ xs)) 0 ≡ false
nonzero x xs = ne_eqb (length (x ∷ xs)) 0 (λ e. absurd (omega arith))

asked_mode : (mode : Option ℕ) (present : ℕ) → is_mode mode (unwrap_or mode present) ≡ true
asked_mode None present = refl
asked_mode (Some m) present = eq-eqb m m refl

asked_name : (names : List (List ℕ)) (present : List ℕ) → is_listed names (listed_or_first names present) ≡ true
asked_name names present =
    elim (is_listed names present) as (λ b. is_listed names present ≡ b → is_listed names (cond b present (unwrap_or (slice_get names 0) present)) ≡ true) [
      | true ↦ λ is. is
      | false ↦ λ lacks. first names lacks
    ] refl where
      first : (list : List (List ℕ)) → is_listed list present ≡ false → is_listed list (unwrap_or (slice_get list 0) present) ≡ true
      first [] lacks = refl
      first (x ∷ xs) lacks = or_right (nat_eq (length (x ∷ xs)) 0) _ (or_left (bytes_eq x x) _ (same_text x))

asked_are : (mode : Option ℕ) (owners groups : List (List ℕ)) (present : Perms) → are_perms mode owners groups (asked_perms mode owners groups present) ≡ true
asked_are mode owners groups present =
    and_from (is_mode mode (unwrap_or mode present.mode)) _ (asked_mode mode present.mode)
    (and_from (is_listed owners (listed_or_first owners present.owner)) _ (asked_name owners present.owner) (asked_name groups present.group))

-- what is asked for by another act that asks for nothing else leaves what is asked
kept_mode : (mode other : Option ℕ) (present : ℕ) → is_mode mode present ≡ true → modes_differ mode other ≡ false → is_mode mode (unwrap_or other present) ≡ true
kept_mode None other present is fit = refl
kept_mode (Some m) None present is fit = is
kept_mode (Some m) (Some o) present is fit = not-false (nat_eq m o) fit

kept_name : (names others : List (List ℕ)) (present : List ℕ) → is_listed names present ≡ true → lists_differ names others ≡ false → is_listed names (listed_or_first others present) ≡ true
kept_name names others present is alikes =
    elim (is_listed others present) as (λ b. is_listed others present ≡ b → is_listed names (cond b present (unwrap_or (slice_get others 0) present)) ≡ true) [
      | true ↦ λ _. is
      | false ↦ λ lacks. first names others lacks alikes
    ] refl where
      agree : (a b c : Bool) → a ≡ false → b ≡ false → (not a && (not b && not c)) ≡ false → c ≡ true
      agree true b c ea eb e = absurd (false≢true (sym ea))
      agree false true c ea eb e = absurd (false≢true (sym eb))
      agree false false c ea eb e = not-false c e

      first : (list other : List (List ℕ)) → is_listed other present ≡ false → lists_differ list other ≡ false → is_listed list (unwrap_or (slice_get other 0) present) ≡ true
      first list [] lacks fit = absurd (false≢true (sym lacks))
      first [] (y ∷ ys) lacks fit = refl
      first (x ∷ xs) (y ∷ ys) lacks fit =
          let all : pointwise bytes_eq (x ∷ xs) (y ∷ ys) ≡ true = agree (nat_eq (length (x ∷ xs)) 0) (nat_eq (length (y ∷ ys)) 0) (pointwise bytes_eq (x ∷ xs) (y ∷ ys)) (nonzero x xs) (nonzero y ys) fit in
          or_right (nat_eq (length (x ∷ xs)) 0) _ (or_left (bytes_eq x y) _ (and_parts (bytes_eq x y) (pointwise bytes_eq xs ys) all).0)

pub kept_perms : (mode other : Option ℕ) (owners groups os gs : List (List ℕ)) (present : Perms) → are_perms mode owners groups present ≡ true → (modes_differ mode other || (lists_differ owners os || lists_differ groups gs)) ≡ false → are_perms mode owners groups (asked_perms other os gs present) ≡ true
kept_perms mode other owners groups os gs present are fit =
    let a = and_parts (is_mode mode present.mode) (is_listed owners present.owner && is_listed groups present.group) are in
    let b = and_parts (is_listed owners present.owner) (is_listed groups present.group) a.1 in
    let x = or_parts (modes_differ mode other) (lists_differ owners os || lists_differ groups gs) fit in
    let y = or_parts (lists_differ owners os) (lists_differ groups gs) x.1 in
    and_from (is_mode mode (unwrap_or other present.mode)) _ (kept_mode mode other present.mode a.0 x.0)
    (and_from (is_listed owners (listed_or_first os present.owner)) _ (kept_name owners os present.owner b.0 y.0) (kept_name groups gs present.group b.1 y.1))

-- the row of a service after a change
pub row_put : (world : World) (name other : List ℕ) (row : ServiceRow) → map.get (after_change (PutService name row) world).services other ≡ cond (bytes_eq name other) (Some row) (map.get world.services other)
unfolding after_change
row_put world name other row = get-put world.services name row other

row_there : (world : World) (name : List ℕ) (row : ServiceRow) → map.get (after_change (PutService name row) world).services name ≡ Some row
row_there world name row = row_put world name name row ∙ ap (λ b. cond b (Some row) (map.get world.services name)) (same_text name)

-- a needed change makes the post
made_row : (name : List ℕ) (changed : ServiceRow → ServiceRow) (test : ServiceRow → Bool) (world : World) (change : Change) → ((row : ServiceRow) → test (changed row) ≡ true) → RowNeeds name changed (map.get world.services name) change → has_row test (map.get (after_change change world).services name) ≡ true
made_row name changed test world change passes need =
    subst (λ (c : Change). has_row test (map.get (after_change c world).services name) ≡ true) need.put
    (ap (has_row test) (row_there world name (changed need.row)) ∙ passes need.row)

made_copy : (source path bytes : List ℕ) (world : World) → bytes_in (map.get world.nodes source) ≡ Some bytes → nat_le (length bytes) MOST_FILE_BYTES ≡ true → is_copied (map.get (after_change (PutFile path bytes) world).nodes source) (map.get (after_change (PutFile path bytes) world).nodes path) ≡ true
made_copy source path bytes world read short =
    let found = at (has_bytes bytes) (map.get world.nodes source) refl (read_bytes bytes (map.get world.nodes source) read) in
    copies_as bytes _ _
    (ap (has_bytes bytes) (leaves (PutFile path bytes) world source found.node found.is) ∙ either found.node found.holds (bytes_eq path source))
    short
    (ap (has_bytes bytes) (put_there world path bytes) ∙ made_bytes bytes (map.get world.nodes path)) where
      either : (n : Node) → has_bytes bytes (Some n) ≡ true → (b : Bool) → has_bytes bytes (cond b (Some (file_with bytes (Some n))) (Some n)) ≡ true
      either n holds true = made_bytes bytes (Some n)
      either n holds false = holds

made_set : (path : List ℕ) (mode : Option ℕ) (owners groups : List (List ℕ)) (present : Perms) (world : World) (found : At (λ here. is_some here) (map.get world.nodes path)) → has_perms mode owners groups (perms_in (map.get (after_change (SetPerms path (asked_perms mode owners groups present)) world).nodes path)) ≡ true
made_set path mode owners groups present world found =
    ap (λ (o : Option Node). has_perms mode owners groups (perms_in o))
    (leaves (SetPerms path (asked_perms mode owners groups present)) world path found.node found.is
    ∙ ap (λ b. cond b (Some (with_perms (asked_perms mode owners groups present) found.node)) (Some found.node)) (same_text path))
    ∙ ap (has_perms mode owners groups) (set_perms_in (asked_perms mode owners groups present) found.node)
    ∙ asked_are mode owners groups present

pub made_post : NeededMakesPost
unfolding post
made_post (act.Create path) world change lasts e =
    let need = create_needs path world change e in
    subst (λ (c : Change). is_file (map.get (after_change c world).nodes path) ≡ true) need.0 (ap is_file (put_there world path []) ∙ made_file [] (map.get world.nodes path))
made_post (act.MakeDir path) world change lasts e =
    let need = make_dir_needs path world change e in
    subst (λ (c : Change). is_directory (map.get (after_change c world).nodes path) ≡ true) need.0 (ap is_directory (directory_there world path))
made_post (act.Delete path dirs) world change lasts e =
    let need = delete_needs path dirs world change e in
    subst (λ (c : Change). not (is_some (map.get (after_change c world).nodes path)) ≡ true) need.0 (ap (λ (o : Option Node). not (is_some o)) (removed_there world path))
made_post (act.Content path bytes) world change lasts e =
    let need = content_needs path bytes world change e in
    subst (λ (c : Change). has_bytes bytes (map.get (after_change c world).nodes path) ≡ true) need.0 (ap (has_bytes bytes) (put_there world path bytes) ∙ made_bytes bytes (map.get world.nodes path))
made_post (act.Copy source path) world change lasts e =
    let need = copy_needs source path world change e in
    subst (λ (c : Change). is_copied (map.get (after_change c world).nodes source) (map.get (after_change c world).nodes path) ≡ true) need.put (made_copy source path need.bytes world need.read need.short)
made_post (act.Edit path script) world change lasts e =
    let need = edit_needs path script world change e in
    subst (λ (c : Change). is_settled script (map.get (after_change c world).nodes path) ≡ true) need.put
    (ap (is_settled script) (put_there world path need.text) ∙ made_settled script need.text (map.get world.nodes path) need.short need.left)
made_post (act.Perms path mode owners groups) world change lasts e =
    let need = perms_needs path mode owners groups world change e in
    subst (λ (c : Change). has_perms mode owners groups (perms_in (map.get (after_change c world).nodes path)) ≡ true) need.set
    (made_set path mode owners groups need.present world (at (λ here. is_some here) (map.get world.nodes path) refl (perms_there (map.get world.nodes path) need.present need.there)))
made_post (act.Start name) world change lasts e = made_row name (with_running true) (λ row. row.running) world change (λ row. refl) (start_needs name world change e)
made_post (act.Stop name) world change lasts e = made_row name (with_running false) (λ row. not row.running) world change (λ row. refl) (stop_needs name world change e)
made_post (act.Enable name) world change lasts e = made_row name (with_enabled true) (λ row. row.enabled) world change (λ row. refl) (enable_needs name world change e)
made_post (act.Disable name) world change lasts e = made_row name (with_enabled false) (λ row. not row.enabled) world change (λ row. refl) (disable_needs name world change e)
made_post (act.Restart name) world change lasts e = absurd (false≢true (sym lasts))
made_post (act.Bust reason) world change lasts e = absurd (bust_needs reason world change e)
