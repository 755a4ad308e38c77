-- A needed change keeps the post of each act that its act doesn't disturb.
use Rattle.std.proofs.Common.{◌≡◌, ℕ, List, [], Bool, true, false, cond, ◌||◌, ◌&&◌, not, Option, Some, None, is_some, IsTrue, refl, sym, ap, subst, ◌∙◌}
use Rattle.std.proofs.lemmas.Bool.{false≢true, and_parts, not-false, or_parts, or_left, or_right}
use Rattle.std.specs.Str.{bytes_eq}
use Rattle.std.specs.FinMap as map
use Rattle.cfa_base.specs.lemmas.EqualTexts.{same_text, is_text}
use Rattle.cfa_outside.specs.declared.worlds.World.{World}
use Rattle.cfa_outside.specs.declared.worlds.Node.{Node}
use Rattle.cfa_outside.specs.declared.worlds.Node.TheVariants.{File}
use Rattle.cfa_outside.specs.declared.worlds.Perms.{Perms}
use Rattle.cfa_outside.specs.declared.worlds.ServiceRow.{ServiceRow}
use Rattle.cfa_outside.specs.declared.sites.Change.{Change}
use Rattle.cfa_outside.specs.declared.sites.Change.TheVariants.{PutFile, PutDir, Remove, SetPerms, PutService}
use Rattle.cfa_outside.specs.Worlds.{HasParents, is_file, is_directory, file_with, with_perms, perms_in, new_directory}
use Rattle.cfa_outside.specs.Sites.{after_change}
use Rattle.cfa_outside.specs.lemmas.Kinds.{set_directory}
use Rattle.cfa_edits.specs.declared.edits.Edit.{Edit}
use Rattle.cfa_edits.specs.Scripts.{AreEdits, script_text}
use Rattle.cfa_edits.specs.Laws.{TextsTellScripts}
use Rattle.cfa_acts.specs.declared.acts.Act.{Act}
use Rattle.cfa_acts.specs.declared.acts.Act.TheVariants as act
use Rattle.cfa_acts.specs.declared.acts.Decision.TheVariants.{Needs}
use Rattle.cfa_acts.specs.Acts.{has_bytes, is_copied, has_perms, has_row, post, decision, asked_perms, with_running, with_enabled, restarted}
use Rattle.cfa_acts.specs.Disturbs.{modes_differ, lists_differ, disturbs}
use Rattle.cfa_acts.specs.Settling.{is_settled, keeps_content}
use Rattle.cfa_acts.specs.Laws.{HasScript, NeededKeepsPost}
use Rattle.cfa_acts.proofs.Needs.{unmet, create_needs, make_dir_needs, delete_needs, content_needs, copy_needs, takes_no_directory, edit_needs, perms_needs, start_needs, stop_needs, enable_needs, disable_needs, restart_needs, bust_needs, RowNeeds}
use Rattle.cfa_acts.proofs.Effects.{apart, left, leaves, may_make, stays_clear, put_over}
use Rattle.cfa_acts.proofs.Posts.{at, made_file, made_bytes, made_perms, set_file, set_bytes, set_perms_in, copied, copies_as, kept_perms, row_put, set_settled}
use Rattle.cfa_acts.proofs.Settled.{settled_content}

-- the node at a path after a change
abbrev node_after : Change → World → List ℕ → Option Node
node_after change world r = map.get (after_change change world).nodes r

-- what stands after a change that is known
out_of : (change known : Change) (world : World) (r : List ℕ) (n : Node) → known ≡ change → map.get world.nodes r ≡ Some n → node_after change world r ≡ left known r n
out_of change known world r n is here = leaves change world r n here ∙ ap (λ (c : Change). left c r n) (sym is)

split : {G : Type 0} (b : Bool) (x y after : Option Node) → after ≡ cond b x y → (b ≡ true → after ≡ x → G) → (b ≡ false → after ≡ y → G) → G
split true x y after e mine others = mine refl e
split false x y after e mine others = others refl e

-- what another act may do at a path where a node stands
record Handlers (G : Type 0) (later : Act) (change : Change) (world : World) (r : List ℕ) (n : Node) : Type 0 where
  stays : node_after change world r ≡ Some n → G
  deleted : (dirs : Bool) → later ≡ act.Delete r dirs → G
  content : (v : List ℕ) → later ≡ act.Content r v → is_directory (Some n) ≡ false → node_after change world r ≡ Some (file_with v (Some n)) → G
  edit : (t : List Edit) (v : List ℕ) → later ≡ act.Edit r t → is_directory (Some n) ≡ false → node_after change world r ≡ Some (file_with v (Some n)) → G
  copy : (s v : List ℕ) → later ≡ act.Copy s r → is_directory (Some n) ≡ false → node_after change world r ≡ Some (file_with v (Some n)) → G
  perms : (mode : Option ℕ) (owners groups : List (List ℕ)) (present : Perms) → later ≡ act.Perms r mode owners groups → perms_in (Some n) ≡ Some present → node_after change world r ≡ Some (with_perms (asked_perms mode owners groups present) n) → G

row_stays : {G : Type 0} (name : List ℕ) (changed : ServiceRow → ServiceRow) (here : Option ServiceRow) (later : Act) (change : Change) (world : World) (r : List ℕ) (n : Node) → map.get world.nodes r ≡ Some n → RowNeeds name changed here change → Handlers G later change world r n → G
row_stays name changed here later change world r n is need h = h.stays (out_of change (PutService name (changed need.row)) world r n need.put is)

meets : {G : Type 0} (later : Act) (change : Change) (world : World) (r : List ℕ) (n : Node) → map.get world.nodes r ≡ Some n → decision later world ≡ Needs change → Handlers G later change world r n → G
meets (act.Create q) change world r n here e h =
    let need = create_needs q world change e in
    h.stays (out_of change (PutFile q []) world r n need.0 here ∙ ap (λ b. cond b (Some (file_with [] (Some n))) (Some n)) (apart world.nodes q r n need.1.0 here))
meets (act.MakeDir q) change world r n here e h =
    let need = make_dir_needs q world change e in
    h.stays (out_of change (PutDir q) world r n need.0 here ∙ ap (λ b. cond b (Some new_directory) (Some n)) (apart world.nodes q r n need.1.0 here))
meets (act.Delete q dirs) change world r n here e h =
    let need = delete_needs q dirs world change e in
    split (bytes_eq q r) None (Some n) (node_after change world r) (out_of change (Remove q) world r n need.0 here)
    (λ is _. h.deleted dirs (ap (λ (p : List ℕ). act.Delete p dirs) (is_text q r is)))
    (λ _ out. h.stays out)
meets (act.Content q v) change world r n here e h =
    let need = content_needs q v world change e in
    split (bytes_eq q r) (Some (file_with v (Some n))) (Some n) (node_after change world r) (out_of change (PutFile q v) world r n need.0 here)
    (λ is out. h.content v (ap (λ (p : List ℕ). act.Content p v) (is_text q r is)) (ap is_directory (sym here ∙ sym (ap (map.get world.nodes) (is_text q r is))) ∙ need.1.0) out)
    (λ _ out. h.stays out)
meets (act.Copy s q) change world r n here e h =
    let need = copy_needs s q world change e in
    split (bytes_eq q r) (Some (file_with need.bytes (Some n))) (Some n) (node_after change world r) (out_of change (PutFile q need.bytes) world r n need.put here)
    (λ is out. h.copy s need.bytes (ap (act.Copy s) (is_text q r is)) (ap is_directory (sym here ∙ sym (ap (map.get world.nodes) (is_text q r is))) ∙ takes_no_directory q world need.takes) out)
    (λ _ out. h.stays out)
meets (act.Edit q t) change world r n here e h =
    let need = edit_needs q t world change e in
    split (bytes_eq q r) (Some (file_with need.text (Some n))) (Some n) (node_after change world r) (out_of change (PutFile q need.text) world r n need.put here)
    (λ is out. h.edit t need.text (ap (λ (p : List ℕ). act.Edit p t) (is_text q r is)) (ap is_directory (sym here ∙ sym (ap (map.get world.nodes) (is_text q r is)) ∙ need.there)) out)
    (λ _ out. h.stays out)
meets (act.Perms q mode owners groups) change world r n here e h =
    let need = perms_needs q mode owners groups world change e in
    split (bytes_eq q r) (Some (with_perms (asked_perms mode owners groups need.present) n)) (Some n) (node_after change world r) (out_of change (SetPerms q (asked_perms mode owners groups need.present)) world r n need.set here)
    (λ is out. h.perms mode owners groups need.present (ap (λ (p : List ℕ). act.Perms p mode owners groups) (is_text q r is)) (ap perms_in (sym here ∙ sym (ap (map.get world.nodes) (is_text q r is))) ∙ need.there) out)
    (λ _ out. h.stays out)
meets (act.Start name) change world r n here e h = row_stays name (with_running true) (map.get world.services name) (act.Start name) change world r n here (start_needs name world change e) h
meets (act.Stop name) change world r n here e h = row_stays name (with_running false) (map.get world.services name) (act.Stop name) change world r n here (stop_needs name world change e) h
meets (act.Enable name) change world r n here e h = row_stays name (with_enabled true) (map.get world.services name) (act.Enable name) change world r n here (enable_needs name world change e) h
meets (act.Disable name) change world r n here e h = row_stays name (with_enabled false) (map.get world.services name) (act.Disable name) change world r n here (disable_needs name world change e) h
meets (act.Restart name) change world r n here e h = row_stays name restarted (map.get world.services name) (act.Restart name) change world r n here (restart_needs name world change e) h
meets (act.Bust reason) change world r n here e h = absurd (bust_needs reason world change e)

-- an act that is known doesn't disturb
known : (held later is : Act) → later ≡ is → disturbs later held ≡ false → disturbs is held ≡ false
known held later is e quiet = subst (λ (a : Act). disturbs a held ≡ false) e quiet

clash : (p : List ℕ) → bytes_eq p p ≡ false → ⊥
clash p e = false≢true (sym e ∙ same_text p)

lasts_create : (r : List ℕ) (later : Act) (world : World) (change : Change) → is_file (map.get world.nodes r) ≡ true → decision later world ≡ Needs change → disturbs later (act.Create r) ≡ false → is_file (node_after change world r) ≡ true
unfolding disturbs
lasts_create r later world change holds e quiet =
    let found = at is_file (map.get world.nodes r) refl holds in
    meets later change world r found.node found.is e (record {
      stays = λ out. ap is_file out ∙ found.holds;
      deleted = λ dirs is. absurd (clash r (known (act.Create r) later (act.Delete r dirs) is quiet));
      content = λ v is no_directory out. ap is_file out ∙ made_file v (Some found.node);
      edit = λ t v is no_directory out. ap is_file out ∙ made_file v (Some found.node);
      copy = λ s v is no_directory out. ap is_file out ∙ made_file v (Some found.node);
      perms = λ mode owners groups present is there out. ap is_file out ∙ set_file (asked_perms mode owners groups present) found.node ∙ found.holds;
    })

lasts_make_dir : (r : List ℕ) (later : Act) (world : World) (change : Change) → is_directory (map.get world.nodes r) ≡ true → decision later world ≡ Needs change → disturbs later (act.MakeDir r) ≡ false → is_directory (node_after change world r) ≡ true
unfolding disturbs
lasts_make_dir r later world change holds e quiet =
    let found = at is_directory (map.get world.nodes r) refl holds in
    meets later change world r found.node found.is e (record {
      stays = λ out. ap is_directory out ∙ found.holds;
      deleted = λ dirs is. absurd (clash r (known (act.MakeDir r) later (act.Delete r dirs) is quiet));
      content = λ v is no_directory out. absurd (false≢true (sym no_directory ∙ found.holds));
      edit = λ t v is no_directory out. absurd (false≢true (sym no_directory ∙ found.holds));
      copy = λ s v is no_directory out. absurd (false≢true (sym no_directory ∙ found.holds));
      perms = λ mode owners groups present is there out. ap is_directory out ∙ set_directory (asked_perms mode owners groups present) found.node ∙ found.holds;
    })

-- the bytes of a file that no other act deletes or gives other bytes
lasts_bytes : (r bytes : List ℕ) (later : Act) (world : World) (change : Change) → has_bytes bytes (map.get world.nodes r) ≡ true → decision later world ≡ Needs change → ((dirs : Bool) → later ≡ act.Delete r dirs → ⊥) → ((v : List ℕ) → later ≡ act.Content r v → bytes ≡ v) → ((t : List Edit) → later ≡ act.Edit r t → ⊥) → ((s : List ℕ) → later ≡ act.Copy s r → ⊥) → has_bytes bytes (node_after change world r) ≡ true
lasts_bytes r bytes later world change holds e not_deleted same_content not_edited not_copied =
    let found = at (has_bytes bytes) (map.get world.nodes r) refl holds in
    meets later change world r found.node found.is e (record {
      stays = λ out. ap (has_bytes bytes) out ∙ found.holds;
      deleted = λ dirs is. absurd (not_deleted dirs is);
      content = λ v is no_directory out. ap (has_bytes bytes) out ∙ ap (λ (x : List ℕ). has_bytes x (Some (file_with v (Some found.node)))) (same_content v is) ∙ made_bytes v (Some found.node);
      edit = λ t v is no_directory out. absurd (not_edited t is);
      copy = λ s v is no_directory out. absurd (not_copied s is);
      perms = λ mode owners groups present is there out. ap (has_bytes bytes) out ∙ set_bytes bytes (asked_perms mode owners groups present) found.node ∙ found.holds;
    })

not_both : (a b : Bool) → (a && not b) ≡ false → a ≡ true → b ≡ true
not_both true b e is = not-false b e
not_both false b e is = absurd (false≢true is)

-- an act whose post holds needs nothing
met : (later : Act) (world : World) (change : Change) → decision later world ≡ Needs change → (is : Act) → later ≡ is → post is world ≡ true → ⊥
met later world change e is same_act holds = false≢true (sym (unmet later world change e).0 ∙ ap (λ (a : Act). post a world) same_act ∙ holds)

lasts_content : (r bytes : List ℕ) (later : Act) (world : World) (change : Change) → has_bytes bytes (map.get world.nodes r) ≡ true → decision later world ≡ Needs change → disturbs later (act.Content r bytes) ≡ false → has_bytes bytes (node_after change world r) ≡ true
unfolding disturbs post
lasts_content r bytes later world change holds e quiet =
    lasts_bytes r bytes later world change holds e
    (λ dirs is. clash r (or_parts (bytes_eq r r) false (known (act.Content r bytes) later (act.Delete r dirs) is quiet)).0)
    (λ v is. is_text bytes v (not_both (bytes_eq r r) (bytes_eq bytes v) (known (act.Content r bytes) later (act.Content r v) is quiet) (same_text r)))
    (λ t is. met later world change e (act.Edit r t) is
    (settled_content t bytes (map.get world.nodes r) (not_both (bytes_eq r r) (keeps_content t bytes) (known (act.Content r bytes) later (act.Edit r t) is quiet) (same_text r)) holds))
    (λ s is. clash r (known (act.Content r bytes) later (act.Copy s r) is quiet))

-- the lines of a file that no other act deletes, gives other bytes that the script changes, or edits by another script
lasts_edit : (r : List ℕ) (script : List Edit) (later : Act) (world : World) (change : Change) → TextsTellScripts → AreEdits script → HasScript later → is_settled script (map.get world.nodes r) ≡ true → decision later world ≡ Needs change → disturbs later (act.Edit r script) ≡ false → is_settled script (node_after change world r) ≡ true
unfolding disturbs post
lasts_edit r script later world change tell are later_are holds e quiet =
    let found = at (is_settled script) (map.get world.nodes r) refl holds in
    meets later change world r found.node found.is e (record {
      stays = λ out. ap (is_settled script) out ∙ found.holds;
      deleted = λ dirs is. absurd (clash r (or_parts (bytes_eq r r) false (known (act.Edit r script) later (act.Delete r dirs) is quiet)).0);
      content = λ v is no_directory out.
          ap (is_settled script) out
          ∙ settled_content script v (Some (file_with v (Some found.node))) (not_both (bytes_eq r r) (keeps_content script v) (known (act.Edit r script) later (act.Content r v) is quiet) (same_text r)) (made_bytes v (Some found.node));
      edit = λ t v is no_directory out.
          let texts : script_text script ≡ script_text t = is_text (script_text script) (script_text t) (not_both (bytes_eq r r) (bytes_eq (script_text script) (script_text t)) (known (act.Edit r script) later (act.Edit r t) is quiet) (same_text r)) in
          let scripts : script ≡ t = tell script t are (subst HasScript is later_are) texts in
          absurd (met later world change e (act.Edit r t) is (ap (λ (s : List Edit). is_settled s (map.get world.nodes r)) (sym scripts) ∙ holds));
      copy = λ s v is no_directory out. absurd (clash r (known (act.Edit r script) later (act.Copy s r) is quiet));
      perms = λ mode owners groups present is there out. ap (is_settled script) out ∙ set_settled script (asked_perms mode owners groups present) found.node ∙ found.holds;
    })

-- a copy isn't needed where the same copy holds
no_same_copy : (source path s r : List ℕ) (later : Act) (world : World) (change : Change) → IsTrue (post (act.Copy source path) world) → decision later world ≡ Needs change → later ≡ act.Copy s r → (bytes_eq source s && bytes_eq path r) ≡ true → ⊥
no_same_copy source path s r later world change holds e is both =
    let parts = and_parts (bytes_eq source s) (bytes_eq path r) both in
    let here : later ≡ act.Copy source path = is ∙ ap (λ (x : List ℕ). act.Copy x r) (sym (is_text source s parts.0)) ∙ ap (act.Copy source) (sym (is_text path r parts.1)) in
    false≢true (sym (unmet later world change e).0 ∙ ap (λ (a : Act). post a world) here ∙ holds)

-- neither the source nor the target of a copy is changed
module _ (source path r : List ℕ) (later : Act) (world : World) (change : Change) (holds : IsTrue (post (act.Copy source path) world)) (e : decision later world ≡ Needs change) (quiet : disturbs later (act.Copy source path) ≡ false) (of_copy : (bytes_eq source r || bytes_eq path r) ≡ true) where
  copy_bytes : (bytes : List ℕ) → has_bytes bytes (map.get world.nodes r) ≡ true → has_bytes bytes (node_after change world r) ≡ true
  unfolding disturbs
  copy_bytes bytes has =
      lasts_bytes r bytes later world change has e
      (λ dirs is. false≢true (sym (known (act.Copy source path) later (act.Delete r dirs) is quiet) ∙ of_copy))
      (λ v is. absurd (false≢true (sym (known (act.Copy source path) later (act.Content r v) is quiet) ∙ of_copy)))
      (λ t is. false≢true (sym (known (act.Copy source path) later (act.Edit r t) is quiet) ∙ of_copy))
      (λ s is. no_same_copy source path s r later world change holds e is
      (not_both (bytes_eq source r || bytes_eq path r) (bytes_eq source s && bytes_eq path r) (known (act.Copy source path) later (act.Copy s r) is quiet) of_copy))

lasts_copy : (source path : List ℕ) (later : Act) (world : World) (change : Change) → IsTrue (post (act.Copy source path) world) → is_copied (map.get world.nodes source) (map.get world.nodes path) ≡ true → decision later world ≡ Needs change → disturbs later (act.Copy source path) ≡ false → is_copied (node_after change world source) (node_after change world path) ≡ true
lasts_copy source path later world change holds is e quiet =
    let found = copied (map.get world.nodes source) (map.get world.nodes path) is in
    copies_as found.bytes (node_after change world source) (node_after change world path)
    (copy_bytes source path source later world change holds e quiet (or_left (bytes_eq source source) (bytes_eq path source) (same_text source)) found.bytes found.source_has)
    found.short
    (copy_bytes source path path later world change holds e quiet (or_right (bytes_eq source path) (bytes_eq path path) (same_text path)) found.bytes found.copy_has)

and_rest : (a b : Bool) → a ≡ true → (a && b) ≡ false → b ≡ false
and_rest true b e is = is
and_rest false b e is = absurd (false≢true e)

lasts_perms : (r : List ℕ) (mode : Option ℕ) (owners groups : List (List ℕ)) (later : Act) (world : World) (change : Change) → has_perms mode owners groups (perms_in (map.get world.nodes r)) ≡ true → decision later world ≡ Needs change → disturbs later (act.Perms r mode owners groups) ≡ false → has_perms mode owners groups (perms_in (node_after change world r)) ≡ true
unfolding disturbs
lasts_perms r mode owners groups later world change holds e quiet =
    let found = at (λ o. has_perms mode owners groups (perms_in o)) (map.get world.nodes r) refl holds in
    meets later change world r found.node found.is e (record {
      stays = λ out. ap (λ (o : Option Node). has_perms mode owners groups (perms_in o)) out ∙ found.holds;
      deleted = λ dirs is. absurd (clash r (or_parts (bytes_eq r r) false (known (act.Perms r mode owners groups) later (act.Delete r dirs) is quiet)).0);
      content = λ v is no_directory out. ap (λ (o : Option Node). has_perms mode owners groups (perms_in o)) out ∙ ap (has_perms mode owners groups) (made_perms v found.node no_directory) ∙ found.holds;
      edit = λ t v is no_directory out. ap (λ (o : Option Node). has_perms mode owners groups (perms_in o)) out ∙ ap (has_perms mode owners groups) (made_perms v found.node no_directory) ∙ found.holds;
      copy = λ s v is no_directory out. ap (λ (o : Option Node). has_perms mode owners groups (perms_in o)) out ∙ ap (has_perms mode owners groups) (made_perms v found.node no_directory) ∙ found.holds;
      perms = λ m os gs present is there out.
          ap (λ (o : Option Node). has_perms mode owners groups (perms_in o)) out
          ∙ ap (has_perms mode owners groups) (set_perms_in (asked_perms m os gs present) found.node)
          ∙ kept_perms mode m owners groups os gs present (sym (ap (has_perms mode owners groups) there) ∙ found.holds)
          (and_rest (bytes_eq r r) (modes_differ mode m || (lists_differ owners os || lists_differ groups gs)) (same_text r) (known (act.Perms r mode owners groups) later (act.Perms r m os gs) is quiet));
    })

-- a path where nothing stands
none_there : (here : Option Node) → not (is_some here) ≡ true → here ≡ None
none_there (Some _) is = absurd (false≢true is)
none_there None is = refl

lacks_after : (change known : Change) (world : World) (r : List ℕ) → known ≡ change → not (is_some (map.get world.nodes r)) ≡ true → may_make known r ≡ false → not (is_some (node_after change world r)) ≡ true
lacks_after change known world r is lacks out =
    ap (λ (o : Option Node). not (is_some o)) (stays_clear change world r (none_there (map.get world.nodes r) lacks) (ap (λ (c : Change). may_make c r) (sym is) ∙ out))

lasts_delete : (r : List ℕ) (dirs : Bool) (later : Act) (world : World) (change : Change) → HasParents world.nodes → not (is_some (map.get world.nodes r)) ≡ true → decision later world ≡ Needs change → disturbs later (act.Delete r dirs) ≡ false → not (is_some (node_after change world r)) ≡ true
unfolding disturbs
lasts_delete r dirs (act.Create q) world change parents lacks e quiet = lacks_after change (PutFile q []) world r (create_needs q world change e).0 lacks quiet
lasts_delete r dirs (act.MakeDir q) world change parents lacks e quiet = lacks_after change (PutDir q) world r (make_dir_needs q world change e).0 lacks quiet
lasts_delete r dirs (act.Delete q ds) world change parents lacks e quiet = lacks_after change (Remove q) world r (delete_needs q ds world change e).0 lacks refl
lasts_delete r dirs (act.Content q v) world change parents lacks e quiet = lacks_after change (PutFile q v) world r (content_needs q v world change e).0 lacks quiet
lasts_delete r dirs (act.Copy s q) world change parents lacks e quiet =
    let need = copy_needs s q world change e in lacks_after change (PutFile q need.bytes) world r need.put lacks quiet
lasts_delete r dirs (act.Edit q t) world change parents lacks e quiet =
    let need = edit_needs q t world change e in
    ap (λ (c : Change). not (is_some (node_after c world r))) (sym need.put)
    ∙ ap (λ (o : Option Node). not (is_some o)) (put_over world q r need.text (File need.bytes need.perms) parents need.there (none_there (map.get world.nodes r) lacks))
lasts_delete r dirs (act.Perms q mode owners groups) world change parents lacks e quiet =
    let need = perms_needs q mode owners groups world change e in lacks_after change (SetPerms q (asked_perms mode owners groups need.present)) world r need.set lacks refl
lasts_delete r dirs (act.Start name) world change parents lacks e quiet = let need = start_needs name world change e in lacks_after change (PutService name (with_running true need.row)) world r need.put lacks refl
lasts_delete r dirs (act.Stop name) world change parents lacks e quiet = let need = stop_needs name world change e in lacks_after change (PutService name (with_running false need.row)) world r need.put lacks refl
lasts_delete r dirs (act.Enable name) world change parents lacks e quiet = let need = enable_needs name world change e in lacks_after change (PutService name (with_enabled true need.row)) world r need.put lacks refl
lasts_delete r dirs (act.Disable name) world change parents lacks e quiet = let need = disable_needs name world change e in lacks_after change (PutService name (with_enabled false need.row)) world r need.put lacks refl
lasts_delete r dirs (act.Restart name) world change parents lacks e quiet = let need = restart_needs name world change e in lacks_after change (PutService name (restarted need.row)) world r need.put lacks refl
lasts_delete r dirs (act.Bust reason) world change parents lacks e quiet = absurd (bust_needs reason world change e)

-- what another act may do to the row of a service
abbrev row_after : Change → World → List ℕ → Option ServiceRow
row_after change world name = map.get (after_change change world).services name

record RowHandlers (G : Type 0) (later : Act) (change : Change) (world : World) (name : List ℕ) (row : ServiceRow) : Type 0 where
  stays : row_after change world name ≡ Some row → G
  started : later ≡ act.Start name → row_after change world name ≡ Some (with_running true row) → G
  stopped : later ≡ act.Stop name → row_after change world name ≡ Some (with_running false row) → G
  enabled : later ≡ act.Enable name → row_after change world name ≡ Some (with_enabled true row) → G
  disabled : later ≡ act.Disable name → row_after change world name ≡ Some (with_enabled false row) → G
  restarted_it : later ≡ act.Restart name → row_after change world name ≡ Some (restarted row) → G

-- a change of nodes leaves the rows
same_rows : (change known : Change) (world : World) (name : List ℕ) (row : ServiceRow) → known ≡ change → map.get world.services name ≡ Some row → (after_change known world).services ≡ world.services → row_after change world name ≡ Some row
same_rows change known world name row is here stays = ap (λ (c : Change). map.get (after_change c world).services name) (sym is) ∙ ap (λ s. map.get s name) stays ∙ here

row_by : {G : Type 0} (other : List ℕ) (changed : ServiceRow → ServiceRow) (change : Change) (world : World) (name : List ℕ) (row : ServiceRow) → map.get world.services name ≡ Some row → RowNeeds other changed (map.get world.services other) change → (other ≡ name → row_after change world name ≡ Some (changed row) → G) → (row_after change world name ≡ Some row → G) → G
row_by {G} other changed change world name row here need mine others =
    let out : row_after change world name ≡ cond (bytes_eq other name) (Some (changed need.row)) (map.get world.services name) =
    ap (λ (c : Change). row_after c world name) (sym need.put) ∙ row_put world other name (changed need.row) in
    by (bytes_eq other name) refl out where
      by : (b : Bool) → bytes_eq other name ≡ b → row_after change world name ≡ cond b (Some (changed need.row)) (map.get world.services name) → G
      by true is out =
          let both : Some need.row ≡ Some row = sym need.there ∙ ap (map.get world.services) (is_text other name is) ∙ here in
          let row_is : need.row ≡ row = cc in
          mine (is_text other name is) (out ∙ ap (λ (x : ServiceRow). Some (changed x)) row_is)
      by false is out = others (out ∙ here)

row_meets : {G : Type 0} (later : Act) (change : Change) (world : World) (name : List ℕ) (row : ServiceRow) → map.get world.services name ≡ Some row → decision later world ≡ Needs change → RowHandlers G later change world name row → G
unfolding after_change
row_meets (act.Create q) change world name row here e h = h.stays (same_rows change (PutFile q []) world name row (create_needs q world change e).0 here refl)
row_meets (act.MakeDir q) change world name row here e h = h.stays (same_rows change (PutDir q) world name row (make_dir_needs q world change e).0 here refl)
row_meets (act.Delete q dirs) change world name row here e h = h.stays (same_rows change (Remove q) world name row (delete_needs q dirs world change e).0 here refl)
row_meets (act.Content q v) change world name row here e h = h.stays (same_rows change (PutFile q v) world name row (content_needs q v world change e).0 here refl)
row_meets (act.Copy s q) change world name row here e h =
    let need = copy_needs s q world change e in h.stays (same_rows change (PutFile q need.bytes) world name row need.put here refl)
row_meets (act.Edit q t) change world name row here e h =
    let need = edit_needs q t world change e in h.stays (same_rows change (PutFile q need.text) world name row need.put here refl)
row_meets (act.Perms q mode owners groups) change world name row here e h =
    let need = perms_needs q mode owners groups world change e in h.stays (same_rows change (SetPerms q (asked_perms mode owners groups need.present)) world name row need.set here refl)
row_meets (act.Start other) change world name row here e h = row_by other (with_running true) change world name row here (start_needs other world change e) (λ is out. h.started (ap act.Start is) out) h.stays
row_meets (act.Stop other) change world name row here e h = row_by other (with_running false) change world name row here (stop_needs other world change e) (λ is out. h.stopped (ap act.Stop is) out) h.stays
row_meets (act.Enable other) change world name row here e h = row_by other (with_enabled true) change world name row here (enable_needs other world change e) (λ is out. h.enabled (ap act.Enable is) out) h.stays
row_meets (act.Disable other) change world name row here e h = row_by other (with_enabled false) change world name row here (disable_needs other world change e) (λ is out. h.disabled (ap act.Disable is) out) h.stays
row_meets (act.Restart other) change world name row here e h = row_by other restarted change world name row here (restart_needs other world change e) (λ is out. h.restarted_it (ap act.Restart is) out) h.stays
row_meets (act.Bust reason) change world name row here e h = absurd (bust_needs reason world change e)

record RowAt (test : ServiceRow → Bool) (here : Option ServiceRow) : Type 0 where
  row : ServiceRow
  is : here ≡ Some row
  passes : test row ≡ true

row_at : (test : ServiceRow → Bool) (here : Option ServiceRow) → has_row test here ≡ true → RowAt test here
row_at test None holds = absurd (false≢true holds)
row_at test (Some row) holds = record { row = row; is = refl; passes = holds }

lasts_start : (name : List ℕ) (later : Act) (world : World) (change : Change) → has_row (λ row. row.running) (map.get world.services name) ≡ true → decision later world ≡ Needs change → disturbs later (act.Start name) ≡ false → has_row (λ row. row.running) (row_after change world name) ≡ true
unfolding disturbs
lasts_start name later world change holds e quiet =
    let found = row_at (λ row. row.running) (map.get world.services name) holds in
    row_meets later change world name found.row found.is e (record {
      stays = λ out. ap (has_row (λ row. row.running)) out ∙ found.passes;
      started = λ is out. ap (has_row (λ row. row.running)) out;
      stopped = λ is out. absurd (clash name (known (act.Start name) later (act.Stop name) is quiet));
      enabled = λ is out. ap (has_row (λ row. row.running)) out ∙ found.passes;
      disabled = λ is out. ap (has_row (λ row. row.running)) out ∙ found.passes;
      restarted_it = λ is out. ap (has_row (λ row. row.running)) out;
    })

lasts_stop : (name : List ℕ) (later : Act) (world : World) (change : Change) → has_row (λ row. not row.running) (map.get world.services name) ≡ true → decision later world ≡ Needs change → disturbs later (act.Stop name) ≡ false → has_row (λ row. not row.running) (row_after change world name) ≡ true
unfolding disturbs
lasts_stop name later world change holds e quiet =
    let found = row_at (λ row. not row.running) (map.get world.services name) holds in
    row_meets later change world name found.row found.is e (record {
      stays = λ out. ap (has_row (λ row. not row.running)) out ∙ found.passes;
      started = λ is out. absurd (clash name (known (act.Stop name) later (act.Start name) is quiet));
      stopped = λ is out. ap (has_row (λ row. not row.running)) out;
      enabled = λ is out. ap (has_row (λ row. not row.running)) out ∙ found.passes;
      disabled = λ is out. ap (has_row (λ row. not row.running)) out ∙ found.passes;
      restarted_it = λ is out. absurd (clash name (known (act.Stop name) later (act.Restart name) is quiet));
    })

lasts_enable : (name : List ℕ) (later : Act) (world : World) (change : Change) → has_row (λ row. row.enabled) (map.get world.services name) ≡ true → decision later world ≡ Needs change → disturbs later (act.Enable name) ≡ false → has_row (λ row. row.enabled) (row_after change world name) ≡ true
unfolding disturbs
lasts_enable name later world change holds e quiet =
    let found = row_at (λ row. row.enabled) (map.get world.services name) holds in
    row_meets later change world name found.row found.is e (record {
      stays = λ out. ap (has_row (λ row. row.enabled)) out ∙ found.passes;
      started = λ is out. ap (has_row (λ row. row.enabled)) out ∙ found.passes;
      stopped = λ is out. ap (has_row (λ row. row.enabled)) out ∙ found.passes;
      enabled = λ is out. ap (has_row (λ row. row.enabled)) out;
      disabled = λ is out. absurd (clash name (known (act.Enable name) later (act.Disable name) is quiet));
      restarted_it = λ is out. ap (has_row (λ row. row.enabled)) out ∙ found.passes;
    })

lasts_disable : (name : List ℕ) (later : Act) (world : World) (change : Change) → has_row (λ row. not row.enabled) (map.get world.services name) ≡ true → decision later world ≡ Needs change → disturbs later (act.Disable name) ≡ false → has_row (λ row. not row.enabled) (row_after change world name) ≡ true
unfolding disturbs
lasts_disable name later world change holds e quiet =
    let found = row_at (λ row. not row.enabled) (map.get world.services name) holds in
    row_meets later change world name found.row found.is e (record {
      stays = λ out. ap (has_row (λ row. not row.enabled)) out ∙ found.passes;
      started = λ is out. ap (has_row (λ row. not row.enabled)) out ∙ found.passes;
      stopped = λ is out. ap (has_row (λ row. not row.enabled)) out ∙ found.passes;
      enabled = λ is out. absurd (clash name (known (act.Disable name) later (act.Enable name) is quiet));
      disabled = λ is out. ap (has_row (λ row. not row.enabled)) out;
      restarted_it = λ is out. ap (has_row (λ row. not row.enabled)) out ∙ found.passes;
    })

pub lasting_post : TextsTellScripts → NeededKeepsPost
unfolding post
lasting_post tell (act.Create r) later world change are later_are parents holds e quiet = lasts_create r later world change holds e quiet
lasting_post tell (act.MakeDir r) later world change are later_are parents holds e quiet = lasts_make_dir r later world change holds e quiet
lasting_post tell (act.Delete r dirs) later world change are later_are parents holds e quiet = lasts_delete r dirs later world change parents holds e quiet
lasting_post tell (act.Content r v) later world change are later_are parents holds e quiet = lasts_content r v later world change holds e quiet
lasting_post tell (act.Copy source path) later world change are later_are parents holds e quiet = lasts_copy source path later world change holds holds e quiet
lasting_post tell (act.Edit r script) later world change are later_are parents holds e quiet = lasts_edit r script later world change tell are later_are holds e quiet
lasting_post tell (act.Perms r mode owners groups) later world change are later_are parents holds e quiet = lasts_perms r mode owners groups later world change holds e quiet
lasting_post tell (act.Start name) later world change are later_are parents holds e quiet = lasts_start name later world change holds e quiet
lasting_post tell (act.Stop name) later world change are later_are parents holds e quiet = lasts_stop name later world change holds e quiet
lasting_post tell (act.Enable name) later world change are later_are parents holds e quiet = lasts_enable name later world change holds e quiet
lasting_post tell (act.Disable name) later world change are later_are parents holds e quiet = lasts_disable name later world change holds e quiet
lasting_post tell (act.Restart name) later world change are later_are parents holds e quiet = absurd (false≢true holds)
lasting_post tell (act.Bust reason) later world change are later_are parents holds e quiet = absurd (false≢true holds)
