-- A change of what an overlay keeps is that change of what it shows, and what it keeps still fits the host's nodes.
use Rattle.std.proofs.Common.{◌≡◌, ℕ, ◌<◌, length, List, Bool, true, false, cond, ◌&&◌, ◌||◌, not, Option, Some, None, is_some, option_map, refl, sym, ap, subst, ◌∙◌}
use Rattle.std.proofs.lemmas.Bool.{false≢true, and_parts, and_right}
use Rattle.std.specs.FinMap as map
use Rattle.std.specs.Cmp.Lexicographic.{nat_list_cmp_total}
use Rattle.std.specs.Ordering.{eq_by_cmp}
use Rattle.cfa_base.specs.TextMaps.{TextMap, text_cmp}
use Rattle.cfa_base.specs.lemmas.TextMaps.{remove-insert, same_texts, tied}
use Rattle.cfa_outside.specs.declared.worlds.Node.{Node}
use Rattle.cfa_outside.specs.declared.worlds.Node.TheVariants.{File, Dir}
use Rattle.cfa_outside.specs.declared.worlds.Perms.{Perms}
use Rattle.cfa_outside.specs.Worlds.{NodeMap, HasParents, above, has_below, is_below, is_blocked, is_directory, is_file, is_in_directories, is_removable, look_at, set_perms, set_perms_of, shows, with_perms}
use Rattle.cfa_plan.specs.OverlayChanges.{Shows, with_added, with_made, with_given, without_added, without_made, with_hidden}
use Rattle.cfa_plan.specs.Overlays.{Kept, IsSound, given, node_over, nodes_over}
use Rattle.cfa_plan.proofs.OverlayNodes.{get-nodes_over, get-set_perms}
use Rattle.cfa_plan.proofs.OverlayPaths.{Above, above_in, above_of_below, all_in, below_of_above, in_above, in_all}
use Rattle.cfa_plan.proofs.OverlayCounts.{passes_with}
use Rattle.cfa_plan.proofs.OverlayLooks.{file_no_directory, file_there, shown_key, shown_made, stands_in}

shows_by : (kept : Kept) (nodes shown : NodeMap) → ((q : List ℕ) → map.get (nodes_over kept nodes) q ≡ map.get shown q) → (nodes_over kept nodes ≡ shown → IsSound kept nodes) → Shows kept nodes shown
shows_by kept nodes shown each sound =
    let same = map.same_map nat_list_cmp_total same_texts (nodes_over kept nodes) shown each in
    record { shown_is = same; is_sound = sound same }

cases : {P : Type 0} (b : Bool) → (b ≡ true → P) → (b ≡ false → P) → P
cases true holds fails = holds refl
cases false holds fails = fails refl

-- ---- what was put at a path of a map, or taken out

set_here : {X : Type 0} (m : TextMap X) (p : List ℕ) (v : X) (q : List ℕ) → eq_by_cmp text_cmp q p ≡ true → map.get (map.insert m p v) q ≡ Some v
set_here m p v q same = map.get-insert nat_list_cmp_total m p v q ∙ ap (λ b. cond b (Some v) (map.get m q)) same

set_other : {X : Type 0} (m : TextMap X) (p : List ℕ) (v : X) (q : List ℕ) → eq_by_cmp text_cmp q p ≡ false → map.get (map.insert m p v) q ≡ map.get m q
set_other m p v q other = map.get-insert nat_list_cmp_total m p v q ∙ ap (λ b. cond b (Some v) (map.get m q)) other

gone_here : {X : Type 0} (m : TextMap X) (p q : List ℕ) → eq_by_cmp text_cmp q p ≡ true → map.get (map.remove m p) q ≡ None
gone_here m p q same = map.get-remove nat_list_cmp_total m p q ∙ ap (λ b. cond b None (map.get m q)) same

gone_other : {X : Type 0} (m : TextMap X) (p q : List ℕ) → eq_by_cmp text_cmp q p ≡ false → map.get (map.remove m p) q ≡ map.get m q
gone_other m p q other = map.get-remove nat_list_cmp_total m p q ∙ ap (λ b. cond b None (map.get m q)) other

-- what has a value still has one
also : {X : Type 0} (m : TextMap X) (p : List ℕ) (v : X) (q : List ℕ) → map.contains_key m q ≡ true → map.contains_key (map.insert m p v) q ≡ true
also m p v q here =
    cases (eq_by_cmp text_cmp q p)
    (λ same. ap is_some (set_here m p v q same))
    (λ other. ap is_some (set_other m p v q other) ∙ here)

-- what is left is another path's, and was there
left : {X : Type 0} (m : TextMap X) (p q : List ℕ) → map.contains_key (map.remove m p) q ≡ true → (eq_by_cmp text_cmp q p ≡ false) × (map.contains_key m q ≡ true)
left m p q here =
    cases (eq_by_cmp text_cmp q p)
    (λ same. absurd (false≢true (sym (ap is_some (gone_here m p q same)) ∙ here)))
    (λ other. (other, sym (ap is_some (gone_other m p q other)) ∙ here))

left_directory : (m : NodeMap) (p q : List ℕ) → is_directory (map.get (map.remove m p) q) ≡ true → is_directory (map.get m q) ≡ true
left_directory m p q dir =
    cases (eq_by_cmp text_cmp q p)
    (λ same. absurd (false≢true (sym (ap is_directory (gone_here m p q same)) ∙ dir)))
    (λ other. sym (ap is_directory (gone_other m p q other)) ∙ dir)

-- ---- nodes in directories up to the root

parents_by : (m : NodeMap) → ((q r : List ℕ) → map.contains_key m q ≡ true → Above r q → is_directory (map.get m r) ≡ true) → HasParents m
parents_by m stand = record { of_each = λ q here. in_all (λ d. is_directory (map.get m d)) (above q) (λ r among. stand q r here (in_above r q among)) }

-- a node is put in directories, and where a directory stood it's one
module _ (m : NodeMap) (p : List ℕ) (node : Node) (parents : HasParents m) (within : is_in_directories m p ≡ true) (stays : is_directory (map.get m p) ≡ true → is_directory (Some node) ≡ true) where
  still_directory : (r : List ℕ) → is_directory (map.get m r) ≡ true → is_directory (map.get (map.insert m p node) r) ≡ true
  still_directory r dir =
      cases (eq_by_cmp text_cmp r p)
      (λ same. ap is_directory (set_here m p node r same) ∙ stays (ap (λ (q : List ℕ). is_directory (map.get m q)) (sym (tied r p same)) ∙ dir))
      (λ other. ap is_directory (set_other m p node r other) ∙ dir)

  insert_keeps : HasParents (map.insert m p node)
  insert_keeps = parents_by (map.insert m p node) (λ q r here a.
      still_directory r
      (cases (eq_by_cmp text_cmp q p)
      (λ same. all_in (λ d. is_directory (map.get m d)) (above p) within r (above_in r p (subst (λ (s : List ℕ). Above r s) (tied q p same) a)))
      (λ other. stands_in m parents q r (sym (ap is_some (set_other m p node q other)) ∙ here) a)))

with_perms_directory : (x : Perms) (node : Node) → is_directory (Some (with_perms x node)) ≡ is_directory (Some node)
with_perms_directory x (File _ _) = refl
with_perms_directory x (Dir _) = refl

set_perms_keeps : (m : NodeMap) (p : List ℕ) (x : Perms) → HasParents m → HasParents (set_perms p x m)
unfolding set_perms
set_perms_keeps m p x parents =
    elim (map.get m p) as (λ o. map.get m p ≡ o → HasParents (set_perms_of o p x m)) [
      | None ↦ λ _. parents
      | Some node ↦ λ stands.
          insert_keeps m p (with_perms x node) parents (parents.of_each p (ap is_some stands))
          (λ dir. with_perms_directory x node ∙ sym (ap is_directory stands) ∙ dir)
    ] refl

some_is_removable : (o : Option Node) (blocked below : Bool) → is_removable (shows o blocked below) ≡ true → is_some o ≡ true
some_is_removable (Some n) blocked below fit = refl
some_is_removable None true below fit = absurd (false≢true fit)
some_is_removable None false below fit = absurd (false≢true fit)

directory_is_removable : (o : Option Node) (blocked below : Bool) → is_directory o ≡ true → is_removable (shows o blocked below) ≡ true → below ≡ false
directory_is_removable (Some (File _ _)) blocked below dir fit = absurd (false≢true dir)
directory_is_removable (Some (Dir _)) blocked true dir fit = absurd (false≢true fit)
directory_is_removable (Some (Dir _)) blocked false dir fit = refl
directory_is_removable None blocked below dir fit = absurd (false≢true dir)

removable_stands : (m : NodeMap) (p : List ℕ) → is_removable (look_at m p) ≡ true → map.contains_key m p ≡ true
unfolding look_at
removable_stands m p fit = some_is_removable (map.get m p) (is_blocked m p) (has_below m p) fit

empty_below : (m : NodeMap) (p : List ℕ) → is_removable (look_at m p) ≡ true → is_directory (map.get m p) ≡ true → has_below m p ≡ false
unfolding look_at
empty_below m p fit dir = directory_is_removable (map.get m p) (is_blocked m p) (has_below m p) dir fit

below_shows : (m : NodeMap) (p q : List ℕ) → map.contains_key m q ≡ true → Above p q → has_below m p ≡ true
unfolding has_below
below_shows m p q here a = passes_with (is_below p) m q here (below_of_above p q a)

remove_keeps : (m : NodeMap) (p : List ℕ) → HasParents m → is_removable (look_at m p) ≡ true → HasParents (map.remove m p)
remove_keeps m p parents fit = parents_by (map.remove m p) (λ q r here a.
    let was : map.contains_key m q ≡ true = (left m p q here).1 in
    let dir : is_directory (map.get m r) ≡ true = stands_in m parents q r was a in
    cases (eq_by_cmp text_cmp r p)
    (λ same.
    let stands : is_directory (map.get m p) ≡ true = subst (λ (s : List ℕ). is_directory (map.get m s) ≡ true) (tied r p same) dir in
    let over : Above p q = subst (λ (s : List ℕ). Above s q) (tied r p same) a in
    absurd (false≢true (sym (empty_below m p fit stands) ∙ below_shows m p q was over)))
    (λ other. ap is_directory (gone_other m p r other) ∙ dir))

-- ---- what shows

-- what was put at one path, over what shows
put_over : (b : Bool) (n : Node) (m rest : Option Node) → cond (is_some (cond b (Some n) m)) (cond b (Some n) m) rest ≡ cond b (Some n) (cond (is_some m) m rest)
put_over true n m rest = refl
put_over false n m rest = refl

-- what shows at a path where a node was put, or permissions were given, or what stood was taken away
put_shows : (kept : Kept) (nodes : NodeMap) (p : List ℕ) (node : Node) (q : List ℕ) → node_over (with_made kept p node) q (map.get nodes q) ≡ map.get (map.insert (nodes_over kept nodes) p node) q
put_shows kept nodes p node q =
    let rest = cond (map.contains_key kept.hidden q) None (option_map (given (map.get kept.perms q)) (map.get nodes q)) in
    ap (λ (o : Option Node). cond (is_some o) o rest) (map.get-insert nat_list_cmp_total kept.made p node q)
    ∙ put_over (eq_by_cmp text_cmp q p) node (map.get kept.made q) rest
    ∙ ap (cond (eq_by_cmp text_cmp q p) (Some node)) (sym (get-nodes_over kept nodes q))
    ∙ sym (map.get-insert nat_list_cmp_total (nodes_over kept nodes) p node q)

given_over : (x : Perms) (o : Option Perms) (under : Option Node) → option_map (given (Some x)) under ≡ option_map (with_perms x) (option_map (given o) under)
given_over x o None = refl
given_over x None (Some n) = refl
given_over x (Some y) (Some (File _ _)) = refl
given_over x (Some y) (Some (Dir _)) = refl

given_by : (b : Bool) (m : Option Node) (h : Bool) (x : Perms) (o : Option Perms) (under : Option Node) → (b ≡ true → is_some m ≡ false) →
    cond (is_some m) m (cond h None (option_map (given (cond b (Some x) o)) under)) ≡ cond b (option_map (with_perms x) (cond (is_some m) m (cond h None (option_map (given o) under)))) (cond (is_some m) m (cond h None (option_map (given o) under)))
given_by false m h x o under lacks = refl
given_by true (Some n) h x o under lacks = absurd (false≢true (sym (lacks refl)))
given_by true None true x o under lacks = refl
given_by true None false x o under lacks = given_over x o under

given_shows : (kept : Kept) (nodes : NodeMap) (p : List ℕ) (x : Perms) (q : List ℕ) → map.contains_key kept.made p ≡ false → node_over (with_given kept p x) q (map.get nodes q) ≡ map.get (set_perms p x (nodes_over kept nodes)) q
given_shows kept nodes p x q lacks =
    ap (λ (o : Option Perms). cond (map.contains_key kept.made q) (map.get kept.made q) (cond (map.contains_key kept.hidden q) None (option_map (given o) (map.get nodes q)))) (map.get-insert nat_list_cmp_total kept.perms p x q)
    ∙ given_by (eq_by_cmp text_cmp q p) (map.get kept.made q) (map.contains_key kept.hidden q) x (map.get kept.perms q) (map.get nodes q) (λ same. ap (map.contains_key kept.made) (tied q p same) ∙ lacks)
    ∙ ap (λ (s : Option Node). cond (eq_by_cmp text_cmp q p) (option_map (with_perms x) s) s) (sym (get-nodes_over kept nodes q))
    ∙ sym (get-set_perms p x (nodes_over kept nodes) q)

made_shows : (kept : Kept) (nodes : NodeMap) (p : List ℕ) (node : Node) (x : Perms) (q : List ℕ) → map.get (nodes_over kept nodes) p ≡ Some node → node_over (with_made kept p (with_perms x node)) q (map.get nodes q) ≡ map.get (set_perms p x (nodes_over kept nodes)) q
made_shows kept nodes p node x q here =
    let over = nodes_over kept nodes in
    put_shows kept nodes p (with_perms x node) q
    ∙ map.get-insert nat_list_cmp_total over p (with_perms x node) q
    ∙ elim (eq_by_cmp text_cmp q p) as (λ b. eq_by_cmp text_cmp q p ≡ b → cond b (Some (with_perms x node)) (map.get over q) ≡ cond b (option_map (with_perms x) (map.get over q)) (map.get over q)) [
      | true ↦ λ same. sym (ap (option_map (with_perms x)) (ap (map.get over) (tied q p same) ∙ here))
      | false ↦ λ _. refl
    ] refl
    ∙ sym (get-set_perms p x over q)

-- what was taken back, with nothing under it
taken_by : (b : Bool) (m rest : Option Node) → (b ≡ true → rest ≡ None) → cond (is_some (cond b None m)) (cond b None m) rest ≡ cond b None (cond (is_some m) m rest)
taken_by true m rest empty = empty refl
taken_by false m rest empty = refl

nothing_through : (h : Bool) (o : Option Perms) (under : Option Node) → (is_some under && not h) ≡ false → cond h None (option_map (given o) under) ≡ None
nothing_through true o under new = refl
nothing_through false o None new = refl
nothing_through false o (Some n) new = absurd (false≢true (sym new))

added_taken : (kept : Kept) (nodes : NodeMap) → IsSound kept nodes → (p q : List ℕ) → map.contains_key kept.added p ≡ true → node_over (without_added kept p) q (map.get nodes q) ≡ map.get (map.remove (nodes_over kept nodes) p) q
added_taken kept nodes sound p q added =
    let rest = cond (map.contains_key kept.hidden q) None (option_map (given (map.get kept.perms q)) (map.get nodes q)) in
    ap (λ (o : Option Node). cond (is_some o) o rest) (map.get-remove nat_list_cmp_total kept.made p q)
    ∙ taken_by (eq_by_cmp text_cmp q p) (map.get kept.made q) rest (λ same. nothing_through (map.contains_key kept.hidden q) (map.get kept.perms q) (map.get nodes q) (sound.added_are_new q (ap (map.contains_key kept.added) (tied q p same) ∙ added)))
    ∙ ap (cond (eq_by_cmp text_cmp q p) None) (sym (get-nodes_over kept nodes q))
    ∙ sym (map.get-remove nat_list_cmp_total (nodes_over kept nodes) p q)

-- what was taken out, and is hidden
hidden_too : (b : Bool) (m rest : Option Node) (h : Option (Unit {0})) → cond (is_some (cond b None m)) (cond b None m) (cond (is_some (cond b (Some tt) h)) None rest) ≡ cond b None (cond (is_some m) m (cond (is_some h) None rest))
hidden_too true m rest h = refl
hidden_too false m rest h = refl

made_taken : (kept : Kept) (nodes : NodeMap) (p q : List ℕ) → node_over (without_made kept p) q (map.get nodes q) ≡ map.get (map.remove (nodes_over kept nodes) p) q
made_taken kept nodes p q =
    let rest = option_map (given (map.get kept.perms q)) (map.get nodes q) in
    let out = cond (eq_by_cmp text_cmp q p) None (map.get kept.made q) in
    ap (λ (o : Option Node). cond (is_some o) o (cond (map.contains_key (map.insert kept.hidden p tt) q) None rest)) (map.get-remove nat_list_cmp_total kept.made p q)
    ∙ ap (λ (o : Option (Unit {0})). cond (is_some out) out (cond (is_some o) None rest)) (map.get-insert nat_list_cmp_total kept.hidden p tt q)
    ∙ hidden_too (eq_by_cmp text_cmp q p) (map.get kept.made q) rest (map.get kept.hidden q)
    ∙ ap (cond (eq_by_cmp text_cmp q p) None) (sym (get-nodes_over kept nodes q))
    ∙ sym (map.get-remove nat_list_cmp_total (nodes_over kept nodes) p q)

-- what shows through, and is hidden
hidden_by : (b : Bool) (m rest : Option Node) (h : Option (Unit {0})) → (b ≡ true → is_some m ≡ false) → cond (is_some m) m (cond (is_some (cond b (Some tt) h)) None rest) ≡ cond b None (cond (is_some m) m (cond (is_some h) None rest))
hidden_by false m rest h lacks = refl
hidden_by true (Some n) rest h lacks = absurd (false≢true (sym (lacks refl)))
hidden_by true None rest h lacks = refl

through_taken : (kept : Kept) (nodes : NodeMap) (p q : List ℕ) → map.contains_key kept.made p ≡ false → node_over (with_hidden kept p) q (map.get nodes q) ≡ map.get (map.remove (nodes_over kept nodes) p) q
through_taken kept nodes p q lacks =
    let rest = option_map (given (map.get kept.perms q)) (map.get nodes q) in
    ap (λ (o : Option (Unit {0})). cond (map.contains_key kept.made q) (map.get kept.made q) (cond (is_some o) None rest)) (map.get-insert nat_list_cmp_total kept.hidden p tt q)
    ∙ hidden_by (eq_by_cmp text_cmp q p) (map.get kept.made q) rest (map.get kept.hidden q) (λ same. ap (map.contains_key kept.made) (tied q p same) ∙ lacks)
    ∙ ap (cond (eq_by_cmp text_cmp q p) None) (sym (get-nodes_over kept nodes q))
    ∙ sym (map.get-remove nat_list_cmp_total (nodes_over kept nodes) p q)

-- ---- what shows at a path, of what was put, hidden, and the host's

shown_was_old : (m h n : Bool) → (m ≡ true → (n && not h) ≡ true) → (m || (not h && n)) ≡ true → (n && not h) ≡ true
shown_was_old true h n old shown = old refl
shown_was_old false true n old shown = absurd (false≢true shown)
shown_was_old false false true old shown = refl
shown_was_old false false false old shown = absurd (false≢true shown)

absent_is_new : (m h n : Bool) → (m || (not h && n)) ≡ false → (n && not h) ≡ false
absent_is_new true h n lacks = absurd (false≢true (sym lacks))
absent_is_new false true true lacks = refl
absent_is_new false true false lacks = refl
absent_is_new false false true lacks = absurd (false≢true (sym lacks))
absent_is_new false false false lacks = refl

seen_shows : (m h n : Bool) → h ≡ false → n ≡ true → (m || (not h && n)) ≡ true
seen_shows true h n seen stands = refl
seen_shows false true n seen stands = absurd (false≢true (sym seen))
seen_shows false false n seen stands = stands

stands_under : (m h n : Bool) → (m || (not h && n)) ≡ true → m ≡ false → n ≡ true
stands_under true h n shown lacks = absurd (false≢true (sym lacks))
stands_under false true n shown lacks = absurd (false≢true shown)
stands_under false false n shown lacks = shown

-- ---- what is kept fits the host's nodes

-- a node is put where one shows, and is a directory only where one was put
sound_made : (kept : Kept) (nodes : NodeMap) → IsSound kept nodes → (p : List ℕ) (node : Node) → map.contains_key (nodes_over kept nodes) p ≡ true →
    (is_directory (Some node) ≡ true → is_directory (map.get kept.made p) ≡ true) → HasParents (nodes_over (with_made kept p node) nodes) → IsSound (with_made kept p node) nodes
sound_made kept nodes sound p node here stays parents = record {
  hidden_stand = sound.hidden_stand;
  added_are_made = λ q added. also kept.made p node q (sound.added_are_made q added);
  added_are_new = sound.added_are_new;
  others_are_old = λ q made old.
      cases (eq_by_cmp text_cmp q p)
      (λ same.
      shown_was_old (map.contains_key kept.made q) (map.contains_key kept.hidden q) (map.contains_key nodes q)
      (λ put. sound.others_are_old q put old)
      (sym (shown_key kept nodes q) ∙ ap (map.contains_key (nodes_over kept nodes)) (tied q p same) ∙ here))
      (λ other. sound.others_are_old q (sym (ap is_some (set_other kept.made p node q other)) ∙ made) old);
  nothing_below = λ q below dir under stands.
      sound.nothing_below q below
      (cases (eq_by_cmp text_cmp q p)
      (λ same. ap (λ (s : List ℕ). is_directory (map.get kept.made s)) (tied q p same) ∙ stays (sym (ap is_directory (set_here kept.made p node q same)) ∙ dir))
      (λ other. sym (ap is_directory (set_other kept.made p node q other)) ∙ dir))
      under stands;
  host_has_parents = sound.host_has_parents;
  shown_has_parents = parents;
}

-- of the host nothing shows below a path where nothing shows
nothing_shows_below : (kept : Kept) (nodes : NodeMap) → IsSound kept nodes → (p below : List ℕ) → 0 < length p → map.get (nodes_over kept nodes) p ≡ None →
    is_below p below ≡ true → map.contains_key nodes below ≡ true → map.contains_key kept.hidden below ≡ true
nothing_shows_below kept nodes sound p below some none under stands =
    cases (map.contains_key kept.hidden below)
    (λ hidden. hidden)
    (λ seen.
    let here : map.contains_key (nodes_over kept nodes) below ≡ true =
    shown_key kept nodes below ∙ seen_shows (map.contains_key kept.made below) (map.contains_key kept.hidden below) (map.contains_key nodes below) seen stands in
    let dir : is_directory (map.get (nodes_over kept nodes) p) ≡ true = stands_in (nodes_over kept nodes) sound.shown_has_parents below p here (above_of_below p below some under) in
    absurd (false≢true (sym (ap is_directory none) ∙ dir)))

sound_added : (kept : Kept) (nodes : NodeMap) → IsSound kept nodes → (p : List ℕ) (node : Node) → 0 < length p →
    map.get (nodes_over kept nodes) p ≡ None → HasParents (nodes_over (with_added kept p node) nodes) → IsSound (with_added kept p node) nodes
sound_added kept nodes sound p node some none parents = record {
  hidden_stand = sound.hidden_stand;
  added_are_made = λ q added.
      cases (eq_by_cmp text_cmp q p)
      (λ same. ap is_some (set_here kept.made p node q same))
      (λ other. ap is_some (set_other kept.made p node q other) ∙ sound.added_are_made q (sym (ap is_some (set_other kept.added p tt q other)) ∙ added));
  added_are_new = λ q added.
      cases (eq_by_cmp text_cmp q p)
      (λ same.
      absent_is_new (map.contains_key kept.made q) (map.contains_key kept.hidden q) (map.contains_key nodes q)
      (sym (shown_key kept nodes q) ∙ ap (map.contains_key (nodes_over kept nodes)) (tied q p same) ∙ ap is_some none))
      (λ other. sound.added_are_new q (sym (ap is_some (set_other kept.added p tt q other)) ∙ added));
  others_are_old = λ q made old.
      cases (eq_by_cmp text_cmp q p)
      (λ same. absurd (false≢true (sym old ∙ ap is_some (set_here kept.added p tt q same))))
      (λ other. sound.others_are_old q (sym (ap is_some (set_other kept.made p node q other)) ∙ made) (sym (ap is_some (set_other kept.added p tt q other)) ∙ old));
  nothing_below = λ q below dir under stands.
      cases (eq_by_cmp text_cmp q p)
      (λ same. nothing_shows_below kept nodes sound p below some none (subst (λ (s : List ℕ). is_below s below ≡ true) (tied q p same) under) stands)
      (λ other. sound.nothing_below q below (sym (ap is_directory (set_other kept.made p node q other)) ∙ dir) under stands);
  host_has_parents = sound.host_has_parents;
  shown_has_parents = parents;
}

sound_given : (kept : Kept) (nodes : NodeMap) → IsSound kept nodes → (p : List ℕ) (x : Perms) → HasParents (nodes_over (with_given kept p x) nodes) → IsSound (with_given kept p x) nodes
sound_given kept nodes sound p x parents = record {
  hidden_stand = sound.hidden_stand;
  added_are_made = sound.added_are_made;
  added_are_new = sound.added_are_new;
  others_are_old = sound.others_are_old;
  nothing_below = sound.nothing_below;
  host_has_parents = sound.host_has_parents;
  shown_has_parents = parents;
}

sound_without_added : (kept : Kept) (nodes : NodeMap) → IsSound kept nodes → (p : List ℕ) → HasParents (nodes_over (without_added kept p) nodes) → IsSound (without_added kept p) nodes
sound_without_added kept nodes sound p parents = record {
  hidden_stand = sound.hidden_stand;
  added_are_made = λ q added. let was = left kept.added p q added in ap is_some (gone_other kept.made p q was.0) ∙ sound.added_are_made q was.1;
  added_are_new = λ q added. sound.added_are_new q (left kept.added p q added).1;
  others_are_old = λ q made old. let was = left kept.made p q made in sound.others_are_old q was.1 (sym (ap is_some (gone_other kept.added p q was.0)) ∙ old);
  nothing_below = λ q below dir under stands. sound.nothing_below q below (left_directory kept.made p q dir) under stands;
  host_has_parents = sound.host_has_parents;
  shown_has_parents = parents;
}

-- one more node of the host is hidden
module _ (kept : Kept) (nodes : NodeMap) (sound : IsSound kept nodes) (p : List ℕ) where
  hidden_stand_with : map.contains_key nodes p ≡ true → (q : List ℕ) → map.contains_key (map.insert kept.hidden p tt) q ≡ true → map.contains_key nodes q ≡ true
  hidden_stand_with stands q hidden =
      cases (eq_by_cmp text_cmp q p)
      (λ same. ap (map.contains_key nodes) (tied q p same) ∙ stands)
      (λ other. sound.hidden_stand q (sym (ap is_some (set_other kept.hidden p tt q other)) ∙ hidden))

  still_new : (q : List ℕ) → (map.contains_key nodes q && not (map.contains_key kept.hidden q)) ≡ false → (map.contains_key nodes q && not (map.contains_key (map.insert kept.hidden p tt) q)) ≡ false
  still_new q new =
      cases (eq_by_cmp text_cmp q p)
      (λ same. and_right (map.contains_key nodes q) (not (map.contains_key (map.insert kept.hidden p tt) q)) (ap (λ (o : Option (Unit {0})). not (is_some o)) (set_here kept.hidden p tt q same)))
      (λ other. ap (λ (o : Option (Unit {0})). map.contains_key nodes q && not (is_some o)) (set_other kept.hidden p tt q other) ∙ new)

  still_old : (q : List ℕ) → eq_by_cmp text_cmp q p ≡ false → (map.contains_key nodes q && not (map.contains_key kept.hidden q)) ≡ true → (map.contains_key nodes q && not (map.contains_key (map.insert kept.hidden p tt) q)) ≡ true
  still_old q other old = ap (λ (o : Option (Unit {0})). map.contains_key nodes q && not (is_some o)) (set_other kept.hidden p tt q other) ∙ old

  sound_without_made : map.contains_key kept.made p ≡ true → map.contains_key kept.added p ≡ false → HasParents (nodes_over (without_made kept p) nodes) → IsSound (without_made kept p) nodes
  sound_without_made put lacks parents = record {
    hidden_stand = hidden_stand_with (and_parts (map.contains_key nodes p) (not (map.contains_key kept.hidden p)) (sound.others_are_old p put lacks)).0;
    added_are_made = λ q added.
        cases (eq_by_cmp text_cmp q p)
        (λ same. absurd (false≢true (sym lacks ∙ ap (map.contains_key kept.added) (sym (tied q p same)) ∙ added)))
        (λ other. ap is_some (gone_other kept.made p q other) ∙ sound.added_are_made q added);
    added_are_new = λ q added. still_new q (sound.added_are_new q added);
    others_are_old = λ q made old. let was = left kept.made p q made in still_old q was.0 (sound.others_are_old q was.1 old);
    nothing_below = λ q below dir under stands. also kept.hidden p tt below (sound.nothing_below q below (left_directory kept.made p q dir) under stands);
    host_has_parents = sound.host_has_parents;
    shown_has_parents = parents;
  }

  sound_with_hidden : map.contains_key kept.made p ≡ false → map.contains_key nodes p ≡ true → HasParents (nodes_over (with_hidden kept p) nodes) → IsSound (with_hidden kept p) nodes
  sound_with_hidden lacks stands parents = record {
    hidden_stand = hidden_stand_with stands;
    added_are_made = sound.added_are_made;
    added_are_new = λ q added. still_new q (sound.added_are_new q added);
    others_are_old = λ q made old.
        cases (eq_by_cmp text_cmp q p)
        (λ same. absurd (false≢true (sym lacks ∙ ap (map.contains_key kept.made) (sym (tied q p same)) ∙ made)))
        (λ other. still_old q other (sound.others_are_old q made old));
    nothing_below = λ q below dir under stands. also kept.hidden p tt below (sound.nothing_below q below dir under stands);
    host_has_parents = sound.host_has_parents;
    shown_has_parents = parents;
  }

-- ---- the changes

-- a node is added where none shows; its path isn't empty
pub add : (kept : Kept) (nodes : NodeMap) → IsSound kept nodes → (p : List ℕ) (node : Node) → 0 < length p →
    map.get (nodes_over kept nodes) p ≡ None → is_in_directories (nodes_over kept nodes) p ≡ true →
    Shows (with_added kept p node) nodes (map.insert (nodes_over kept nodes) p node)
add kept nodes sound p node some none stand =
    let over = nodes_over kept nodes in
    shows_by (with_added kept p node) nodes (map.insert over p node)
    (λ q. get-nodes_over (with_added kept p node) nodes q ∙ put_shows kept nodes p node q)
    (λ same.
    sound_added kept nodes sound p node some none
    (subst HasParents (sym same) (insert_keeps over p node sound.shown_has_parents stand (λ dir. absurd (false≢true (sym (ap is_directory none) ∙ dir))))))

-- a file is put in the place of one
pub replace : (kept : Kept) (nodes : NodeMap) → IsSound kept nodes → (p bytes : List ℕ) (perms : Perms) →
    is_file (map.get (nodes_over kept nodes) p) ≡ true →
    Shows (with_made kept p (File bytes perms)) nodes (map.insert (nodes_over kept nodes) p (File bytes perms))
replace kept nodes sound p bytes perms is =
    let over = nodes_over kept nodes in
    let here : map.contains_key over p ≡ true = file_there (map.get over p) is in
    shows_by (with_made kept p (File bytes perms)) nodes (map.insert over p (File bytes perms))
    (λ q. get-nodes_over (with_made kept p (File bytes perms)) nodes q ∙ put_shows kept nodes p (File bytes perms) q)
    (λ same.
    sound_made kept nodes sound p (File bytes perms) here (λ dir. absurd (false≢true dir))
    (subst HasParents (sym same) (insert_keeps over p (File bytes perms) sound.shown_has_parents (sound.shown_has_parents.of_each p here) (λ dir. absurd (file_no_directory (map.get over p) is dir)))))

-- what was put has other permissions
pub give_made : (kept : Kept) (nodes : NodeMap) → IsSound kept nodes → (p : List ℕ) (node : Node) (x : Perms) →
    map.get kept.made p ≡ Some node → Shows (with_made kept p (with_perms x node)) nodes (set_perms p x (nodes_over kept nodes))
give_made kept nodes sound p node x is =
    let over = nodes_over kept nodes in
    let here : map.get over p ≡ Some node = shown_made kept nodes p (ap is_some is) ∙ is in
    shows_by (with_made kept p (with_perms x node)) nodes (set_perms p x over)
    (λ q. get-nodes_over (with_made kept p (with_perms x node)) nodes q ∙ made_shows kept nodes p node x q here)
    (λ same.
    sound_made kept nodes sound p (with_perms x node) (ap is_some here) (λ dir. ap is_directory is ∙ sym (with_perms_directory x node) ∙ dir)
    (subst HasParents (sym same) (set_perms_keeps over p x sound.shown_has_parents)))

-- what shows through has other permissions
pub give_through : (kept : Kept) (nodes : NodeMap) → IsSound kept nodes → (p : List ℕ) (x : Perms) →
    map.contains_key kept.made p ≡ false → Shows (with_given kept p x) nodes (set_perms p x (nodes_over kept nodes))
give_through kept nodes sound p x lacks =
    let over = nodes_over kept nodes in
    shows_by (with_given kept p x) nodes (set_perms p x over)
    (λ q. get-nodes_over (with_given kept p x) nodes q ∙ given_shows kept nodes p x q lacks)
    (λ same. sound_given kept nodes sound p x (subst HasParents (sym same) (set_perms_keeps over p x sound.shown_has_parents)))

-- what was added is taken away
pub take_added : (kept : Kept) (nodes : NodeMap) → IsSound kept nodes → (p : List ℕ) → map.contains_key kept.added p ≡ true →
    is_removable (look_at (nodes_over kept nodes) p) ≡ true → Shows (without_added kept p) nodes (map.remove (nodes_over kept nodes) p)
take_added kept nodes sound p added fit =
    let over = nodes_over kept nodes in
    shows_by (without_added kept p) nodes (map.remove over p)
    (λ q. get-nodes_over (without_added kept p) nodes q ∙ added_taken kept nodes sound p q added)
    (λ same. sound_without_added kept nodes sound p (subst HasParents (sym same) (remove_keeps over p sound.shown_has_parents fit)))

-- what was put in the place of a node is taken away
pub take_made : (kept : Kept) (nodes : NodeMap) → IsSound kept nodes → (p : List ℕ) → map.contains_key kept.made p ≡ true → map.contains_key kept.added p ≡ false →
    is_removable (look_at (nodes_over kept nodes) p) ≡ true → Shows (without_made kept p) nodes (map.remove (nodes_over kept nodes) p)
take_made kept nodes sound p made old fit =
    let over = nodes_over kept nodes in
    shows_by (without_made kept p) nodes (map.remove over p)
    (λ q. get-nodes_over (without_made kept p) nodes q ∙ made_taken kept nodes p q)
    (λ same. sound_without_made kept nodes sound p made old (subst HasParents (sym same) (remove_keeps over p sound.shown_has_parents fit)))

-- what shows through is taken away
pub take_through : (kept : Kept) (nodes : NodeMap) → IsSound kept nodes → (p : List ℕ) → map.contains_key kept.made p ≡ false →
    is_removable (look_at (nodes_over kept nodes) p) ≡ true → Shows (with_hidden kept p) nodes (map.remove (nodes_over kept nodes) p)
take_through kept nodes sound p lacks fit =
    let over = nodes_over kept nodes in
    let stands : map.contains_key nodes p ≡ true =
    stands_under (map.contains_key kept.made p) (map.contains_key kept.hidden p) (map.contains_key nodes p) (sym (shown_key kept nodes p) ∙ removable_stands over p fit) lacks in
    shows_by (with_hidden kept p) nodes (map.remove over p)
    (λ q. get-nodes_over (with_hidden kept p) nodes q ∙ through_taken kept nodes p q lacks)
    (λ same. sound_with_hidden kept nodes sound p lacks stands (subst HasParents (sym same) (remove_keeps over p sound.shown_has_parents fit)))

-- what was added and taken back leaves what was kept
pub fresh : (kept : Kept) (p : List ℕ) (node : Node) → map.get kept.made p ≡ None → map.get kept.added p ≡ None →
    without_added (with_added kept p node) p ≡ kept
fresh kept p node made added i = record {
  made = remove-insert kept.made p node made i;
  added = remove-insert kept.added p tt added i;
  hidden = kept.hidden;
  perms = kept.perms;
  services = kept.services;
  locks = kept.locks;
  journal = kept.journal;
}
