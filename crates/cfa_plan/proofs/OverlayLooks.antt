-- What a look shows, and how many nodes stand directly in a directory, of the nodes that an overlay shows.
use Rattle.std.proofs.Common.{◌≡◌, ℕ, ◌+◌, List, [], ◌∷◌, ◌++◌, length, drop, filter, Bool, true, false, cond, ◌&&◌, ◌||◌, not, nat_eq, eqb, eqb-true, eq-eqb, Option, Some, None, is_some, option_map, length-append, append_assoc, drop_at, refl, sym, ap, ◌∙◌, arith}
use Rattle.std.proofs.lemmas.Bool.{false≢true, and_parts, or_parts, or_left, or_right, and_from}
use Rattle.std.specs.FinMap as map
use Rattle.std.specs.List.{list_any, starts_with}
use Rattle.cfa_base.specs.TextMaps.{count_leaves, has_front, is_leaf}
use Rattle.cfa_outside.specs.declared.worlds.Node.{Node}
use Rattle.cfa_outside.specs.declared.worlds.Node.TheVariants.{File, Dir}
use Rattle.cfa_outside.specs.declared.worlds.Perms.{Perms}
use Rattle.cfa_outside.specs.declared.sites.Look.TheVariants as look
use Rattle.cfa_outside.specs.Worlds.{NodeMap, HasParents, above, below_front, children_of, has_below, is_below, is_blocked, is_directory, is_file, look_at, shows}
use Rattle.cfa_plan.specs.Overlays.{Kept, IsSound, given, is_touched, laid, nodes_over}
use Rattle.cfa_plan.proofs.OverlayPaths.{Above, Lie, one, first, second, Slash, none, at, above_in, all_in, any_alike, any_in, begins_with, below_of_above, first_slash, in_above, lie, none_in, rest_behind}
use Rattle.cfa_plan.proofs.OverlayCounts.{any_key_alike, counts_balance, key_passes, passes_with}
use Rattle.cfa_plan.proofs.OverlayNodes.{get-laid, get-nodes_over}

-- ---- single nodes

pub file_no_directory : (o : Option Node) → is_file o ≡ true → is_directory o ≡ true → ⊥
file_no_directory (Some (File _ _)) file dir = false≢true dir
file_no_directory (Some (Dir _)) file dir = false≢true file
file_no_directory None file dir = false≢true file

pub file_there : (o : Option Node) → is_file o ≡ true → is_some o ≡ true
file_there (Some n) file = refl
file_there None file = absurd (false≢true file)

pub directory_there : (o : Option Node) → is_directory o ≡ true → is_some o ≡ true
directory_there (Some n) dir = refl
directory_there None dir = absurd (false≢true dir)

pub given_file : (x : Option Perms) (under : Option Node) → is_file (option_map (given x) under) ≡ is_file under
given_file None None = refl
given_file None (Some n) = refl
given_file (Some y) None = refl
given_file (Some y) (Some (File _ _)) = refl
given_file (Some y) (Some (Dir _)) = refl

pub given_directory : (x : Option Perms) (under : Option Node) → is_directory (option_map (given x) under) ≡ is_directory under
given_directory None None = refl
given_directory None (Some n) = refl
given_directory (Some y) None = refl
given_directory (Some y) (Some (File _ _)) = refl
given_directory (Some y) (Some (Dir _)) = refl

pub stands_in : (nodes : NodeMap) → HasParents nodes → (q r : List ℕ) → map.contains_key nodes q ≡ true → Above r q → is_directory (map.get nodes r) ≡ true
stands_in nodes parents q r here a = all_in (λ d. is_directory (map.get nodes d)) (above q) (parents.of_each q here) r (above_in r q a)

-- ---- what stands at a path

key_by : (m : Option Node) (h : Bool) (x : Option Perms) (under : Option Node) → is_some (cond (is_some m) m (cond h None (option_map (given x) under))) ≡ (is_some m || (not h && is_some under))
key_by (Some n) h x under = refl
key_by None true x under = refl
key_by None false x None = refl
key_by None false x (Some n) = refl

pub shown_key : (kept : Kept) (nodes : NodeMap) (q : List ℕ) → map.contains_key (nodes_over kept nodes) q ≡ (map.contains_key kept.made q || (not (map.contains_key kept.hidden q) && map.contains_key nodes q))
shown_key kept nodes q = ap is_some (get-nodes_over kept nodes q) ∙ key_by (map.get kept.made q) (map.contains_key kept.hidden q) (map.get kept.perms q) (map.get nodes q)

pub shown_made : (kept : Kept) (nodes : NodeMap) (q : List ℕ) → map.contains_key kept.made q ≡ true → map.get (nodes_over kept nodes) q ≡ map.get kept.made q
shown_made kept nodes q made = get-nodes_over kept nodes q ∙ ap (λ b. cond b (map.get kept.made q) (cond (map.contains_key kept.hidden q) None (option_map (given (map.get kept.perms q)) (map.get nodes q)))) made

pub shown_under : (kept : Kept) (nodes : NodeMap) (q : List ℕ) → map.contains_key kept.made q ≡ false → map.get (nodes_over kept nodes) q ≡ cond (map.contains_key kept.hidden q) None (option_map (given (map.get kept.perms q)) (map.get nodes q))
shown_under kept nodes q lacks = get-nodes_over kept nodes q ∙ ap (λ b. cond b (map.get kept.made q) (cond (map.contains_key kept.hidden q) None (option_map (given (map.get kept.perms q)) (map.get nodes q)))) lacks

pub shown_hidden : (kept : Kept) (nodes : NodeMap) (q : List ℕ) → map.contains_key kept.made q ≡ false → map.contains_key kept.hidden q ≡ true → map.get (nodes_over kept nodes) q ≡ None
shown_hidden kept nodes q lacks hidden = shown_under kept nodes q lacks ∙ ap (λ b. cond b None (option_map (given (map.get kept.perms q)) (map.get nodes q))) hidden

pub shown_through : (kept : Kept) (nodes : NodeMap) (q : List ℕ) → is_touched kept q ≡ false → map.get (nodes_over kept nodes) q ≡ option_map (given (map.get kept.perms q)) (map.get nodes q)
shown_through kept nodes q untouched =
    let parts = or_parts (map.contains_key kept.made q) (map.contains_key kept.hidden q) untouched in
    shown_under kept nodes q parts.0 ∙ ap (λ b. cond b None (option_map (given (map.get kept.perms q)) (map.get nodes q))) parts.1

-- ---- what stands below a directory that was put

quiet : (m h n : Bool) → (n ≡ true → h ≡ true) → (m || (not h && n)) ≡ m
quiet true h n f = refl
quiet false true n f = refl
quiet false false true f = absurd (false≢true (f refl))
quiet false false false f = refl

made_alone : (kept : Kept) (nodes : NodeMap) → IsSound kept nodes → (p : List ℕ) → is_directory (map.get kept.made p) ≡ true → (q : List ℕ) → starts_with nat_eq q (below_front p) ≡ true → map.contains_key (nodes_over kept nodes) q ≡ map.contains_key kept.made q
unfolding is_below
made_alone kept nodes sound p is q begins =
    shown_key kept nodes q ∙ quiet (map.contains_key kept.made q) (map.contains_key kept.hidden q) (map.contains_key nodes q) (λ stands. sound.nothing_below p q is begins stands)

below_made : (kept : Kept) (nodes : NodeMap) → IsSound kept nodes → (p : List ℕ) → is_directory (map.get kept.made p) ≡ true → has_below (nodes_over kept nodes) p ≡ has_front kept.made (below_front p)
unfolding has_below is_below
below_made kept nodes sound p is =
    any_key_alike (λ key. starts_with nat_eq key (below_front p)) (nodes_over kept nodes) kept.made (made_alone kept nodes sound p is)

twice : (x m : ℕ) → x + m ≡ m + m → x ≡ m
twice x m is = omega (arith, is)

pub children_made : (kept : Kept) (nodes : NodeMap) → IsSound kept nodes → (p : List ℕ) → is_directory (map.get kept.made p) ≡ true →
    children_of (nodes_over kept nodes) p ≡ count_leaves kept.made (below_front p)
unfolding children_of
children_made kept nodes sound p is =
    let over = nodes_over kept nodes in
    let within = λ (q : List ℕ) (here : map.contains_key kept.made q ≡ true). shown_key kept nodes q ∙ or_left (map.contains_key kept.made q) (not (map.contains_key kept.hidden q) && map.contains_key nodes q) here in
    twice (count_leaves over (below_front p)) (count_leaves kept.made (below_front p))
    (counts_balance over kept.made kept.made kept.made over (below_front p)
    (λ q here. here) within within within
    (λ q leaf. ap (λ b. cond b 1 0 + cond (map.contains_key kept.made q) 1 0)
    (made_alone kept nodes sound p is q (and_parts (starts_with nat_eq q (below_front p)) (not (list_any (λ b. eqb b 47) (drop (length (below_front p)) q))) leaf).0)))

-- ---- children

balance : (m a h n : Bool) → (h ≡ true → n ≡ true) → (a ≡ true → m ≡ true) → (a ≡ true → (n && not h) ≡ false) → (m ≡ true → a ≡ false → (n && not h) ≡ true) → cond (m || (not h && n)) 1 0 + cond h 1 0 ≡ cond n 1 0 + cond a 1 0
balance true true true true stand made new old = refl
balance true true true false stand made new old = absurd (false≢true (stand refl))
balance true true false true stand made new old = absurd (false≢true (sym (new refl)))
balance true true false false stand made new old = refl
balance true false true true stand made new old = absurd (false≢true (old refl refl))
balance true false true false stand made new old = absurd (false≢true (stand refl))
balance true false false true stand made new old = refl
balance true false false false stand made new old = absurd (false≢true (old refl refl))
balance false true h n stand made new old = absurd (false≢true (made refl))
balance false false true true stand made new old = refl
balance false false true false stand made new old = absurd (false≢true (stand refl))
balance false false false true stand made new old = refl
balance false false false false stand made new old = refl

balanced_at : (kept : Kept) (nodes : NodeMap) → IsSound kept nodes → (q : List ℕ) → cond (map.contains_key (nodes_over kept nodes) q) 1 0 + cond (map.contains_key kept.hidden q) 1 0 ≡ cond (map.contains_key nodes q) 1 0 + cond (map.contains_key kept.added q) 1 0
balanced_at kept nodes sound q =
    ap (λ b. cond b 1 0 + cond (map.contains_key kept.hidden q) 1 0) (shown_key kept nodes q)
    ∙ balance (map.contains_key kept.made q) (map.contains_key kept.added q) (map.contains_key kept.hidden q) (map.contains_key nodes q)
    (sound.hidden_stand q) (sound.added_are_made q) (sound.added_are_new q) (sound.others_are_old q)

wide_by : (x y : Option Node) → is_some (cond (is_some x) x y) ≡ (is_some x || is_some y)
wide_by None y = refl
wide_by (Some n) y = refl

wide_key : (upper under : NodeMap) (q : List ℕ) → map.contains_key (laid (map.entries upper) under) q ≡ (map.contains_key upper q || map.contains_key under q)
wide_key upper under q = ap is_some (get-laid upper under q) ∙ wide_by (map.get upper q) (map.get under q)

-- at each path
pub children_through : (kept : Kept) (nodes : NodeMap) → IsSound kept nodes → (p : List ℕ) →
    children_of (nodes_over kept nodes) p + count_leaves kept.hidden (below_front p) ≡ children_of nodes p + count_leaves kept.added (below_front p)
unfolding children_of
children_through kept nodes sound p =
    let over = nodes_over kept nodes in
    let in_over = λ (q : List ℕ) (here : map.contains_key over q ≡ true). wide_key over nodes q ∙ or_left (map.contains_key over q) (map.contains_key nodes q) here in
    let in_nodes = λ (q : List ℕ) (here : map.contains_key nodes q ≡ true). wide_key over nodes q ∙ or_right (map.contains_key over q) (map.contains_key nodes q) here in
    counts_balance over kept.hidden nodes kept.added (laid (map.entries over) nodes) (below_front p)
    in_over
    (λ q here. in_nodes q (sound.hidden_stand q here))
    in_nodes
    (λ q here. in_over q (shown_key kept nodes q ∙ or_left (map.contains_key kept.made q) (not (map.contains_key kept.hidden q) && map.contains_key nodes q) (sound.added_are_made q here)))
    (λ q _. balanced_at kept nodes sound q)

-- ---- a directory is empty exactly where it has no children

none_filtered : (test leaf : List ℕ → Bool) (ks : List (List ℕ)) → ((k : List ℕ) → leaf k ≡ true → test k ≡ true) → list_any test ks ≡ false → length (filter leaf ks) ≡ 0
none_filtered test leaf [] weaker none_passes = refl
none_filtered test leaf (k ∷ ks) weaker none_passes =
    let parts = or_parts (test k) (list_any test ks) none_passes in
    elim (leaf k) as (λ b. leaf k ≡ b → length (cond b (k ∷ filter leaf ks) (filter leaf ks)) ≡ 0) [
      | true ↦ λ yes. absurd (false≢true (sym parts.0 ∙ weaker k yes))
      | false ↦ λ _. none_filtered test leaf ks weaker parts.1
    ] refl

some_filtered : (leaf : List ℕ → Bool) (ks : List (List ℕ)) → list_any leaf ks ≡ true → length (filter leaf ks) ≡ 0 → ⊥
some_filtered leaf [] some is = false≢true some
some_filtered leaf (k ∷ ks) some is =
    elim (leaf k) as (λ b. (b || list_any leaf ks) ≡ true → length (cond b (k ∷ filter leaf ks) (filter leaf ks)) ≡ 0 → ⊥) [
      | true ↦ λ _ none_left. omega (arith, none_left)
      | false ↦ λ later none_left. some_filtered leaf ks later none_left
    ] some is

leaf_is : (front part : List ℕ) → list_any (λ b. eqb b 47) part ≡ false → is_leaf front (front ++ part) ≡ true
leaf_is front part plain =
    and_from (starts_with nat_eq (front ++ part) front) (not (list_any (λ b. eqb b 47) (drop (length front) (front ++ part))))
    (begins_with front (front ++ part) part refl)
    (ap (λ (l : List ℕ). not (list_any (λ b. eqb b 47) l)) (drop_at front part (length front) refl) ∙ ap not plain)

-- what stands below a directory has, up to the next slash, a node directly in it
leaf_stands : (nodes : NodeMap) → HasParents nodes → (p q rest : List ℕ) → map.contains_key nodes q ≡ true → q ≡ below_front p ++ rest → Slash rest → list_any (is_leaf (below_front p)) (map.keys nodes) ≡ true
leaf_stands nodes parents p q rest here whole (none plain) =
    passes_with (is_leaf (below_front p)) nodes q here (ap (is_leaf (below_front p)) whole ∙ leaf_is (below_front p) rest plain)
leaf_stands nodes parents p q rest here whole (at part behind cut plain) =
    let long : length (below_front p ++ part) ≡ (length p + 1) + length part = length-append (below_front p) part ∙ ap (λ n. n + length part) (length-append p (47 ∷ [])) in
    let a : Above (below_front p ++ part) q = record {
      behind = behind;
      whole = whole ∙ ap (λ (l : List ℕ). below_front p ++ l) cut ∙ sym (append_assoc (below_front p) part (47 ∷ behind));
      some = omega (arith, long);
    } in
    passes_with (is_leaf (below_front p)) nodes (below_front p ++ part)
    (directory_there (map.get nodes (below_front p ++ part)) (stands_in nodes parents q (below_front p ++ part) here a))
    (leaf_is (below_front p) part plain)

pub empty_without_children : (nodes : NodeMap) → HasParents nodes → (p : List ℕ) →
    (has_below nodes p ≡ false → children_of nodes p ≡ 0) × (children_of nodes p ≡ 0 → has_below nodes p ≡ false)
unfolding has_below is_below children_of
empty_without_children nodes parents p =
    let begins = λ (key : List ℕ). starts_with nat_eq key (below_front p) in (
      none_filtered begins (is_leaf (below_front p)) (map.keys nodes)
          (λ k leaf. (and_parts (begins k) (not (list_any (λ b. eqb b 47) (drop (length (below_front p)) k))) leaf).0),
      λ is. elim (list_any begins (map.keys nodes)) as (λ b. list_any begins (map.keys nodes) ≡ b → b ≡ false) [
        | true ↦ λ some.
            let found = key_passes begins nodes some in
            let rest = drop (length (below_front p)) found.0 in
            absurd (some_filtered (is_leaf (below_front p)) (map.keys nodes)
            (leaf_stands nodes parents p found.0 rest found.1 (rest_behind (below_front p) found.0 found.2) (first_slash rest)) is)
        | false ↦ λ _. refl
      ] refl,
    )

-- ---- looks at what was put

there_by : (o : Option Node) (n : Node) → o ≡ Some n → is_some o ≡ true
there_by o n is = ap is_some is

pub look_made_file : (kept : Kept) (nodes : NodeMap) (p bytes : List ℕ) (perms : Perms) →
    map.get kept.made p ≡ Some (File bytes perms) → look_at (nodes_over kept nodes) p ≡ look.File (length bytes)
unfolding look_at
look_made_file kept nodes p bytes perms is =
    ap (λ (o : Option Node). shows o (is_blocked (nodes_over kept nodes) p) (has_below (nodes_over kept nodes) p))
    (shown_made kept nodes p (ap is_some is) ∙ is)

pub look_made_dir : (kept : Kept) (nodes : NodeMap) → IsSound kept nodes → (p : List ℕ) (perms : Perms) →
    map.get kept.made p ≡ Some (Dir perms) → look_at (nodes_over kept nodes) p ≡ look.Dir (not (has_front kept.made (below_front p)))
unfolding look_at
look_made_dir kept nodes sound p perms is =
    ap (λ (o : Option Node). shows o (is_blocked (nodes_over kept nodes) p) (has_below (nodes_over kept nodes) p))
    (shown_made kept nodes p (ap is_some is) ∙ is)
    ∙ ap (λ b. look.Dir (not b)) (below_made kept nodes sound p (ap is_directory is))

-- ---- looks at what is missing

cases : {P : Type 0} (b : Bool) → (b ≡ true → P) → (b ≡ false → P) → P
cases true holds fails = holds refl
cases false holds fails = fails refl

file_through : (h : Bool) (x : Option Perms) (under : Option Node) → is_file (cond h None (option_map (given x) under)) ≡ true → (h ≡ false) × (is_file under ≡ true)
file_through true x under is = absurd (false≢true is)
file_through false x under is = (refl, sym (given_file x under) ∙ is)

stands_through : (m h n : Bool) → (m || (not h && n)) ≡ true → m ≡ false → (h ≡ false) × (n ≡ true)
stands_through true h n is lacks = absurd (false≢true (sym lacks))
stands_through false true n is lacks = absurd (false≢true is)
stands_through false false n is lacks = (refl, is)

module _ (kept : Kept) (nodes : NodeMap) (sound : IsSound kept nodes) where
  abbrev over : NodeMap
  over = nodes_over kept nodes

  -- what isn't put and shows was there, and isn't taken away
  showing : (q : List ℕ) → map.contains_key over q ≡ true → map.contains_key kept.made q ≡ false → (map.contains_key kept.hidden q ≡ false) × (map.contains_key nodes q ≡ true)
  showing q here lacks = stands_through (map.contains_key kept.made q) (map.contains_key kept.hidden q) (map.contains_key nodes q) (sym (shown_key kept nodes q) ∙ here) lacks

  -- nothing of the host shows below what was put or taken away
  none_shows_below : (r q : List ℕ) → Above r q → is_touched kept r ≡ true → map.contains_key over q ≡ true → map.contains_key kept.made q ≡ false → ⊥
  none_shows_below r q a touched here lacks =
      let through = showing q here lacks in
      let dir : is_directory (map.get over r) ≡ true = stands_in over sound.shown_has_parents q r here a in
      cases (map.contains_key kept.made r)
      (λ made. false≢true (sym through.0 ∙ sound.nothing_below r q (sym (ap is_directory (shown_made kept nodes r made)) ∙ dir) (below_of_above r q a) through.1))
      (λ not_made.
      let hidden : map.contains_key kept.hidden r ≡ true = sym (ap (λ b. b || map.contains_key kept.hidden r) not_made) ∙ touched in
      false≢true (sym (ap is_directory (shown_hidden kept nodes r not_made hidden)) ∙ dir))

  module _ (p : List ℕ) (lacks : map.contains_key kept.made p ≡ false) (missing : (map.contains_key kept.hidden p || list_any (is_touched kept) (above p)) ≡ true) where
    gone : map.contains_key over p ≡ false
    gone = cases (map.contains_key over p)
        (λ here.
        let through = showing p here lacks in
        let some = any_in (is_touched kept) (above p) (sym (ap (λ b. b || list_any (is_touched kept) (above p)) through.0) ∙ missing) in
        absurd (none_shows_below some.0 p (in_above some.0 p some.1) some.2 here lacks))
        (λ is. is)

    -- no file of the host shows above
    no_file_between : (q : List ℕ) → Above q p → map.contains_key kept.made q ≡ false → is_file (map.get over q) ≡ true → ⊥
    no_file_between q a not_made file =
        let through = file_through (map.contains_key kept.hidden q) (map.get kept.perms q) (map.get nodes q) (sym (ap is_file (shown_under kept nodes q not_made)) ∙ file) in
        let here : map.contains_key over q ≡ true = file_there (map.get over q) file in
        cases (map.contains_key kept.hidden p)
        (λ hidden. file_no_directory (map.get nodes q) through.1 (stands_in nodes sound.host_has_parents p q (sound.hidden_stand p hidden) a))
        (λ not_hidden.
        let some = any_in (is_touched kept) (above p) (sym (ap (λ b. b || list_any (is_touched kept) (above p)) not_hidden) ∙ missing) in
        let b = in_above some.0 p some.1 in
        between q some.0 a b (lie q some.0 p a b) some.2 not_made through.0 through.1 here file)
      where
        between : (q r : List ℕ) → Above q p → Above r p → Lie q r → is_touched kept r ≡ true → map.contains_key kept.made q ≡ false → map.contains_key kept.hidden q ≡ false → is_file (map.get nodes q) ≡ true → map.contains_key over q ≡ true → is_file (map.get over q) ≡ true → ⊥
        between q r a b (one same) touched not_made not_hidden under here file =
            false≢true (sym (ap (λ c. c || map.contains_key kept.hidden q) not_made ∙ not_hidden) ∙ ap (is_touched kept) same ∙ touched)
        between q r a b (first rest whole) touched not_made not_hidden under here file =
            let c : Above q r = record { behind = rest; whole = whole; some = a.some } in
            cases (map.contains_key kept.made r)
            (λ made. file_no_directory (map.get over q) file
            (stands_in over sound.shown_has_parents r q (shown_key kept nodes r ∙ or_left (map.contains_key kept.made r) (not (map.contains_key kept.hidden r) && map.contains_key nodes r) made) c))
            (λ r_not_made.
            let hidden : map.contains_key kept.hidden r ≡ true = sym (ap (λ d. d || map.contains_key kept.hidden r) r_not_made) ∙ touched in
            file_no_directory (map.get nodes q) under (stands_in nodes sound.host_has_parents r q (sound.hidden_stand r hidden) c))
        between q r a b (second rest whole) touched not_made not_hidden under here file =
            none_shows_below r q (record { behind = rest; whole = whole; some = b.some }) touched here not_made

    blocked_alike : is_blocked over p ≡ list_any (λ q. is_file (map.get kept.made q)) (above p)
    unfolding is_blocked
    blocked_alike = any_alike (λ q. is_file (map.get over q)) (λ q. is_file (map.get kept.made q)) (above p) (λ q among.
        cases (map.contains_key kept.made q)
        (λ made. ap is_file (shown_made kept nodes q made))
        (λ not_made.
        cases (is_file (map.get over q))
        (λ file. absurd (no_file_between q (in_above q p among) not_made file))
        (λ no_file. no_file ∙ sym (none_no_file (map.get kept.made q) not_made))))
      where
        none_no_file : (o : Option Node) → is_some o ≡ false → is_file o ≡ false
        none_no_file None lacks = refl
        none_no_file (Some n) lacks = absurd (false≢true (sym lacks))

missing_shows : (o : Option Node) (blocked below : Bool) → is_some o ≡ false → shows o blocked below ≡ cond blocked look.Blocked look.Nothing
missing_shows (Some n) blocked below lacks = absurd (false≢true (sym lacks))
missing_shows None true below lacks = refl
missing_shows None false below lacks = refl

-- what was taken away, or stands below what was put or taken away
pub look_missing : (kept : Kept) (nodes : NodeMap) → IsSound kept nodes → (p : List ℕ) → map.contains_key kept.made p ≡ false →
    (map.contains_key kept.hidden p || list_any (is_touched kept) (above p)) ≡ true →
    look_at (nodes_over kept nodes) p ≡ cond (list_any (λ q. is_file (map.get kept.made q)) (above p)) look.Blocked look.Nothing
unfolding look_at
look_missing kept nodes sound p lacks missing =
    missing_shows (map.get (nodes_over kept nodes) p) (is_blocked (nodes_over kept nodes) p) (has_below (nodes_over kept nodes) p) (gone kept nodes sound p lacks missing)
    ∙ ap (λ b. cond b look.Blocked look.Nothing) (blocked_alike kept nodes sound p lacks missing)

-- ---- looks at what shows through

same_look : (x : Option Perms) (under : Option Node) (blocked below : Bool) → shows (option_map (given x) under) blocked below ≡ shows under blocked below
same_look x None blocked below = refl
same_look None (Some n) blocked below = refl
same_look (Some y) (Some (File _ _)) blocked below = refl
same_look (Some y) (Some (Dir _)) blocked below = refl

nothing_still : (under : Option Node) (blocked below below' : Bool) → shows under blocked below ≡ look.Nothing → shows under blocked below' ≡ look.Nothing
nothing_still (Some (File _ _)) blocked below below' is = absurd (cc)
nothing_still (Some (Dir _)) blocked below below' is = absurd (cc)
nothing_still None true below below' is = is
nothing_still None false below below' is = is

blocked_still : (under : Option Node) (blocked below below' : Bool) → shows under blocked below ≡ look.Blocked → shows under blocked below' ≡ look.Blocked
blocked_still (Some (File _ _)) blocked below below' is = absurd (cc)
blocked_still (Some (Dir _)) blocked below below' is = absurd (cc)
blocked_still None true below below' is = is
blocked_still None false below below' is = is

file_still : (under : Option Node) (blocked below below' : Bool) (n : ℕ) → shows under blocked below ≡ look.File n → shows under blocked below' ≡ look.File n
file_still (Some (File _ _)) blocked below below' n is = is
file_still (Some (Dir _)) blocked below below' n is = absurd (cc)
file_still None true below below' n is = is
file_still None false below below' n is = is

directory_still : (under : Option Node) (blocked below below' e : Bool) → shows under blocked below ≡ look.Dir e → (shows under blocked below' ≡ look.Dir (not below')) × (e ≡ not below)
directory_still (Some (File _ _)) blocked below below' e is = absurd (cc)
directory_still (Some (Dir _)) blocked below below' e is = let same : e ≡ not below = cc in (refl, same)
directory_still None true below below' e is = absurd (cc)
directory_still None false below below' e is = absurd (cc)

plain : (m a h n : Bool) → (m ≡ true → a ≡ false → (n && not h) ≡ true) → h ≡ false → a ≡ false → (m || (not h && n)) ≡ n
plain true a h n old seen new = sym (and_parts n (not h) (old refl new)).0
plain false a h n old seen new = ap (λ b. not b && n) seen

counted_test : (below : Bool) (shown hidden stand added : ℕ) → shown + hidden ≡ stand + added → (below ≡ false → shown ≡ 0) → (shown ≡ 0 → below ≡ false) → not below ≡ nat_eq (stand + added) hidden
counted_test false shown hidden stand added is empty back =
    let zero_is : shown ≡ 0 = empty refl in
    let same : stand + added ≡ hidden = omega (arith, is, zero_is) in
    sym (eq-eqb (stand + added) hidden same)
counted_test true shown hidden stand added is empty back =
    elim (eqb (stand + added) hidden) as (λ b. eqb (stand + added) hidden ≡ b → false ≡ b) [
      | true ↦ λ yes.
          let same : stand + added ≡ hidden = eqb-true (stand + added) hidden yes in
          absurd (false≢true (sym (back (omega (arith, is, same)))))
      | false ↦ λ _. refl
    ] refl

module _ (kept : Kept) (nodes : NodeMap) (sound : IsSound kept nodes) (p : List ℕ) (here : is_touched kept p ≡ false) (untouched : list_any (is_touched kept) (above p) ≡ false) where
  through_blocked : is_blocked (nodes_over kept nodes) p ≡ is_blocked nodes p
  unfolding is_blocked
  through_blocked = any_alike (λ q. is_file (map.get (nodes_over kept nodes) q)) (λ q. is_file (map.get nodes q)) (above p) (λ q among.
      ap is_file (shown_through kept nodes q (none_in (is_touched kept) (above p) untouched q among)) ∙ given_file (map.get kept.perms q) (map.get nodes q))

  through_shows : look_at (nodes_over kept nodes) p ≡ shows (map.get nodes p) (is_blocked nodes p) (has_below (nodes_over kept nodes) p)
  unfolding look_at
  through_shows =
      ap (λ (o : Option Node). shows o (is_blocked (nodes_over kept nodes) p) (has_below (nodes_over kept nodes) p)) (shown_through kept nodes p here)
      ∙ same_look (map.get kept.perms p) (map.get nodes p) (is_blocked (nodes_over kept nodes) p) (has_below (nodes_over kept nodes) p)
      ∙ ap (λ b. shows (map.get nodes p) b (has_below (nodes_over kept nodes) p)) through_blocked

  below_through : (has_front kept.hidden (below_front p) || has_front kept.added (below_front p)) ≡ false → has_below (nodes_over kept nodes) p ≡ has_below nodes p
  unfolding has_below is_below
  below_through clear =
      let begins = λ (key : List ℕ). starts_with nat_eq key (below_front p) in
      let parts = or_parts (has_front kept.hidden (below_front p)) (has_front kept.added (below_front p)) clear in
      any_key_alike begins (nodes_over kept nodes) nodes (λ q passes.
      shown_key kept nodes q
      ∙ plain (map.contains_key kept.made q) (map.contains_key kept.added q) (map.contains_key kept.hidden q) (map.contains_key nodes q) (sound.others_are_old q)
      (cases (map.contains_key kept.hidden q) (λ is. absurd (false≢true (sym parts.0 ∙ passes_with begins kept.hidden q is passes))) (λ is. is))
      (cases (map.contains_key kept.added q) (λ is. absurd (false≢true (sym parts.1 ∙ passes_with begins kept.added q is passes))) (λ is. is)))

pub look_through_nothing : (kept : Kept) (nodes : NodeMap) → IsSound kept nodes → (p : List ℕ) → is_touched kept p ≡ false →
    list_any (is_touched kept) (above p) ≡ false → look_at nodes p ≡ look.Nothing → look_at (nodes_over kept nodes) p ≡ look.Nothing
unfolding look_at
look_through_nothing kept nodes sound p here untouched is =
    through_shows kept nodes sound p here untouched ∙ nothing_still (map.get nodes p) (is_blocked nodes p) (has_below nodes p) (has_below (nodes_over kept nodes) p) is

pub look_through_blocked : (kept : Kept) (nodes : NodeMap) → IsSound kept nodes → (p : List ℕ) → is_touched kept p ≡ false →
    list_any (is_touched kept) (above p) ≡ false → look_at nodes p ≡ look.Blocked → look_at (nodes_over kept nodes) p ≡ look.Blocked
unfolding look_at
look_through_blocked kept nodes sound p here untouched is =
    through_shows kept nodes sound p here untouched ∙ blocked_still (map.get nodes p) (is_blocked nodes p) (has_below nodes p) (has_below (nodes_over kept nodes) p) is

pub look_through_file : (kept : Kept) (nodes : NodeMap) → IsSound kept nodes → (p : List ℕ) → is_touched kept p ≡ false →
    list_any (is_touched kept) (above p) ≡ false → (n : ℕ) → look_at nodes p ≡ look.File n → look_at (nodes_over kept nodes) p ≡ look.File n
unfolding look_at
look_through_file kept nodes sound p here untouched n is =
    through_shows kept nodes sound p here untouched ∙ file_still (map.get nodes p) (is_blocked nodes p) (has_below nodes p) (has_below (nodes_over kept nodes) p) n is

-- a directory that shows through, with nothing added or taken away below it
pub look_through_dir : (kept : Kept) (nodes : NodeMap) → IsSound kept nodes → (p : List ℕ) → is_touched kept p ≡ false →
    list_any (is_touched kept) (above p) ≡ false → (e : Bool) → look_at nodes p ≡ look.Dir e →
    (has_front kept.hidden (below_front p) || has_front kept.added (below_front p)) ≡ false → look_at (nodes_over kept nodes) p ≡ look.Dir e
unfolding look_at
look_through_dir kept nodes sound p here untouched e is clear =
    let still = directory_still (map.get nodes p) (is_blocked nodes p) (has_below nodes p) (has_below (nodes_over kept nodes) p) e is in
    through_shows kept nodes sound p here untouched ∙ still.0
    ∙ ap (λ b. look.Dir (not b)) (below_through kept nodes sound p here untouched clear) ∙ ap look.Dir (sym still.1)

-- and in any case
pub look_through_counted : (kept : Kept) (nodes : NodeMap) → IsSound kept nodes → (p : List ℕ) → is_touched kept p ≡ false →
    list_any (is_touched kept) (above p) ≡ false → (e : Bool) → look_at nodes p ≡ look.Dir e →
    look_at (nodes_over kept nodes) p ≡ look.Dir (nat_eq (children_of nodes p + count_leaves kept.added (below_front p)) (count_leaves kept.hidden (below_front p)))
unfolding look_at
look_through_counted kept nodes sound p here untouched e is =
    let still = directory_still (map.get nodes p) (is_blocked nodes p) (has_below nodes p) (has_below (nodes_over kept nodes) p) e is in
    let empty = empty_without_children (nodes_over kept nodes) sound.shown_has_parents p in
    through_shows kept nodes sound p here untouched ∙ still.0
    ∙ ap look.Dir (counted_test (has_below (nodes_over kept nodes) p) (children_of (nodes_over kept nodes) p) (count_leaves kept.hidden (below_front p)) (children_of nodes p) (count_leaves kept.added (below_front p)) (children_through kept nodes sound p) empty.0 empty.1)
