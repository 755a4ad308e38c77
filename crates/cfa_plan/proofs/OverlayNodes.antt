-- What stands at a path of the nodes that an overlay shows.
use Rattle.std.proofs.Common.{◌≡◌, ℕ, List, [], ◌∷◌, Bool, true, false, cond, not, Option, Some, None, is_some, option_map, append-nil, refl, sym, ap, subst, ◌∙◌}
use Rattle.std.proofs.lemmas.Bool.{false≢true}
use Rattle.std.specs.FinMap as map
use Rattle.std.specs.FinMap.Entries.{find}
use Rattle.std.specs.Cmp.Lexicographic.{nat_list_cmp_total}
use Rattle.std.specs.Ordering.{eq_by_cmp}
use Rattle.cfa_base.specs.TextMaps.{text_cmp, TextMap}
use Rattle.cfa_base.specs.lemmas.TextMaps.{same_texts, tied}
use Rattle.cfa_outside.specs.declared.worlds.Node.{Node}
use Rattle.cfa_outside.specs.declared.worlds.Node.TheVariants.{File, Dir}
use Rattle.cfa_outside.specs.declared.worlds.Perms.{Perms}
use Rattle.cfa_outside.specs.declared.worlds.World.{World}
use Rattle.cfa_outside.specs.Worlds.{NodeMap, HasParents, set_perms, set_perms_of, is_directory, with_perms}
use Rattle.cfa_plan.specs.Overlays.{Kept, IsSound, given, laid, node_over, nodes_over, nothing_kept, permitted, world_over}

found-laid : {X : Type 0} (rows : List (List ℕ × X)) (under : TextMap X) (p : List ℕ) → map.get (laid rows under) p ≡ cond (is_some (find text_cmp p rows)) (find text_cmp p rows) (map.get under p)
found-laid [] under p = refl
found-laid (row ∷ rows) under p =
    map.get-insert nat_list_cmp_total (laid rows under) row.0 row.1 p
    ∙ elim (eq_by_cmp text_cmp p row.0) as (λ b. cond b (Some row.1) (map.get (laid rows under) p) ≡ cond (is_some (cond b (Some row.1) (find text_cmp p rows))) (cond b (Some row.1) (find text_cmp p rows)) (map.get under p)) [
      | true ↦ refl
      | false ↦ found-laid rows under p
    ]

pub get-laid : {X : Type 0} (m under : TextMap X) (p : List ℕ) → map.get (laid (map.entries m) under) p ≡ cond (map.contains_key m p) (map.get m p) (map.get under p)
get-laid {X} m under p = found-laid (map.entries m) under p ∙ ap (λ (o : Option X). cond (is_some o) o (map.get under p)) (sym (map.get-entries m p))

-- ---- permissions

given_none : (under : Option Node) → option_map (given None) under ≡ under
given_none None = refl
given_none (Some n) = refl

given_over : (x : Perms) (o : Option Perms) (under : Option Node) → option_map (with_perms x) (option_map (given o) under) ≡ option_map (given (Some x)) under
given_over x o None = refl
given_over x None (Some n) = refl
given_over x (Some y) (Some (File bytes _)) = refl
given_over x (Some y) (Some (Dir _)) = refl

set_at : (o : Option Node) (path : List ℕ) (x : Perms) (nodes : NodeMap) (q : List ℕ) → map.get nodes path ≡ o → map.get (set_perms_of o path x nodes) q ≡ cond (eq_by_cmp text_cmp q path) (option_map (with_perms x) (map.get nodes q)) (map.get nodes q)
set_at None path x nodes q none =
    sym (elim (eq_by_cmp text_cmp q path) as (λ b. eq_by_cmp text_cmp q path ≡ b → cond b (option_map (with_perms x) (map.get nodes q)) (map.get nodes q) ≡ map.get nodes q) [
      | true ↦ λ same. let here : map.get nodes q ≡ None = ap (map.get nodes) (tied q path same) ∙ none in ap (option_map (with_perms x)) here ∙ sym here
      | false ↦ λ _. refl
    ] refl)
set_at (Some n) path x nodes q stands =
    map.get-insert nat_list_cmp_total nodes path (with_perms x n) q
    ∙ elim (eq_by_cmp text_cmp q path) as (λ b. eq_by_cmp text_cmp q path ≡ b → cond b (Some (with_perms x n)) (map.get nodes q) ≡ cond b (option_map (with_perms x) (map.get nodes q)) (map.get nodes q)) [
      | true ↦ λ same. sym (ap (option_map (with_perms x)) (ap (map.get nodes) (tied q path same) ∙ stands))
      | false ↦ λ _. refl
    ] refl

pub get-set_perms : (path : List ℕ) (x : Perms) (nodes : NodeMap) (q : List ℕ) → map.get (set_perms path x nodes) q ≡ cond (eq_by_cmp text_cmp q path) (option_map (with_perms x) (map.get nodes q)) (map.get nodes q)
unfolding set_perms
get-set_perms path x nodes q = set_at (map.get nodes path) path x nodes q refl

get-permitted : (rows : List (List ℕ × Perms)) (nodes : NodeMap) (q : List ℕ) → map.get (permitted rows nodes) q ≡ option_map (given (find text_cmp q rows)) (map.get nodes q)
get-permitted [] nodes q = sym (given_none (map.get nodes q))
get-permitted (row ∷ rows) nodes q =
    get-set_perms row.0 row.1 (permitted rows nodes) q
    ∙ ap (λ (o : Option Node). cond (eq_by_cmp text_cmp q row.0) (option_map (with_perms row.1) o) o) (get-permitted rows nodes q)
    ∙ elim (eq_by_cmp text_cmp q row.0) as (λ b. cond b (option_map (with_perms row.1) (option_map (given (find text_cmp q rows)) (map.get nodes q))) (option_map (given (find text_cmp q rows)) (map.get nodes q)) ≡ option_map (given (cond b (Some row.1) (find text_cmp q rows))) (map.get nodes q)) [
      | true ↦ given_over row.1 (find text_cmp q rows) (map.get nodes q)
      | false ↦ refl
    ]

-- ---- the nodes that show

turned : {A : Type 0} (b : Bool) (x y : A) → cond (not b) x y ≡ cond b y x
turned true x y = refl
turned false x y = refl

pub get-nodes_over : (kept : Kept) (nodes : NodeMap) (p : List ℕ) → map.get (nodes_over kept nodes) p ≡ node_over kept p (map.get nodes p)
unfolding nodes_over
get-nodes_over kept nodes p =
    let permissions = permitted (map.entries kept.perms) nodes in
    let shows = λ (path : List ℕ). not (map.contains_key kept.hidden path) in
    get-laid kept.made (map.retain_keys permissions shows) p
    ∙ ap (cond (map.contains_key kept.made p) (map.get kept.made p))
    (map.get-retain_keys permissions shows p (λ x tie. ap shows (sym (same_texts p x tie)))
    ∙ turned (map.contains_key kept.hidden p) (map.get permissions p) None
    ∙ ap (cond (map.contains_key kept.hidden p) None)
    (get-permitted (map.entries kept.perms) nodes p
    ∙ ap (λ (o : Option Perms). option_map (given o) (map.get nodes p)) (sym (map.get-entries kept.perms p))))

-- ---- nothing that is kept changes nothing

laid_nothing : {X : Type 0} (under : TextMap X) → laid (map.entries (map.empty {X = X} {R = text_cmp})) under ≡ under
laid_nothing {X} under = map.same_map nat_list_cmp_total same_texts _ _ (λ q.
    get-laid (map.empty {X = X} {R = text_cmp}) under q
    ∙ ap (λ (o : Option X). cond (is_some o) o (map.get under q)) (map.get-empty text_cmp q))

nothing_over : (q : List ℕ) (under : Option Node) → node_over nothing_kept q under ≡ under
nothing_over q under =
    ap (λ (o : Option Node). cond (is_some o) o (cond (map.contains_key nothing_kept.hidden q) None (option_map (given (map.get nothing_kept.perms q)) under))) (map.get-empty text_cmp q)
    ∙ ap (λ (o : Option (Unit {0})). cond (is_some o) None (option_map (given (map.get nothing_kept.perms q)) under)) (map.get-empty text_cmp q)
    ∙ ap (λ (o : Option Perms). option_map (given o) under) (map.get-empty text_cmp q)
    ∙ given_none under

pub over_nothing : (nodes : NodeMap) → nodes_over nothing_kept nodes ≡ nodes
over_nothing nodes = map.same_map nat_list_cmp_total same_texts _ _ (λ q. get-nodes_over nothing_kept nodes q ∙ nothing_over q (map.get nodes q))

pub world_over_nothing : (world : World) → world_over nothing_kept world ≡ world
unfolding world_over
world_over_nothing world i = record {
  nodes = over_nothing world.nodes i;
  services = laid_nothing world.services i;
  locks = laid_nothing world.locks i;
  journal = append-nil world.journal i;
}

lacks_all : (X : Type 0) (q : List ℕ) → map.contains_key (map.empty {X = X} {R = text_cmp}) q ≡ true → ⊥
lacks_all X q here = false≢true (sym (ap is_some (map.get-empty text_cmp q)) ∙ here)

pub sound_at_start : (nodes : NodeMap) → HasParents nodes → IsSound nothing_kept nodes
sound_at_start nodes parents = record {
  hidden_stand = λ path here. absurd (lacks_all _ path here);
  added_are_made = λ path here. absurd (lacks_all _ path here);
  added_are_new = λ path here. absurd (lacks_all _ path here);
  others_are_old = λ path here _. absurd (lacks_all _ path here);
  nothing_below = λ path below is _ _. absurd (false≢true (sym (ap is_directory (map.get-empty text_cmp path)) ∙ is));
  host_has_parents = parents;
  shown_has_parents = subst HasParents (sym (over_nothing nodes)) parents;
}
