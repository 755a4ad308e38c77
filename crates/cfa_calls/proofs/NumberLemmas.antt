use Rattle.std.proofs.Common.{◌≡◌, ◌≢◌, ℕ, zero, suc, ◌+◌, ◌<◌, Bool, true, false, cond, List, [], ◌∷◌, ◌++◌, map, length, get_or, take, Option, Some, unwrap_or, sym, ap, subst, refl, ◌∙◌, ◌↔◌, arith, ⊎_elim}
use Rattle.std.specs.List.{Contains, All, position_from}
use Rattle.std.specs.Str.{bytes_eq}
use Rattle.std.proofs.Math.ListN.{set, get_or-map}
use Rattle.std.proofs.lemmas.List.{length-map, get_or_default, take_more, map_push, get_or-map as get_or-map_any, get_or-set_same, get_or-set_other}
use Rattle.std.proofs.lemmas.List.Elements.{Contains-get_or, Contains-push, Contains-append_left, Contains-push_cases}
use Rattle.std.proofs.lemmas.Bool.{false≢true, cases_eq}
use Rattle.std.proofs.lemmas.Iterator.Adapters.{position_from-zero}
use Rattle.cfa_calls.specs.declared.cycles.Edge.{Edge}
use Rattle.cfa_calls.specs.declared.cycles.Call.{Call as CodeCall}
use Rattle.cfa_calls.specs.Cycles.{Call, Reaches, OnCycle, seen_call, seen_calls}
use Rattle.cfa_calls.specs.Cycles.Reaches.{here, onward}
use Rattle.cfa_base.specs.Index.{place_of}
use Rattle.cfa_base.specs.lemmas.EqualTexts.{same_text, is_text}
use Rattle.cfa_base.specs.lemmas.Lists.{behind_one}
use Rattle.cfa_calls.specs.Numbering.{names_of, number_in, edge_in, HasEdges, Traces}
use Rattle.cfa_calls.specs.Reaching.{row_of, Leads}
use Rattle.cfa_calls.specs.Reaching.Leads.{stay, step}

contains_map : {X Y : Type 0} (f : X → Y) (xs : List X) (x : X) → Contains xs x → Contains (map f xs) (f x)
contains_map f xs x at = (at.0, omega (arith, at.1, length-map xs f), get_or-map f xs at.0 x ∙ ap f at.2)

from_map : {X Y : Type 0} (f : X → Y) → (xs : List X) (y : Y) (k : ℕ) → k < length (map f xs) → get_or (map f xs) k y ≡ y
    → (x : X) × Contains xs x × (f x ≡ y)
from_map f [] y k h is = absurd (omega arith)
from_map f (x ∷ xs) y zero h is = (x, (0, omega arith, refl), is)
from_map f (x ∷ xs) y (suc k) h is = let r = from_map f xs y k (omega arith) is in (r.0, behind_one x xs r.0 r.1, r.2)

-- the names of a call are among those of all calls
names_at : (calls : List Call) (call : Call) (k : ℕ) → k < length calls → get_or calls k call ≡ call
    → Contains (names_of calls) call.caller × Contains (names_of calls) call.callee
names_at [] call k h is = absurd (omega arith)
names_at (c ∷ cs) call zero h is =
    subst (λ (x : Call). Contains (names_of (c ∷ cs)) x.caller × Contains (names_of (c ∷ cs)) x.callee) is ((0, omega arith, refl), (1, omega arith, refl))
names_at (c ∷ cs) call (suc k) h is =
    let r = names_at cs call k (omega arith) is in (
      behind_one c.caller (c.callee ∷ names_of cs) call.caller (behind_one c.callee (names_of cs) call.caller r.0),
      behind_one c.caller (c.callee ∷ names_of cs) call.callee (behind_one c.callee (names_of cs) call.callee r.1),
    )

abbrev Found : List (List ℕ) → List ℕ → Option ℕ → ℕ → Type 0
Found names name place i = (j : ℕ) × (place ≡ Some (i + j)) × (j < length names) × (get_or names j name ≡ name)

found_head : (other : List ℕ) (names : List (List ℕ)) (name : List ℕ) (i : ℕ)
    → ((k : ℕ) → k < length names → get_or names k name ≡ name → Found names name (position_from (bytes_eq name) (i + 1) names) (i + 1))
    → (b : Bool) → bytes_eq name other ≡ b → (k : ℕ) → k < length (other ∷ names) → get_or (other ∷ names) k name ≡ name
    → Found (other ∷ names) name (cond b (Some i) (position_from (bytes_eq name) (i + 1) names)) i
found_head other names name i rest true e k h is = (0, ap Some (omega arith), omega arith, sym (is_text name other e))
found_head other names name i rest false e zero h is = absurd (false≢true (sym e ∙ ap (bytes_eq name) is ∙ same_text name))
found_head other names name i rest false e (suc k) h is =
    let r = rest k (omega arith) is in
    (suc r.0, r.1 ∙ ap Some (omega arith), omega (arith, r.2), r.3)

found_from : (names : List (List ℕ)) (name : List ℕ) (i k : ℕ) → k < length names → get_or names k name ≡ name → Found names name (position_from (bytes_eq name) i names) i
found_from [] name i k h is = absurd (omega arith)
found_from (other ∷ names) name i k h is = found_head other names name i (found_from names name (i + 1)) (bytes_eq name other) refl k h is

-- a name among those that are numbered stands at its number
pub number_at : (names : List (List ℕ)) (name : List ℕ) → Contains names name → (number_in names name < length names) × (get_or names (number_in names name) name ≡ name)
number_at names name at =
    let r = found_from names name 0 at.0 at.1 at.2 in
    let found : place_of names name ≡ Some (0 + r.0) = position_from-zero (bytes_eq name) names ∙ r.1 in
    let number : number_in names name ≡ r.0 = ap (λ o. unwrap_or o 0) found ∙ (omega arith) in
    (omega (arith, r.2), ap (λ n. get_or names n name) number ∙ r.3)

same_number : (names : List (List ℕ)) (a b : List ℕ) → Contains names a → Contains names b → number_in names a ≡ number_in names b → a ≡ b
same_number names a b a_in b_in same =
    let at_a = number_at names a a_in in
    let at_b = number_at names b b_in in
    sym at_a.1 ∙ get_or_default names (number_in names a) a b at_a.0 ∙ ap (λ n. get_or names n b) same ∙ at_b.1

pub leads_up : (calls : List Call) (names : List (List ℕ)) (rows : List (List ℕ)) → HasEdges (map (edge_in names) calls) rows
    → (a b : List ℕ) → Reaches calls a b → Leads rows (number_in names a) (number_in names b)
leads_up calls names rows has a b here = stay
leads_up calls names rows has a b (onward call at rest) =
    step (number_in names call.caller) (number_in names call.callee)
    (has.each (edge_in names call) (contains_map (edge_in names) calls call at))
    (leads_up calls names rows has call.callee b rest)

pub leads_down : (calls : List Call) (names : List (List ℕ)) (rows : List (List ℕ)) → names ≡ names_of calls → HasEdges (map (edge_in names) calls) rows
    → (i j : ℕ) → Leads rows i j → (a b : List ℕ) → i ≡ number_in names a → j ≡ number_in names b → Contains names a → Contains names b → Reaches calls a b
leads_down calls names rows all has i j stay a b ia jb a_in b_in =
    subst (Reaches calls a) (same_number names a b a_in b_in (sym ia ∙ jb)) here
leads_down calls names rows all has i j (step node next edge rest) a b ia jb a_in b_in =
    let e = has.only node next edge in
    let c = from_map (edge_in names) calls e.0 e.1.0 e.1.1 e.1.2 in
    let both = names_at calls c.0 c.1.0 c.1.1 c.1.2 in
    let caller_in = subst (λ xs. Contains xs c.0.caller) (sym all) both.0 in
    let callee_in = subst (λ xs. Contains xs c.0.callee) (sym all) both.1 in
    let from : number_in names c.0.caller ≡ node = ap (λ (x : Edge). x.from) c.2 ∙ e.2 in
    let to : next ≡ number_in names c.0.callee = sym (ap (λ (x : Edge). x.to) c.2 ∙ e.3) in
    subst (λ x. Reaches calls x b) (same_number names c.0.caller a caller_in a_in (from ∙ ia))
    (onward c.0 c.1 (leads_down calls names rows all has next j rest c.0.callee b to jb callee_in b_in))

pub on_cycle_is : (calls : List Call) (names : List (List ℕ)) (rows : List (List ℕ)) (call : Call) (edge : Edge) → names ≡ names_of calls
    → HasEdges (map (edge_in names) calls) rows → Contains calls call → edge ≡ edge_in names call
    → Leads rows edge.to edge.from ↔ OnCycle calls call
on_cycle_is calls names rows call edge all has at is =
    let both = names_at calls call at.0 at.1 at.2 in
    let caller_in = subst (λ xs. Contains xs call.caller) (sym all) both.0 in
    let callee_in = subst (λ xs. Contains xs call.callee) (sym all) both.1 in (
      λ leads. leads_down calls names rows all has edge.to edge.from leads call.callee call.caller
          (ap (λ (x : Edge). x.to) is) (ap (λ (x : Edge). x.from) is) callee_in caller_in,
      λ reaches. subst (λ (x : Edge). Leads rows x.to x.from) (sym is) (leads_up calls names rows has call.callee call.caller reaches),
    )

pub edges_within : (calls : List Call) (names : List (List ℕ)) (n : ℕ) → names ≡ names_of calls → n ≡ length names
    → (edge : Edge) → Contains (map (edge_in names) calls) edge → (edge.from < n) × (edge.to < n)
edges_within calls names n all size edge at =
    let c = from_map (edge_in names) calls edge at.0 at.1 at.2 in
    let both = names_at calls c.0 c.1.0 c.1.1 c.1.2 in
    let from = number_at names c.0.caller (subst (λ xs. Contains xs c.0.caller) (sym all) both.0) in
    let to = number_at names c.0.callee (subst (λ xs. Contains xs c.0.callee) (sym all) both.1) in
    subst (λ (x : Edge). (x.from < n) × (x.to < n)) c.2 (omega (arith, from.0), omega (arith, to.0))

pub edges_from : (calls : List Call) (names : List (List ℕ)) (n : ℕ) (edges : List Edge) → names ≡ names_of calls → n ≡ length names
    → edges ≡ map (edge_in names) calls → All (λ (x : Edge). x.from < n) edges
edges_from calls names n edges all size is = subst (All (λ (x : Edge). x.from < n)) (sym is)
    (λ k d h. (edges_within calls names n all size (get_or (map (edge_in names) calls) k d) (Contains-get_or (map (edge_in names) calls) k d h)).0)

pub edges_to : (calls : List Call) (names : List (List ℕ)) (n : ℕ) (edges : List Edge) → names ≡ names_of calls → n ≡ length names
    → edges ≡ map (edge_in names) calls → All (λ (x : Edge). x.to < n) edges
edges_to calls names n edges all size is = subst (All (λ (x : Edge). x.to < n)) (sym is)
    (λ k d h. (edges_within calls names n all size (get_or (map (edge_in names) calls) k d) (Contains-get_or (map (edge_in names) calls) k d h)).1)

-- one edge more
pub edges_push : (edges : List Edge) (rows : List (List ℕ)) (new : Edge) → HasEdges edges rows → new.from < length rows
    → HasEdges (edges ++ new ∷ []) (set rows new.from (row_of rows new.from ++ new.to ∷ []))
edges_push edges rows new has h =
    let old = row_of rows new.from in
    let grown = set rows new.from (old ++ new.to ∷ []) in
    let at_new : row_of grown new.from ≡ old ++ new.to ∷ [] = get_or-set_same rows new.from (old ++ new.to ∷ []) [] h in
    let other : (node : ℕ) → node ≢ new.from → row_of grown node ≡ row_of rows node = λ node apart. get_or-set_other rows new.from node (old ++ new.to ∷ []) [] apart in
    let here : Contains (row_of grown new.from) new.to = subst (λ xs. Contains xs new.to) (sym at_new) (Contains-push old new.to) in
    let kept : (node next : ℕ) → Contains (row_of rows node) next → Contains (row_of grown node) next = λ node next at. ⊎_elim
    (λ (same : node ≡ new.from). subst (λ n. Contains (row_of grown n) next) (sym same)
    (subst (λ xs. Contains xs next) (sym at_new) (Contains-append_left old (new.to ∷ []) next (subst (λ n. Contains (row_of rows n) next) same at))))
    (λ (apart : node ≢ new.from). subst (λ xs. Contains xs next) (sym (other node apart)) at)
    (cases_eq node new.from) in
    let before : (node next : ℕ) → Contains (row_of rows node) next → (edge : Edge) × Contains (edges ++ new ∷ []) edge × (edge.from ≡ node) × (edge.to ≡ next) =
    λ node next at. let e = has.only node next at in (e.0, Contains-append_left edges (new ∷ []) e.0 e.1, e.2, e.3) in
    record {
      each = λ edge at. ⊎_elim
          (λ (was : Contains edges edge). kept edge.from edge.to (has.each edge was))
          (λ (is : new ≡ edge). subst (λ (x : Edge). Contains (row_of grown x.from) x.to) is here)
          (Contains-push_cases edges new edge at);
      only = λ node next at. ⊎_elim
          (λ (same : node ≡ new.from). ⊎_elim
          (λ (was : Contains old next). before node next (subst (λ n. Contains (row_of rows n) next) (sym same) was))
          (λ (is : new.to ≡ next). (new, Contains-push edges new, sym same, is))
          (Contains-push_cases old new.to next (subst (λ xs. Contains xs next) (ap (row_of grown) same ∙ at_new) at)))
          (λ (apart : node ≢ new.from). before node next (subst (λ xs. Contains xs next) (other node apart) at))
          (cases_eq node new.from);
    }

pub graph_more : (edges : List Edge) (i : ℕ) (d : Edge) (rows new : List (List ℕ)) → i < length edges → HasEdges (take i edges) rows
    → (get_or edges i d).from < length rows → new ≡ set rows (get_or edges i d).from (row_of rows (get_or edges i d).from ++ (get_or edges i d).to ∷ [])
    → HasEdges (take (i + 1) edges) new
graph_more edges i d rows new h has below is =
    subst (HasEdges (take (i + 1) edges)) (sym is)
    (subst (λ es. HasEdges es (set rows (get_or edges i d).from (row_of rows (get_or edges i d).from ++ (get_or edges i d).to ∷ []))) (sym (take_more edges i d h))
    (edges_push (take i edges) rows (get_or edges i d) has below))

pub edges_more : (names : List (List ℕ)) (calls : List CodeCall) (i : ℕ) (d : CodeCall) (edges new : List Edge) (from to : ℕ) → i < length calls
    → edges ≡ map (edge_in names) (seen_calls (take i calls)) → from ≡ number_in names (get_or calls i d).caller.now → to ≡ number_in names (get_or calls i d).callee.now
    → new ≡ edges ++ record { from = from; to = to } ∷ [] → new ≡ map (edge_in names) (seen_calls (take (i + 1) calls))
edges_more names calls i d edges new from to h is from_is to_is grown =
    let last : ◌≡◌ {A = Edge} (record { from = from; to = to }) (edge_in names (seen_call (get_or calls i d))) =
    ap (λ (n : ℕ). let edge : Edge = record { from = n; to = to } in edge) from_is
    ∙ ap (λ (n : ℕ). let edge : Edge = record { from = number_in names (get_or calls i d).caller.now; to = n } in edge) to_is in
    grown ∙ ap (λ es. es ++ record { from = from; to = to } ∷ []) is
    ∙ ap (λ (e : Edge). map (edge_in names) (seen_calls (take i calls)) ++ e ∷ []) last
    ∙ sym (map_push (edge_in names) (seen_calls (take i calls)) (seen_call (get_or calls i d)))
    ∙ ap (map (edge_in names)) (sym (map_push seen_call (take i calls) (get_or calls i d)))
    ∙ ap (λ cs. map (edge_in names) (seen_calls cs)) (sym (take_more calls i d h))

pub traces : (calls : List CodeCall) (names : List (List ℕ)) (edges : List Edge) (rows : List (List ℕ)) → names ≡ names_of (seen_calls calls)
    → edges ≡ map (edge_in names) (seen_calls calls) → HasEdges edges rows → length rows ≡ length names → Traces calls edges rows
traces calls names edges rows all is has size = record {
  sized = ap length is ∙ length-map (seen_calls calls) (edge_in names) ∙ length-map calls seen_call;
  from = edges_from (seen_calls calls) names (length rows) edges all size is;
  to = edges_to (seen_calls calls) names (length rows) edges all size is;
  exact = λ k call edge h.
      let here = get_or calls k call in
      let below : k < length (seen_calls calls) = omega (arith, length-map calls seen_call) in
      let at_call : get_or (seen_calls calls) k (seen_call here) ≡ seen_call here = get_or-map_any seen_call calls k call (seen_call here) h in
      let at_edge : get_or edges k edge ≡ edge_in names (seen_call here) =
      ap (λ es. get_or es k edge) is ∙ get_or-map_any (edge_in names) (seen_calls calls) k (seen_call here) edge below ∙ ap (edge_in names) at_call in
      on_cycle_is (seen_calls calls) names rows (seen_call here) (get_or edges k edge) all (subst (λ es. HasEdges es rows) is has) (k, below, at_call) at_edge;
}
