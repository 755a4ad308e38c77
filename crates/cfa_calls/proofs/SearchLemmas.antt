use Rattle.std.proofs.Common.{◌≡◌, ◌≢◌, ℕ, zero, suc, ◌+◌, ◌<◌, ◌≤◌, ◌⊎◌, Bool, true, false, cond, List, [], ◌∷◌, ◌++◌, length, get_or, take, sym, ap, subst, refl, ◌∙◌, arith, ⊎_elim}
use Rattle.std.specs.List.{Contains}
use Rattle.std.proofs.Math.ListN.{set, length-set, replicate}
use Rattle.std.proofs.Math.Seq.{get_or-append_seam}
use Rattle.std.proofs.lemmas.List.{get_or-set_same, get_or-set_other, get_or_append_left, length-replicate, length_push, take_more, take_all}
use Rattle.std.proofs.lemmas.List.Elements.{Contains-push_cases, Contains-get_or}
use Rattle.std.proofs.lemmas.Bool.{false≢true, cases_eq}
use Rattle.cfa_calls.specs.Reaching.{row_of, Leads, IsWithin, Seen, unseen, IsReached, Search}
use Rattle.cfa_calls.specs.Reaching.Leads.{stay, step}

pub seen_within : (seen : List Bool) (node : ℕ) → Seen seen node → node < length seen
seen_within [] node s = absurd (false≢true s)
seen_within (b ∷ bs) zero s = omega arith
seen_within (b ∷ bs) (suc i) s = let h = seen_within bs i s in omega arith

unseen-set : (seen : List Bool) (i : ℕ) → i < length seen → get_or seen i false ≡ false → unseen (set seen i true) + 1 ≡ unseen seen
unseen-set [] i h e = absurd (omega arith)
unseen-set (b ∷ bs) zero h e = let one : 1 + unseen bs ≡ unseen (b ∷ bs) = ap (λ x. cond x 0 1 + unseen bs) (sym e) in omega arith
unseen-set (b ∷ bs) (suc i) h e = let more = unseen-set bs i (omega arith) e in omega arith

unseen-replicate : (n : ℕ) → unseen (replicate n false) ≡ n
unseen-replicate zero = refl
unseen-replicate (suc n) = let more = unseen-replicate n in omega arith

blank_at : (n node : ℕ) → get_or (replicate n false) node false ≡ false
blank_at zero node = refl
blank_at (suc n) zero = refl
blank_at (suc n) (suc node) = blank_at n node

same_or_other : (a b : ℕ) → (a ≡ b) ⊎ (a ≢ b)
same_or_other a b = cases_eq a b

seen_set : (seen : List Bool) (next : ℕ) → next < length seen → Seen (set seen next true) next
seen_set seen next h = get_or-set_same seen next true false h

seen_before : (seen : List Bool) (next node : ℕ) → node ≢ next → Seen (set seen next true) node → Seen seen node
seen_before seen next node apart s = sym (get_or-set_other seen next node true false apart) ∙ s

seen_still : (seen : List Bool) (next : ℕ) → next < length seen → (node : ℕ) → Seen seen node → Seen (set seen next true) node
seen_still seen next h node s = ⊎_elim
    (λ (same : node ≡ next). subst (Seen (set seen next true)) (sym same) (seen_set seen next h))
    (λ (apart : node ≢ next). get_or-set_other seen next node true false apart ∙ s)
    (same_or_other node next)

-- one edge more at the end of a chain
leads_on : (rows : List (List ℕ)) (from node next : ℕ) → Leads rows from node → Contains (row_of rows node) next → Leads rows from next
leads_on rows from node next stay at = step node next at stay
leads_on rows from node next (step a b edge rest) at = step a b edge (leads_on rows b node next rest at)

closed_all : (rows : List (List ℕ)) (seen : List Bool) → ((node next : ℕ) → Seen seen node → Contains (row_of rows node) next → Seen seen next)
    → (from to : ℕ) → Leads rows from to → Seen seen from → Seen seen to
closed_all rows seen closed from to stay s = s
closed_all rows seen closed from to (step a b edge rest) s = closed_all rows seen closed b to rest (closed a b s edge)

pub search_end : (rows : List (List ℕ)) (first : ℕ) (seen : List Bool) (order : List ℕ) (done : ℕ) (turn : List ℕ)
    → Search rows first seen order done turn → length order ≤ done → IsReached rows first seen
search_end rows first seen order done turn s all = record {
  sized = s.sized;
  exact = λ node. (
    s.sound node,
    λ leads. closed_all rows seen (λ (a b : ℕ) (h : Seen seen a) (edge : Contains (row_of rows a) b).
        let at = s.listed a h in
        s.closed at.0 b (omega arith) (subst (λ x. Contains (row_of rows x) b) (sym at.2) edge)) first node leads s.begun,
  );
}

none_in_empty : (x : ℕ) → Contains [] x → ⊥
none_in_empty x h = let k = h.0 in let below : k < 0 = h.1 in omega arith

pub search_begin : (rows : List (List ℕ)) (first n : ℕ) (seen : List Bool) → n ≡ length rows → first < n → seen ≡ set (replicate n false) first true
    → Search rows first seen (first ∷ []) 0 []
search_begin rows first n seen e h is =
    let blank = replicate n false in
    let none : (node : ℕ) → get_or blank node false ≡ false = λ node. blank_at n node in
    let size : length blank ≡ n = length-replicate n false in
    subst (λ s. Search rows first s (first ∷ []) 0 []) (sym is) (record {
      sized = length-set blank first true ∙ size ∙ e;
      begun = seen_set blank first (omega arith);
      sound = λ node s. ⊎_elim
          (λ (same : node ≡ first). subst (Leads rows first) (sym same) stay)
          (λ (apart : node ≢ first). absurd (false≢true (sym (none node) ∙ seen_before blank first node apart s)))
          (same_or_other node first);
      listed = λ node s. ⊎_elim
          (λ (same : node ≡ first). (0, omega arith, sym same))
          (λ (apart : node ≢ first). absurd (false≢true (sym (none node) ∙ seen_before blank first node apart s)))
          (same_or_other node first);
      marked = λ k below. let zeroth : k ≡ 0 = omega arith in subst (λ x. Seen (set blank first true) (get_or (first ∷ []) x 0)) (sym zeroth) (seen_set blank first (omega arith));
      behind = omega arith;
      closed = λ k next below edge. absurd (omega arith);
      turned = λ next at. absurd (none_in_empty next at);
      counted = let left = unseen-set blank first (omega arith) (none first) in let all = unseen-replicate n in omega arith;
    })

pub search_seen : (rows : List (List ℕ)) (first : ℕ) (seen : List Bool) (order : List ℕ) (done : ℕ) (turn : List ℕ) (next : ℕ)
    → Search rows first seen order done turn → Seen seen next → Search rows first seen order done (turn ++ next ∷ [])
search_seen rows first seen order done turn next s is = record {
  sized = s.sized;
  begun = s.begun;
  sound = s.sound;
  listed = s.listed;
  marked = s.marked;
  behind = s.behind;
  closed = s.closed;
  turned = λ other at. ⊎_elim (λ (before : Contains turn other). s.turned other before) (λ (same : next ≡ other). subst (Seen seen) same is)
      (Contains-push_cases turn next other at);
  counted = s.counted;
}

pub search_new : (rows : List (List ℕ)) (first : ℕ) (seen : List Bool) (order : List ℕ) (done : ℕ) (turn : List ℕ) (node next : ℕ)
    → Search rows first seen order done turn → Seen seen node → Contains (row_of rows node) next → next < length rows → get_or seen next false ≡ false
    → Search rows first (set seen next true) (order ++ next ∷ []) done (turn ++ next ∷ [])
search_new rows first seen order done turn node next s at edge below new =
    let size : length seen ≡ length rows = s.sized in
    let still = seen_still seen next (omega arith) in
    let grown : length (order ++ next ∷ []) ≡ length order + 1 = length_push order next in
    let old : (k : ℕ) → k < length order → get_or (order ++ next ∷ []) k 0 ≡ get_or order k 0 = get_or_append_left order (next ∷ []) 0 in
    let last : get_or (order ++ next ∷ []) (length order) 0 ≡ next = get_or-append_seam order next [] 0 in
    let behind : done ≤ length order = s.behind in
    record {
      sized = length-set seen next true ∙ size;
      begun = still first s.begun;
      sound = λ other is. ⊎_elim
          (λ (same : other ≡ next). subst (Leads rows first) (sym same) (leads_on rows first node next (s.sound node at) edge))
          (λ (apart : other ≢ next). s.sound other (seen_before seen next other apart is))
          (same_or_other other next);
      listed = λ other is. ⊎_elim
          (λ (same : other ≡ next). (length order, omega arith, last ∙ sym same))
          (λ (apart : other ≢ next). let was = s.listed other (seen_before seen next other apart is) in (was.0, omega (arith, was.1), old was.0 was.1 ∙ was.2))
          (same_or_other other next);
      marked = λ k h. ⊎_elim
          (λ (same : k ≡ length order). subst (Seen (set seen next true)) (sym (ap (λ j. get_or (order ++ next ∷ []) j 0) same ∙ last)) (seen_set seen next (omega arith)))
          (λ (apart : k ≢ length order). let h2 : k < length order = omega arith in still (get_or (order ++ next ∷ []) k 0) (subst (Seen seen) (sym (old k h2)) (s.marked k h2)))
          (same_or_other k (length order));
      behind = omega arith;
      closed = λ k other h there. still other (s.closed k other h (subst (λ x. Contains (row_of rows x) other) (old k (omega arith)) there));
      turned = λ other there. ⊎_elim (λ (before : Contains turn other). still other (s.turned other before)) (λ (same : next ≡ other). subst (Seen (set seen next true)) same (seen_set seen next (omega arith)))
          (Contains-push_cases turn next other there);
      counted = let left = unseen-set seen next (omega arith) new in let count = s.counted in omega arith;
    }

pub search_turn : (rows : List (List ℕ)) (first : ℕ) (seen : List Bool) (order : List ℕ) (done : ℕ) (turn : List ℕ)
    → Search rows first seen order done turn → done < length order → turn ≡ row_of rows (get_or order done 0)
    → Search rows first seen order (done + 1) []
search_turn rows first seen order done turn s h is = record {
  sized = s.sized;
  begun = s.begun;
  sound = s.sound;
  listed = s.listed;
  marked = s.marked;
  behind = omega arith;
  closed = λ k next below edge. ⊎_elim
      (λ (same : k ≡ done). s.turned next (subst (λ xs. Contains xs next) (sym is) (subst (λ x. Contains (row_of rows (get_or order x 0)) next) same edge)))
      (λ (apart : k ≢ done). s.closed k next (omega arith) edge)
      (same_or_other k done);
  turned = λ next at. absurd (none_in_empty next at);
  counted = s.counted;
}

-- a node of the order is one of the nodes
pub search_inside : (rows : List (List ℕ)) (first : ℕ) (seen : List Bool) (order : List ℕ) (done : ℕ) (turn : List ℕ)
    → Search rows first seen order done turn → (k : ℕ) → k < length order → get_or order k 0 < length rows
search_inside rows first seen order done turn s k h =
    let size : length seen ≡ length rows = s.sized in
    let inside = seen_within seen (get_or order k 0) (s.marked k h) in
    omega arith

-- the node at a place of the row of node
pub edge_at : (rows : List (List ℕ)) (row : List ℕ) (node i : ℕ) → row ≡ row_of rows node → i < length row → Contains (row_of rows node) (get_or row i 0)
edge_at rows row node i is h = subst (λ xs. Contains xs (get_or row i 0)) is (Contains-get_or row i 0 h)

pub edge_within : (rows : List (List ℕ)) (row : List ℕ) (node i : ℕ) → IsWithin rows → row ≡ row_of rows node → i < length row → get_or row i 0 < length rows
edge_within rows row node i w is h = w.within node (get_or row i 0) (edge_at rows row node i is h)

-- the edges of a row in turn: to a node that is marked already, to one that is new, and the end of the row
pub follow_seen : (rows : List (List ℕ)) (first : ℕ) (seen : List Bool) (order : List ℕ) (at : ℕ) (row : List ℕ) (i : ℕ)
    → Search rows first seen order at (take i row) → i < length row → Seen seen (get_or row i 0)
    → Search rows first seen order at (take (i + 1) row)
follow_seen rows first seen order at row i s h is =
    subst (Search rows first seen order at) (sym (take_more row i 0 h)) (search_seen rows first seen order at (take i row) (get_or row i 0) s is)

pub follow_new : (rows : List (List ℕ)) (first : ℕ) (seen : List Bool) (order grown : List ℕ) (at : ℕ) (row : List ℕ) (i node : ℕ)
    → Search rows first seen order at (take i row) → IsWithin rows → at < length order → get_or order at 0 ≡ node → row ≡ row_of rows node
    → i < length row → get_or seen (get_or row i 0) false ≡ false → grown ≡ order ++ get_or row i 0 ∷ []
    → Search rows first (set seen (get_or row i 0) true) grown at (take (i + 1) row)
follow_new rows first seen order grown at row i node s w placed node_is row_is h new grown_is =
    let next = get_or row i 0 in
    let marked : Seen seen node = subst (Seen seen) node_is (s.marked at placed) in
    subst (λ xs. Search rows first (set seen next true) xs at (take (i + 1) row)) (sym grown_is)
    (subst (Search rows first (set seen next true) (order ++ next ∷ []) at) (sym (take_more row i 0 h))
    (search_new rows first seen order at (take i row) node next s marked (edge_at rows row node i row_is h) (edge_within rows row node i w row_is h) new))

pub follow_end : (rows : List (List ℕ)) (first : ℕ) (seen : List Bool) (order : List ℕ) (at : ℕ) (row : List ℕ) (i node : ℕ)
    → Search rows first seen order at (take i row) → at < length order → get_or order at 0 ≡ node → row ≡ row_of rows node → length row ≤ i
    → Search rows first seen order (at + 1) []
follow_end rows first seen order at row i node s placed node_is row_is h =
    search_turn rows first seen order at (take i row) s placed (take_all i row h ∙ row_is ∙ ap (row_of rows) (sym node_is))
