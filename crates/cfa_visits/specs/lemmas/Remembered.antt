-- What was found out of the promises of a bundle, and still holds while they are gone through.
use Rattle.std.proofs.Common.{◌≡◌, ℕ, List, Option, Some, None, OnOk, sym, ap, ◌∙◌, ◌+◌, ◌-◌, ◌<◌, length, get_or, set, map, IfSome, IsTrue, refl, subst, ⊎_elim, arith}
use Rattle.std.specs.Prelude.{Result, Ok, Err, option_map}
use Rattle.cfa_statuses.specs.Raised.{Raised, status_in}
use Rattle.cfa_resolve.specs.declared.instances.Resolved.{Resolved}
use Rattle.cfa_resolve.specs.Resolution.{resolution, reached_at}
use Rattle.cfa_tree.specs.Tree.{PolicyTree, ExprTree}
use Rattle.cfa_vars.specs.Scopes.{Table}
use Rattle.cfa_states.specs.declared.activations.Activation.{Activation}
use Rattle.cfa_states.specs.declared.remembering.Found.{Found}
use Rattle.cfa_states.specs.declared.remembering.Known.{Known}
use Rattle.cfa_states.specs.declared.remembering.Moment.{Moment}
use Rattle.cfa_states.specs.declared.states.State.{State}
use Rattle.cfa_states.specs.Kept.{scope_at, AreLater, IsNow, IsPast, GuardHolds, ResolutionHolds, RowHolds, guard_now, guard_value, resolution_now, Stands, GuardsRepeat, RowsHold, seen_numbered}
use Rattle.cfa_states.specs.Numbered.{Numbered}
use Rattle.cfa_states.specs.lemmas.Later.{at_most, as_next, as_first, no_more, are_then}
use Rattle.std.proofs.lemmas.Bool.{cases_eq}
use Rattle.std.proofs.lemmas.List.{get_or-set_same, get_or-set_other, get_or_default, get_or-map, length-map, length-set}
use Rattle.cfa_statuses.specs.declared.levels.Status.{Status}
use Rattle.cfa_output.specs.declared.ends.Stop.{Stop}
use Rattle.cfa_tree.specs.Plain.{plain_expr}
use Rattle.cfa_states.specs.declared.numbered.Numbered.{Numbered as Held}
use Rattle.cfa_states.specs.History.{History}
use Rattle.cfa_states.specs.Views.{Setting, guard_status}
use Rattle.cfa_states.specs.lemmas.Scopes.{guard_is}
use Rattle.cfa_visits.specs.Remembering.{BeforeHolds}

-- ---- both

pub then_are : {E : Type 0} (st st' st'' : State) (a a' a'' : Activation) (result : Result (Unit {0}) E) → AreLater st st' a a' → OnOk result (AreLater st' st'' a' a'') → OnOk result (AreLater st st'' a a'')
then_are st st' st'' a a' a'' (Ok done) first next = are_then st st' st'' a a' a'' first next
then_are st st' st'' a a' a'' (Err stop) first next = tt

-- ---- what was found out

module _ (st st' : State) (a a' : Activation) (later : AreLater st st' a a') (same : st'.changes ≡ st.changes) (same_here : a'.changes ≡ a.changes) where
  guard_same : (p : Numbered) → guard_now p st' a' ≡ guard_now p st a
  guard_same p =
      ap (λ (x : Raised). guard_value p.promise.guard x a'.local.statuses) (later.state.statuses same)
      ∙ ap (λ (x : Raised). guard_value p.promise.guard st.environment.statuses x) (later.here.statuses same_here)

  module _ (policy : PolicyTree) (p : Numbered) where
    abbrev resolved_by : (shared : List (List ℕ × Table)) → (place : Option ℕ) → (own : Table) → (bundle : List ℕ) → Raised → (path : List ℕ) → Resolved
    resolved_by shared place own bundle statuses path =
        resolution (reached_at policy p.id (record { own = scope_at shared place own; own_name = bundle; shared = shared }) (status_in statuses) path (p.type, p.promise))

    resolution_same : resolution_now policy p st' a' ≡ resolution_now policy p st a
    resolution_same =
        ap (λ (x : List (List ℕ × Table)). resolved_by x a'.place a'.own a'.bundle st'.environment.statuses a'.path) (later.state.shared same)
        ∙ (ap (λ (x : Option ℕ). resolved_by st.shared x a'.own a'.bundle st'.environment.statuses a'.path) later.here.place
        ∙ (ap (λ (x : Table). resolved_by st.shared a.place x a'.bundle st'.environment.statuses a'.path) (later.here.own same_here)
        ∙ (ap (λ (x : List ℕ). resolved_by st.shared a.place a.own x st'.environment.statuses a'.path) later.here.bundle
        ∙ (ap (λ (x : Raised). resolved_by st.shared a.place a.own a.bundle x a'.path) (later.state.statuses same)
        ∙ ap (λ (x : List ℕ). resolved_by st.shared a.place a.own a.bundle st.environment.statuses x) later.here.path))))

module _ (st st' : State) (a a' : Activation) (later : AreLater st st' a a') (m : Moment) (past : IsPast m st a) where
  still_past : IsPast m st' a'
  still_past = (at_most m.state st.changes st'.changes past.0 later.state.count, at_most m.activation a.changes a'.changes past.1 later.here.count)

  module _ (now : IsNow m st' a') where
    was_now : IsNow m st a
    was_now = (
      sym (as_first m.state st.changes st'.changes past.0 later.state.count (sym now.0)),
      sym (as_first m.activation a.changes a'.changes past.1 later.here.count (sym now.1)),
    )

    unchanged : st'.changes ≡ st.changes
    unchanged = as_next m.state st.changes st'.changes past.0 later.state.count (sym now.0)

    unchanged_here : a'.changes ≡ a.changes
    unchanged_here = as_next m.activation a.changes a'.changes past.1 later.here.count (sym now.1)

pub guard_later : (p : Numbered) (known : Known) (st st' : State) (a a' : Activation) → AreLater st st' a a' → GuardHolds p known st a → GuardHolds p known st' a'
guard_later p known st st' a a' later held = record {
  past = still_past st st' a a' later known.moment held.past;
  holds = λ now.
      held.holds (was_now st st' a a' later known.moment held.past now)
      ∙ sym (guard_same st st' a a' later (unchanged st st' a a' later known.moment held.past now) (unchanged_here st st' a a' later known.moment held.past now) p);
}

resolution_later : (policy : PolicyTree) (p : Numbered) (found : Found) (st st' : State) (a a' : Activation) → AreLater st st' a a' → ResolutionHolds policy p found st a →
    ResolutionHolds policy p found st' a'
resolution_later policy p found st st' a a' later held = record {
  past = still_past st st' a a' later found.moment held.past;
  holds = λ now.
      held.holds (was_now st st' a a' later found.moment held.past now)
      ∙ sym (resolution_same st st' a a' later (unchanged st st' a a' later found.moment held.past now) (unchanged_here st st' a a' later found.moment held.past now) policy p);
}

pub row_later : (policy : PolicyTree) (p : Numbered) (row : Option Found) (st st' : State) (a a' : Activation) → AreLater st st' a a' → RowHolds policy p row st a → RowHolds policy p row st' a'
row_later policy p None st st' a a' later held = tt
row_later policy p (Some found) st st' a a' later held = resolution_later policy p found st st' a a' later held

-- what was found out now
pub now_past : (m : Moment) (st : State) (a : Activation) → IsNow m st a → IsPast m st a
now_past m st a now = (no_more m.state st.changes now.0, no_more m.activation a.changes now.1)

pub guard_found : (p : Numbered) (known : Known) (st : State) (a : Activation) → IsNow known.moment st a → known.status ≡ guard_now p st a → GuardHolds p known st a
guard_found p known st a now is = record { past = now_past known.moment st a now; holds = λ _. is }

pub resolution_found : (policy : PolicyTree) (p : Numbered) (found : Found) (st st' : State) (a a' : Activation) → AreLater st st' a a' → IsNow found.moment st a → found.resolved ≡ resolution_now policy p st a →
    ResolutionHolds policy p found st' a'
resolution_found policy p found st st' a a' later now is =
    resolution_later policy p found st st' a a' later (record { past = now_past found.moment st a now; holds = λ _. is })

-- ---- the status of a guard

read_by : (st : State) (a : Activation) (guard : Status) (expr : Option ExprTree) → guard ≡ guard_value expr st.environment.statuses a.local.statuses →
    (s : Setting) (h : History) → Stands s st a h → guard ≡ guard_status s h a.path expr
read_by st a guard None is = λ s h stands. is
read_by st a guard (Some expr) is = λ s h stands. is ∙ guard_is s st a h expr st.environment.statuses a.local.statuses stands refl refl

pub guard_read : (st : State) (a : Activation) (p : Numbered) (guard : Status) → guard ≡ guard_now p st a → (s : Setting) (h : History) → Stands s st a h → guard ≡ guard_status s h a.path p.promise.guard
guard_read st a p guard is = read_by st a guard p.promise.guard is

guard_moved : (p q : Numbered) (known : Known) (st : State) (a : Activation) → p.promise.guard ≡ q.promise.guard → GuardHolds p known st a → GuardHolds q known st a
guard_moved p q known st a same held = record {
  past = held.past;
  holds = λ now. held.holds now ∙ ap (λ (x : Option ExprTree). guard_value x st.environment.statuses a.local.statuses) same;
}

guard_seen : (p q : Held) → p.promise.now.guard ≡ q.promise.now.guard → (seen_numbered p).promise.guard ≡ (seen_numbered q).promise.guard
guard_seen p q same = ap (option_map plain_expr) same

-- what is known of the promise before one that repeats its guard holds of that one
pub repeated_before : (ps : List Held) (i : ℕ) (p : Held) (before : Option Known) (st : State) (a : Activation) → GuardsRepeat ps → i < length ps → p ≡ get_or ps i p →
    BeforeHolds ps i before st a → IsTrue p.repeats → IfSome before (λ known. GuardHolds (seen_numbered p) known st a)
repeated_before ps i p None st a repeats within is held marked = tt
repeated_before ps i p (Some known) st a repeats within is held marked =
    let some : 0 < i = held.0 in
    let back : (i - 1) + 1 ≡ i = omega arith in
    let below : (i - 1) + 1 < length ps = omega arith in
    let there : get_or ps ((i - 1) + 1) p ≡ p = ap (λ (n : ℕ). get_or ps n p) back ∙ sym is in
    let said : IsTrue (get_or ps ((i - 1) + 1) p).repeats = subst (λ (q : Held). IsTrue q.repeats) (sym there) marked in
    let same : (get_or ps (i - 1) p).promise.now.guard ≡ p.promise.now.guard =
    sym (repeats (i - 1) p below said) ∙ ap (λ (q : Held). q.promise.now.guard) there in
    guard_moved (seen_numbered (get_or ps (i - 1) p)) (seen_numbered p) known st a (guard_seen (get_or ps (i - 1) p) p same) (held.1 p)

-- the promise at a place becomes the one before
pub before_next : (ps : List Held) (i : ℕ) (p : Held) (known : Known) (st st' : State) (a a' : Activation) → i < length ps → p ≡ get_or ps i p → AreLater st st' a a' →
    IsNow known.moment st a → known.status ≡ guard_now (seen_numbered p) st a → BeforeHolds ps (i + 1) (Some known) st' a'
before_next ps i p known st st' a a' within is later now status =
    let some : 0 < i + 1 = omega arith in
    let held : GuardHolds (seen_numbered p) known st' a' = guard_later (seen_numbered p) known st st' a a' later (guard_found (seen_numbered p) known st a now status) in (
      some,
      λ q.
          let back : (i + 1) - 1 ≡ i = omega arith in
          let there : p ≡ get_or ps ((i + 1) - 1) q = is ∙ get_or_default ps i p q within ∙ ap (λ (n : ℕ). get_or ps n q) (sym back) in
          subst (λ (x : Held). GuardHolds (seen_numbered x) known st' a') there held,
    )

-- ---- rows

pub row_ok : (policy : PolicyTree) (p : Numbered) (row : Option Found) (st st' : State) (a a' : Activation) (result : Result (Unit {0}) Stop) →
    OnOk result (AreLater st st' a a') → RowHolds policy p row st a → OnOk result (RowHolds policy p row st' a')
row_ok policy p row st st' a a' (Ok done) later held = row_later policy p row st st' a a' later held
row_ok policy p row st st' a a' (Err stop) later held = tt

-- the promise at a place, as it is seen
pub inside_map : (ps : List Held) (i : ℕ) → i < length ps → i < length (map seen_numbered ps)
inside_map ps i within = let long = length-map ps seen_numbered in omega (arith, long)

pub seen_at : (ps : List Held) (i : ℕ) (p : Held) (q : Numbered) → i < length ps → p ≡ get_or ps i p → seen_numbered p ≡ get_or (map seen_numbered ps) i q
seen_at ps i p q within is = ap seen_numbered is ∙ sym (get_or-map seen_numbered ps i p q within)

pub row_at : (policy : PolicyTree) (ps : List Held) (rows : List (Option Found)) (i : ℕ) (p : Held) (st : State) (a : Activation) → i < length ps → p ≡ get_or ps i p →
    RowsHold policy (map seen_numbered ps) rows st a → RowHolds policy (seen_numbered p) (get_or rows i None) st a
row_at policy ps rows i p st a within is held =
    subst (λ (x : Numbered). RowHolds policy x (get_or rows i None) st a) (sym (seen_at ps i p (seen_numbered p) within is))
    (held.each i (seen_numbered p) (inside_map ps i within))

-- the row at a place is set, and the others hold on
pub rows_set : (policy : PolicyTree) (ps : List Numbered) (rows : List (Option Found)) (place : ℕ) (row : Option Found) (st st' : State) (a a' : Activation) → AreLater st st' a a' →
    place < length ps → RowsHold policy ps rows st a → ((p : Numbered) → RowHolds policy (get_or ps place p) row st' a') → RowsHold policy ps (set rows place row) st' a'
rows_set policy ps rows place row st st' a a' later within held here = record {
  count = length-set rows place row ∙ held.count;
  each = λ i p lt.
      let inside : place < length rows = omega (arith, held.count) in
      ⊎_elim
      (λ (same : i ≡ place).
      subst (λ (x : Option Found). RowHolds policy (get_or ps i p) x st' a') (sym (ap (λ (n : ℕ). get_or (set rows place row) n None) same ∙ get_or-set_same rows place row None inside))
      (subst (λ (n : ℕ). RowHolds policy (get_or ps n p) row st' a') (sym same) (here p)))
      (λ (other : i ≡ place → ⊥).
      subst (λ (x : Option Found). RowHolds policy (get_or ps i p) x st' a') (sym (get_or-set_other rows place i row None other))
      (row_later policy (get_or ps i p) (get_or rows i None) st st' a a' later (held.each i p lt)))
      (cases_eq i place);
}
