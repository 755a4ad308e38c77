-- Of the code alone: what is kept of a history while it is made, and of an activation, and what follows from it.
use Rattle.std.specs.Prelude.{◌≡◌, ℕ, ◌+◌, ◌<◌, ⊤, false, List, [], Option, Some, None, slice_get, length, unwrap_or, option_map, ◌≤◌, ◌-◌, IsTrue, get_or}
use Rattle.std.specs.Option.{option_or}
use Rattle.std.specs.FinMap as finite
use Rattle.cfa_base.specs.TextMaps.{TextMap}
use Rattle.cfa_statuses.specs.declared.levels.Status.{Status}
use Rattle.cfa_statuses.specs.declared.levels.Status.TheVariants.{No, Yes}
use Rattle.cfa_outcomes.specs.declared.outcomes.Outcome.TheVariants.{Kept}
use Rattle.cfa_outcomes.specs.Environments.{status_of, source_of, mark_of, EnvironmentMaps}
use Rattle.cfa_tree.specs.Tree.{PolicyTree, ExprTree}
use Rattle.cfa_vars.specs.Scopes.{Table, InScope}
use Rattle.cfa_base.specs.Index.{is_listed}
use Rattle.cfa_states.specs.declared.states.State.{State}
use Rattle.cfa_states.specs.declared.activations.Activation.{Activation}
use Rattle.cfa_states.specs.declared.waits.Wait.{Wait}
use Rattle.cfa_states.specs.History.{History, scope_in, locally, global_source, local_source, mark_in, visits_in}
use Rattle.cfa_states.specs.Passes.{most_visits}
use Rattle.cfa_states.specs.Logs.{Rows}
use Rattle.cfa_states.specs.Tellers.{worst_in}
use Rattle.cfa_states.specs.Waits.{wait_of_call, waits_in}
use Rattle.cfa_states.specs.Walks.{listed_instances, listings, unsettled_promises}
use Rattle.cfa_states.specs.Views.{Setting, Home, global_status, shared_names, shared_in}
use Rattle.cfa_base.specs.declared.places.PromiseId.{PromiseId}
use Rattle.cfa_statuses.specs.Status.{greater, value_of}
use Rattle.cfa_statuses.specs.Raised.{Raised, status_in, greater_in}
use Rattle.cfa_resolve.specs.Instances.{Reached}
use Rattle.cfa_resolve.specs.declared.instances.Resolved.{Resolved}
use Rattle.cfa_resolve.specs.Resolution.{resolution, reached_at}
use Rattle.cfa_tree.specs.declared.expressions.Expr.{Expr}
use Rattle.cfa_states.specs.declared.numbered.Numbered.{Numbered as Held}
use Rattle.cfa_states.specs.declared.remembering.Found.{Found}
use Rattle.cfa_states.specs.declared.remembering.Known.{Known}
use Rattle.cfa_states.specs.declared.remembering.Moment.{Moment}
use Rattle.cfa_states.specs.Numbered.{Numbered}
use Rattle.cfa_tree.specs.Plain.{plain_promise}

-- What is kept of a history while it is made. The statuses and sources of global classes, the marks of
-- instances, the shared scopes, how many visits are left, what the first visits of calls waited for, and where
-- a walk is asked for what it lists; and of an activation its local classes, its scope, the worst outcome in it
-- so far, and what the instances of the promise that was reached last wait for.

abbrev pub first : {X Y : Type 0} → X × Y → X
first pair = pair.0

abbrev pub second : {X Y : Type 0} → X × Y → Y
second pair = pair.1

-- what is kept at a path, if anything is
abbrev pub wait_at : Option (TextMap Wait) → (path : List ℕ) → Option Wait
wait_at None path = None
wait_at (Some calls) path = finite.get calls path

-- what the first visits of calls waited for
abbrev pub KeepsWaits : Setting → Option (TextMap Wait) → History → Type 0
KeepsWaits s calls h = (path : List ℕ) → wait_at calls path ≡ wait_of_call s h path

-- what a walk lists, where it is asked for
abbrev pub KeepsLog : Setting → Option Rows → History → Type 0
KeepsLog s None h = ⊤
KeepsLog s (Some log) h =
    (log.0 ≡ listed_instances h) × ((log.1 ≡ listings s h) × (log.2 ≡ unsettled_promises s h))

-- what the state keeps
abbrev pub Keeps : Setting → State → History → Type 0
Keeps s st h =
    ((class : List ℕ) → status_of st.environment class ≡ global_status s h class)
    × (((class : List ℕ) → source_of st.environment class ≡ global_source h class)
    × (((path text : List ℕ) → mark_of st.environment path text ≡ mark_in h path text)
    × ((st.shared ≡ shared_in s.policy h)
    × ((st.left + visits_in h ≡ most_visits)
    × (KeepsWaits s st.calls h × KeepsLog s st.log h)))))

-- the scope of an activation is one of the shared ones, or a scope of its own, whose path no shared one has
abbrev pub OwnScope : PolicyTree → Option ℕ → Table → (path : List ℕ) → History → Type 0
OwnScope policy None own path h = (own ≡ scope_in h path) × (is_listed (shared_names policy) path ≡ false)
OwnScope policy (Some place) own path h = slice_get (shared_names policy) place ≡ Some path

-- the scope at a place, or another where there is none
abbrev pub scope_at : (shared : List (List ℕ × Table)) → (place : Option ℕ) → (own : Table) → Table
scope_at shared None own = own
scope_at shared (Some place) own = unwrap_or (option_map second (slice_get shared place)) own

-- what an activation keeps
abbrev pub KeepsLocally : Setting → Activation → History → Type 0
KeepsLocally s a h =
    ((class : List ℕ) → status_of a.local class ≡ locally h a.path class)
    × (((class : List ℕ) → source_of a.local class ≡ local_source h a.path class)
    × (((a.worst ≡ worst_in h a.path) × (a.waits ≡ waits_in s h a.path))
    × OwnScope s.policy a.place a.own a.path h))

abbrev pub Stands : Setting → State → Activation → History → Type 0
Stands s st a h = Keeps s st h × KeepsLocally s a h

abbrev pub home_of : Activation → Home
home_of a = record { path = a.path; bundle = a.bundle }

-- it is the same activation, with the same status
pub record IsSame (a a' : Activation) : Type 0 where
  pub path : a'.path ≡ a.path
  pub bundle : a'.bundle ≡ a.bundle
  pub status : a'.status ≡ a.status
  pub place : a'.place ≡ a.place

-- it is an activation of a bundle under a path, with a status
pub record IsOf (its_path its_bundle : List ℕ) (its_status : Status) (a : Activation) : Type 0 where
  pub path : a.path ≡ its_path
  pub bundle : a.bundle ≡ its_bundle
  pub status : a.status ≡ its_status

-- nothing has happened in it
pub record IsFresh (a : Activation) : Type 0 where
  pub statuses : (class : List ℕ) → status_of a.local class ≡ No
  pub sources : (class : List ℕ) → source_of a.local class ≡ None
  pub worst : a.worst ≡ Kept
  pub waits : a.waits ≡ None
  pub own : a.own ≡ []

-- no more was kept of a path than of an activation that has just begun
pub record IsUntouched (h : History) (path : List ℕ) : Type 0 where
  pub statuses : (class : List ℕ) → locally h path class ≡ No
  pub sources : (class : List ℕ) → local_source h path class ≡ None
  pub worst : worst_in h path ≡ Kept
  pub waits : (s : Setting) → waits_in s h path ≡ None

-- what was local to shorter paths is as it was
pub record SpareShorter (bound : ℕ) (h k : History) : Type 0 where
  pub locals : (path class : List ℕ) → length path < bound → locally k path class ≡ locally h path class
  pub sources : (path class : List ℕ) → length path < bound → local_source k path class ≡ local_source h path class
  pub worst : (path : List ℕ) → length path < bound → worst_in k path ≡ worst_in h path
  pub waits : (s : Setting) (path : List ℕ) → length path < bound → waits_in s k path ≡ waits_in s h path
  pub scopes : (path : List ℕ) → length path < bound → scope_in k path ≡ scope_in h path

-- what was local to any path is as it was
pub record SpareLocals (h k : History) : Type 0 where
  pub locals : (path class : List ℕ) → locally k path class ≡ locally h path class
  pub sources : (path class : List ℕ) → local_source k path class ≡ local_source h path class
  pub worst : (path : List ℕ) → worst_in k path ≡ worst_in h path
  pub waits : (s : Setting) (path : List ℕ) → waits_in s k path ≡ waits_in s h path

-- A state that is followed by another, and an activation that is. A state counts the changes of the statuses of
-- global classes and of the shared scopes, and an activation those of its local classes and of its scope: where
-- the count is as it was, so is what it counts.

pub record IsLater (st st' : State) : Type 0 where
  pub count : st.changes ≤ st'.changes
  pub statuses : st'.changes ≡ st.changes → st'.environment.statuses ≡ st.environment.statuses
  pub shared : st'.changes ≡ st.changes → st'.shared ≡ st.shared

-- the same activation later
pub record IsLaterHere (a a' : Activation) : Type 0 where
  pub path : a'.path ≡ a.path
  pub bundle : a'.bundle ≡ a.bundle
  pub place : a'.place ≡ a.place
  pub count : a.changes ≤ a'.changes
  pub statuses : a'.changes ≡ a.changes → a'.local.statuses ≡ a.local.statuses
  pub own : a'.changes ≡ a.changes → a'.own ≡ a.own

pub record AreLater (st st' : State) (a a' : Activation) : Type 0 where
  pub state : IsLater st st'
  pub here : IsLaterHere a a'

-- a raise leaves the status and the source of its class as they are
pub record IsRaised (e : EnvironmentMaps) (class : List ℕ) (to : Status) (source : Option PromiseId) : Type 0 where
  pub status : greater (status_of e class) to ≡ status_of e class
  pub source_of : option_or (source_of e class) source ≡ source_of e class

-- What was found out of a promise at a moment holds until something changes that it hangs on.

-- ---- what is read

abbrev pub guard_value : Option ExprTree → (global local : Raised) → Status
guard_value None global local = Yes
guard_value (Some guard) global local = value_of guard (greater_in global local)

-- the status of the guard of a promise
abbrev pub guard_now : Numbered → State → Activation → Status
guard_now p st a = guard_value p.promise.guard st.environment.statuses a.local.statuses

abbrev pub scopes_now : State → Activation → InScope
scopes_now st a = record { own = scope_at st.shared a.place a.own; own_name = a.bundle; shared = st.shared }

abbrev pub reached_now : PolicyTree → Numbered → State → Activation → Reached
reached_now policy p st a = reached_at policy p.id (scopes_now st a) (status_in st.environment.statuses) a.path (p.type, p.promise)

-- what a promise resolves to
abbrev pub resolution_now : PolicyTree → Numbered → State → Activation → Resolved
resolution_now policy p st a = resolution (reached_now policy p st a)

-- ---- moments

abbrev pub IsNow : Moment → State → Activation → Type 0
IsNow m st a = (m.state ≡ st.changes) × (m.activation ≡ a.changes)

abbrev pub IsPast : Moment → State → Activation → Type 0
IsPast m st a = (m.state ≤ st.changes) × (m.activation ≤ a.changes)

-- ---- what was found out

pub record GuardHolds (p : Numbered) (known : Known) (st : State) (a : Activation) : Type 0 where
  pub past : IsPast known.moment st a
  pub holds : IsNow known.moment st a → known.status ≡ guard_now p st a

pub record ResolutionHolds (policy : PolicyTree) (p : Numbered) (found : Found) (st : State) (a : Activation) : Type 0 where
  pub past : IsPast found.moment st a
  pub holds : IsNow found.moment st a → found.resolved ≡ resolution_now policy p st a

-- what was found out of a promise, if anything was
abbrev pub RowHolds : PolicyTree → Numbered → Option Found → State → Activation → Type 0
RowHolds policy p None st a = ⊤
RowHolds policy p (Some found) st a = ResolutionHolds policy p found st a

-- a row for each promise
pub record RowsHold (policy : PolicyTree) (ps : List Numbered) (rows : List (Option Found)) (st : State) (a : Activation) : Type 0 where
  pub count : length rows ≡ length ps
  pub each : (i : ℕ) (p : Numbered) → i < length ps → RowHolds policy (get_or ps i p) (get_or rows i None) st a

-- ---- guards that stand for several promises

-- the promise that repeats a guard stands under that of the one before it
abbrev pub GuardsRepeat : List Held → Type 0
GuardsRepeat ps =
    (i : ℕ) (p : Held) → i + 1 < length ps → IsTrue (get_or ps (i + 1) p).repeats →
    (get_or ps (i + 1) p).promise.now.guard ≡ (get_or ps i p).promise.now.guard

-- the last promise stands under this guard
pub record StandsLast (ps : List Held) (its_guard : Option Expr) : Type 0 where
  pub some : 0 < length ps
  pub guard : (p : Held) → (get_or ps (length ps - 1) p).promise.now.guard ≡ its_guard

-- A promise of a bundle with its id and its type, without where it lies in memory.

abbrev pub seen_numbered : Held → Numbered
seen_numbered p = record { id = p.id; type = p.promise_type; promise = plain_promise p.promise.now }
