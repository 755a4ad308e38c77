-- What an activation's own events make of what is kept of it, and what is kept of one that begins.
use Rattle.std.proofs.Common.{◌≡◌, ◌≢◌, ℕ, ◌+◌, ◌≤◌, true, false, cond, List, [], ◌∷◌, length, map, Option, Some, None, refl, sym, ap, subst, ◌∙◌, arith}
use Rattle.std.specs.Prelude.{◌&&◌, option_and_then, slice_get, slice_set}
use Rattle.std.specs.Option.{option_or}
use Rattle.std.specs.Str.{bytes_eq}
use Rattle.std.proofs.Math.Path.{fun_ext}
use Rattle.std.proofs.lemmas.Option.{none-some, same_Some, slice_get_within}
use Rattle.std.proofs.lemmas.Slice.Eq.{bytes_eq-Decides}
use Rattle.cfa_base.specs.declared.places.PromiseId.{PromiseId}
use Rattle.cfa_statuses.specs.declared.levels.Status.{Status}
use Rattle.cfa_statuses.specs.declared.levels.Status.TheVariants.{No}
use Rattle.cfa_statuses.specs.Raised.{Raised as StatusMap, greater_in}
use Rattle.cfa_statuses.specs.Status.{greater}
use Rattle.cfa_outcomes.specs.Environments.{EnvironmentMaps, status_of, source_of, mark_of}
use Rattle.cfa_outcomes.specs.declared.outcomes.Outcome.TheVariants.{Kept}
use Rattle.cfa_tree.specs.Tree.{ExprTree}
use Rattle.cfa_vars.specs.declared.scoping.Datum.{Datum}
use Rattle.cfa_vars.specs.Named.{put, thing_at}
use Rattle.cfa_vars.specs.Scopes.{Table}
use Rattle.cfa_base.specs.Index.{is_listed}
use Rattle.cfa_states.specs.declared.activations.Activation.{Activation}
use Rattle.cfa_states.specs.declared.states.State.{State}
use Rattle.cfa_states.specs.History.{History, Event, Begun, Set, Raised, within, scope_in, locally, local_source, source_in, visits_in}
use Rattle.cfa_states.specs.Kept.{Keeps, KeepsLocally, Stands, OwnScope, IsFresh, IsUntouched, KeepsLog, wait_at, scope_at, first, scopes_now}
use Rattle.cfa_base.specs.TextMaps.{TextMap}
use Rattle.cfa_base.specs.lemmas.EqualTexts.{same_text, is_text}
use Rattle.cfa_states.specs.declared.waits.Wait.{Wait}
use Rattle.cfa_states.specs.Logs.{Rows}
use Rattle.cfa_states.specs.Tellers.{worst_in}
use Rattle.cfa_defines.specs.FirstMaybe.{first_maybe_of_guard}
use Rattle.cfa_states.specs.Waits.{wait_on, wait_of_guard, waits_in}
use Rattle.cfa_states.specs.Views.{Setting, shared_names, shared_in}
use Rattle.cfa_states.proofs.SharedLemmas.{names_of_pairs, shared_once}
use Rattle.cfa_states.specs.lemmas.Keeping.{with_its, set_in_place, counts_same, keeps_begun}
use Rattle.cfa_states.proofs.KeptLemmas.{changed, greater_turned, keeps_set}
use Rattle.cfa_states.proofs.WaitLemmas.{no_waits}
use Rattle.cfa_states.specs.lemmas.Locals.{statuses_are, other_begun, other_set, own_scope_same, own_set, own_is_unshared, has_own, shared_at, is_shared_at}
use Rattle.cfa_states.specs.lemmas.Scopes.{table_at, scope_is, in_scopes}

-- ---- classes that are raised in it

module _ (h : History) (path class : List ℕ) (to : Status) (source : Option PromiseId) (name : List ℕ) where
  here : bytes_eq class name ≡ true → (bytes_eq path path && bytes_eq class name) ≡ true
  here same = ap (λ b. b && bytes_eq class name) (same_text path) ∙ same

  elsewhere : bytes_eq class name ≡ false → (bytes_eq path path && bytes_eq class name) ≡ false
  elsewhere differ = ap (λ b. b && bytes_eq class name) (same_text path) ∙ differ

  raised_here : bytes_eq class name ≡ true → locally (Raised (within path) class to source ∷ h) path name ≡ greater to (locally h path name)
  raised_here same = rw (here same, locally) refl

  raised_elsewhere : bytes_eq class name ≡ false → locally (Raised (within path) class to source ∷ h) path name ≡ locally h path name
  raised_elsewhere differ = rw (elsewhere differ, locally) refl

  source_here : bytes_eq class name ≡ true → local_source (Raised (within path) class to source ∷ h) path name ≡ option_or (local_source h path name) source
  source_here same = rw (here same, local_source) refl

  source_elsewhere : bytes_eq class name ≡ false → local_source (Raised (within path) class to source ∷ h) path name ≡ local_source h path name
  source_elsewhere differ = rw (elsewhere differ, local_source) refl

module _ (s : Setting) (a : Activation) (e : EnvironmentMaps) (h : History) (keeps : KeepsLocally s a h) (class : List ℕ) (to : Status) (source : Option PromiseId) where
  raised_status : status_of e class ≡ greater (status_of a.local class) to → ((other : List ℕ) → other ≢ class → status_of e other ≡ status_of a.local other) →
      (name : List ℕ) → status_of e name ≡ locally (Raised (within a.path) class to source ∷ h) a.path name
  raised_status becomes others name =
      let before = status_of a.local in
      changed before (status_of e) class (greater (before class) to) becomes others name (locally (Raised (within a.path) class to source ∷ h) a.path name)
      (λ same.
      raised_here h a.path class to source name same ∙ greater_turned to (locally h a.path name)
      ∙ ap (λ x. greater x to) (sym (keeps.0 name)) ∙ ap (λ n. greater (before n) to) (sym (is_text class name same)))
      (λ differ. raised_elsewhere h a.path class to source name differ ∙ sym (keeps.0 name))

  raised_source : source_of e class ≡ option_or (source_of a.local class) source → ((other : List ℕ) → other ≢ class → source_of e other ≡ source_of a.local other) →
      (name : List ℕ) → source_of e name ≡ local_source (Raised (within a.path) class to source ∷ h) a.path name
  raised_source becomes others name =
      let before = source_of a.local in
      changed before (source_of e) class (option_or (before class) source) becomes others name (local_source (Raised (within a.path) class to source ∷ h) a.path name)
      (λ same.
      source_here h a.path class to source name same ∙ ap (λ o. option_or o source) (sym (keeps.1.0 name))
      ∙ ap (λ n. option_or (before n) source) (sym (is_text class name same)))
      (λ differ. source_elsewhere h a.path class to source name differ ∙ sym (keeps.1.0 name))

  pub local_raised : status_of e class ≡ greater (status_of a.local class) to → ((other : List ℕ) → other ≢ class → status_of e other ≡ status_of a.local other) →
      source_of e class ≡ option_or (source_of a.local class) source → ((other : List ℕ) → other ≢ class → source_of e other ≡ source_of a.local other) →
      KeepsLocally s (record a { local = e }) (Raised (within a.path) class to source ∷ h)
  local_raised status other_statuses given other_sources = (
    raised_status status other_statuses,
    (
      raised_source given other_sources,
      (keeps.1.1.0, own_scope_same s.policy a.place a.own a.path h (Raised (within a.path) class to source ∷ h) refl keeps.1.1.1),
    ),
  )

-- ---- scopes

begun_here : (path : List ℕ) (given : List Datum) (h : History) (name : List ℕ) → bytes_eq path name ≡ true → scope_in (Begun path given ∷ h) name ≡ []
begun_here path given h name same = rw (same, scope_in) refl

set_here : (path variable : List ℕ) (datum : Datum) (h : History) → scope_in (Set path variable datum ∷ h) path ≡ put (scope_in h path) variable datum
set_here path variable datum h = rw (same_text path, scope_in) refl

module _ (s : Setting) (st : State) (h : History) (keeps : Keeps s st h) where
  names_kept : map first st.shared ≡ shared_names s.policy
  unfolding shared_in
  names_kept = ap (map first) keeps.1.1.1.0 ∙ names_of_pairs (scope_in h) (shared_names s.policy)

  pub shared_found : (place : ℕ) (name : List ℕ) → slice_get (map first st.shared) place ≡ Some name → slice_get (shared_names s.policy) place ≡ Some name
  shared_found place name found = ap (λ names. slice_get names place) (sym names_kept) ∙ found

  pub shared_missing : (name : List ℕ) → is_listed (map first st.shared) name ≡ false → is_listed (shared_names s.policy) name ≡ false
  shared_missing name missing = ap (λ names. is_listed names name) (sym names_kept) ∙ missing

  -- one of them is another after an event, and the others aren't
  shared_changed : (event : Event) (place : ℕ) (path : List ℕ) (scopes : List (List ℕ × Table)) → slice_get (shared_names s.policy) place ≡ Some path →
      ((name : List ℕ) → bytes_eq path name ≡ false → scope_in (event ∷ h) name ≡ scope_in h name) →
      scopes ≡ slice_set st.shared place (with_its (scope_in (event ∷ h)) path) → scopes ≡ shared_in s.policy (event ∷ h)
  unfolding shared_in
  shared_changed event place path scopes at others is =
      is ∙ ap (λ items. slice_set items place (with_its (scope_in (event ∷ h)) path)) keeps.1.1.1.0
      ∙ set_in_place path (scope_in h) (scope_in (event ∷ h)) others (shared_names s.policy) place (shared_once s.policy) at

-- ---- what it may refer to

pub scopes_found : (st : State) (a : Activation) (own : Table) (shared : List (List ℕ × Table)) → own ≡ scope_at st.shared a.place a.own → shared ≡ st.shared →
    in_scopes own a.bundle shared ≡ scopes_now st a
scopes_found st a own shared is_own is_shared = ap (λ t. in_scopes t a.bundle shared) is_own ∙ ap (in_scopes (scope_at st.shared a.place a.own) a.bundle) is_shared

module _ (s : Setting) (st : State) (a : Activation) (h : History) where
  module _ (guard : Option ExprTree) (global local : StatusMap) (found : Option (List ℕ)) (stands : Stands s st a h) (is_global : global ≡ st.environment.statuses)
      (is_local : local ≡ a.local.statuses) (found_is : found ≡ first_maybe_of_guard guard (greater_in global local)) where
    waits_for : (wait : Option Wait) → wait ≡ option_and_then (λ class. wait_on class (source_in h a.path class)) found → wait ≡ wait_of_guard s h a.path guard
    waits_for wait is =
        is
        ∙ ap (option_and_then (λ class. wait_on class (source_in h a.path class)))
        (found_is ∙ ap (first_maybe_of_guard guard) (statuses_are s st a h global local stands is_global is_local))

    pub nothing_waits : found ≡ None → ◌≡◌ {A = Option Wait} None (wait_of_guard s h a.path guard)
    nothing_waits none = waits_for None (ap (option_and_then (λ class. wait_on class (source_in h a.path class))) (sym none))

    pub guard_waits : (class : List ℕ) → found ≡ Some class → (wait : Option Wait) → wait ≡ wait_on class (source_in h a.path class) → wait ≡ wait_of_guard s h a.path guard
    guard_waits class some wait is = waits_for wait (is ∙ ap (option_and_then (λ class. wait_on class (source_in h a.path class))) (sym some))

-- ---- variables that are set in it

pub stands_set_own : (s : Setting) (st : State) (a : Activation) (h : History) (variable : List ℕ) (datum : Datum) (own : Table) → a.place ≡ None → own ≡ put a.own variable datum →
    Stands s st a h → Stands s st (record a { own = own }) (Set a.path variable datum ∷ h)
stands_set_own s st a h variable datum own none is stands =
    let k : History = Set a.path variable datum ∷ h in (
      keeps_set s st h a.path variable datum (own_is_unshared s.policy a.place a.own a.path h none stands.1.1.1.1) stands.0,
      (
        stands.1.0,
        (
          stands.1.1.0,
          (
            stands.1.1.1.0,
            own_set s.policy a.place a.own own a.path h k none (λ same. is ∙ ap (λ t. put t variable datum) same ∙ sym (set_here a.path variable datum h)) stands.1.1.1.1,
          ),
        ),
      ),
    )

pub stands_set_shared : (s : Setting) (st : State) (a : Activation) (h : History) (variable : List ℕ) (datum : Datum) (place : ℕ) (shared : List (List ℕ × Table)) → a.place ≡ Some place →
    ((path : List ℕ) (table : Table) → slice_get st.shared place ≡ Some (path, table) → shared ≡ slice_set st.shared place (path, put table variable datum)) →
    Stands s st a h → Stands s (record st { shared = shared }) a (Set a.path variable datum ∷ h)
stands_set_shared s st a h variable datum place shared at is stands =
    let keeps = stands.0 in
    let k : History = Set a.path variable datum ∷ h in
    let found = shared_at s.policy a.place place a.own a.path h at stands.1.1.1.1 in
    let now = is a.path (scope_in h a.path) (table_at s st h keeps place a.path found) in
    let set = ap (λ t. slice_set st.shared place (a.path, t)) (sym (set_here a.path variable datum h)) in
    let counts = counts_same s st h k refl (λ _. refl) refl refl refl keeps.1.1.1.1 in (
      (keeps.0, (keeps.1.0, (keeps.1.1.0, (shared_changed s st h keeps (Set a.path variable datum) place a.path shared found (other_set a.path variable datum h) (now ∙ set), counts)))),
      (stands.1.0, (stands.1.1.0, (stands.1.1.1.0, is_shared_at s.policy a.place place a.own a.path k at found))),
    )

-- a variable is set to what it holds
module _ (s : Setting) (h : History) (path variable : List ℕ) (datum : Datum) (held : thing_at (scope_in h path) variable ≡ Some datum) where
  put_again : (things : Table) → thing_at things variable ≡ Some datum → put things variable datum ≡ things
  put_again [] is = absurd (none-some datum is)
  put_again (e ∷ es) is =
      elim (bytes_eq variable e.0) as (λ b. b ≡ bytes_eq variable e.0 → cond b (Some e.1) (thing_at es variable) ≡ Some datum
      → cond b ((e.0, datum) ∷ es) (e ∷ put es variable datum) ≡ e ∷ es) [
        | true ↦ λ same found. ap (λ (x : Datum). (e.0, x) ∷ es) (sym (same_Some e.1 datum found))
        | false ↦ λ other found. ap (λ rest. e ∷ rest) (put_again es found)
      ] refl is

  scope_again : (other : List ℕ) → scope_in (Set path variable datum ∷ h) other ≡ scope_in h other
  scope_again other =
      elim (bytes_eq path other) as (λ b. b ≡ bytes_eq path other → (elim b [ true ↦ put (scope_in h other) variable datum | false ↦ scope_in h other ]) ≡ scope_in h other) [
        | true ↦ λ same.
            put_again (scope_in h other) (ap (λ (p : List ℕ). thing_at (scope_in h p) variable) (sym ((bytes_eq-Decides path other).0 (sym same))) ∙ held)
        | false ↦ λ other_path. refl
      ] refl

pub stands_again : (s : Setting) (st : State) (a : Activation) (h : History) (variable : List ℕ) (datum : Datum) → thing_at (scope_at st.shared a.place a.own) variable ≡ Some datum →
    Stands s st a h → Stands s st a (Set a.path variable datum ∷ h)
unfolding shared_in
stands_again s st a h variable datum holds stands =
    let k : History = Set a.path variable datum ∷ h in
    let held : thing_at (scope_in h a.path) variable ≡ Some datum =
    ap (λ (t : Table). thing_at t variable) (sym (scope_is s st h a.place a.own a.path stands.0 stands.1.1.1.1)) ∙ holds in
    let shared : shared_in s.policy h ≡ shared_in s.policy k =
    ap (λ (scope : List ℕ → Table). map (λ name. (name, scope name)) (shared_names s.policy)) (fun_ext (λ name. sym (scope_again s h a.path variable datum held name))) in
    let keeps = stands.0 in (
      (keeps.0, (keeps.1.0, (keeps.1.1.0, (keeps.1.1.1.0 ∙ shared, counts_same s st h k refl (λ _. refl) refl refl refl keeps.1.1.1.1)))),
      (stands.1.0, (stands.1.1.0, (stands.1.1.1.0, own_scope_same s.policy a.place a.own a.path h k (scope_again s h a.path variable datum held a.path) stands.1.1.1.1))),
    )

pub never_past : (s : Setting) (st : State) (a : Activation) (h : History) (place : ℕ) → a.place ≡ Some place → length st.shared ≤ place → Stands s st a h → ⊥
never_past s st a h place at past stands =
    let found = table_at s st h stands.0 place a.path (shared_at s.policy a.place place a.own a.path h at stands.1.1.1.1) in
    let within_it = slice_get_within st.shared place (a.path, scope_in h a.path) found in
    omega arith

-- ---- an activation that begins

module _ (h : History) (path : List ℕ) (given : List Datum) (name : List ℕ) (same : bytes_eq path name ≡ true) where
  none_locally : (class : List ℕ) → locally (Begun path given ∷ h) name class ≡ No
  none_locally class = rw (same, locally) refl

  no_source : (class : List ℕ) → local_source (Begun path given ∷ h) name class ≡ None
  no_source class = rw (same, local_source) refl

  no_outcome : worst_in (Begun path given ∷ h) name ≡ Kept
  no_outcome = rw (same, worst_in) refl

local_begun : (s : Setting) (a : Activation) (h : History) (path : List ℕ) (given : List Datum) → a.path ≡ path → IsFresh a →
    OwnScope s.policy a.place a.own a.path (Begun path given ∷ h) → KeepsLocally s a (Begun path given ∷ h)
local_begun s a h path given is fresh scope =
    let same = (bytes_eq-Decides path a.path).1 (sym is) in (
      λ class. fresh.statuses class ∙ sym (none_locally h path given a.path same class),
      (
        λ class. fresh.sources class ∙ sym (no_source h path given a.path same class),
        ((fresh.worst ∙ sym (no_outcome h path given a.path same), fresh.waits ∙ sym (no_waits s h path given a.path same)), scope),
      ),
    )

pub stands_called : (s : Setting) (st : State) (a : Activation) (h : History) (path : List ℕ) (given : List Datum) → a.path ≡ path → a.place ≡ None → IsFresh a →
    Keeps s st h → is_listed (shared_names s.policy) path ≡ false → Stands s st a (Begun path given ∷ h)
stands_called s st a h path given is none fresh keeps own = (
  keeps_begun s st h path given own keeps,
  local_begun s a h path given is fresh
      (has_own s.policy a.place a.own a.path (Begun path given ∷ h) none (fresh.own ∙ sym (begun_here path given h a.path ((bytes_eq-Decides path a.path).1 (sym is))))
      (ap (is_listed (shared_names s.policy)) is ∙ own)),
)

pub stands_common : (s : Setting) (st : State) (a : Activation) (h : History) (name : List ℕ) (place : ℕ) → a.path ≡ name → a.place ≡ Some place → IsFresh a →
    slice_get (map first st.shared) place ≡ Some name → Keeps s st h → IsUntouched h name → Stands s st a h
stands_common s st a h name place is at fresh found keeps untouched = (
  keeps,
  (
    λ class. fresh.statuses class ∙ sym (ap (λ n. locally h n class) is ∙ untouched.statuses class),
    (
      λ class. fresh.sources class ∙ sym (ap (λ n. local_source h n class) is ∙ untouched.sources class),
      (
        (fresh.worst ∙ sym (ap (worst_in h) is ∙ untouched.worst), fresh.waits ∙ sym (ap (waits_in s h) is ∙ untouched.waits s)),
        is_shared_at s.policy a.place place a.own a.path h at (shared_found s st h keeps place name found ∙ ap Some (sym is)),
      ),
    ),
  ),
)

pub stands_begun : (s : Setting) (st st' : State) (a : Activation) (h : History) (name : List ℕ) (place : ℕ) → a.path ≡ name → a.place ≡ Some place → IsFresh a →
    slice_get (map first st.shared) place ≡ Some name → st'.environment ≡ st.environment → st'.left ≡ st.left → st'.calls ≡ st.calls → st'.log ≡ st.log →
    ((path : List ℕ) (table : Table) → slice_get st.shared place ≡ Some (path, table) → st'.shared ≡ slice_set st.shared place (path, [])) →
    Keeps s st h → Stands s st' a (Begun name [] ∷ h)
stands_begun s st st' a h name place is at fresh found environment left calls log cleared keeps =
    let k : History = Begun name [] ∷ h in
    let found = shared_found s st h keeps place name found in
    let now = cleared name (scope_in h name) (table_at s st h keeps place name found) in
    let empty = ap (λ t. slice_set st.shared place (name, t)) (sym (begun_here name [] h name (same_text name))) in
    let counts = counts_same s st h k refl (λ _. refl) refl refl refl keeps.1.1.1.1 in (
      (
        λ class. ap (λ e. status_of e class) environment ∙ keeps.0 class,
        (
          λ class. ap (λ e. source_of e class) environment ∙ keeps.1.0 class,
          (
            λ path text. ap (λ e. mark_of e path text) environment ∙ keeps.1.1.0 path text,
            (
              shared_changed s st h keeps (Begun name []) place name st'.shared found (other_begun name [] h) (now ∙ empty),
              (
                ap (λ n. n + visits_in k) left ∙ counts.0,
                (
                  λ path. ap (λ (x : Option (TextMap Wait)). wait_at x path) calls ∙ counts.1.0 path,
                  subst (λ (x : Option Rows). KeepsLog s x k) (sym log) counts.1.1,
                ),
              ),
            ),
          ),
        ),
      ),
      local_begun s a h name [] is fresh (is_shared_at s.policy a.place place a.own a.path k at (found ∙ ap Some (sym is))),
    )
