-- What is kept of an activation stays so over each event of other places.
use Rattle.std.proofs.Common.{◌≡◌, ℕ, Bool, false, List, ◌∷◌, Option, Some, None, refl, sym, ap, ◌∙◌}
use Rattle.std.specs.Prelude.{slice_get}
use Rattle.std.specs.Str.{bytes_eq}
use Rattle.std.proofs.Math.Path.{fun_ext}
use Rattle.cfa_base.specs.declared.places.PromiseId.{PromiseId}
use Rattle.cfa_statuses.specs.declared.levels.Status.{Status}
use Rattle.cfa_statuses.specs.Status.{greater}
use Rattle.cfa_statuses.specs.Raised.{Raised as StatusMap, greater_in}
use Rattle.cfa_outcomes.specs.Environments.{status_of}
use Rattle.cfa_resolve.specs.declared.instances.Instance.{Instance}
use Rattle.cfa_tree.specs.Tree.{PolicyTree}
use Rattle.cfa_vars.specs.declared.scoping.Datum.{Datum}
use Rattle.cfa_vars.specs.Scopes.{Table}
use Rattle.cfa_base.specs.Index.{is_listed}
use Rattle.cfa_states.specs.declared.states.State.{State}
use Rattle.cfa_states.specs.declared.activations.Activation.{Activation}
use Rattle.cfa_states.specs.History.{History, Home, Begun, Set, Raised, Reached, Listed, everywhere, scope_in, locally, local_source}
use Rattle.cfa_states.specs.Kept.{KeepsLocally, Stands, OwnScope}
use Rattle.cfa_states.specs.declared.waits.Wait.{Wait}
use Rattle.cfa_states.specs.Numbered.{Numbered}
use Rattle.cfa_states.specs.Tellers.{worst_in}
use Rattle.cfa_states.specs.Waits.{waits_in}
use Rattle.cfa_states.specs.Views.{Setting, global_status, status_in, shared_names}

-- ---- what is kept of statuses

-- they are those of the history
pub statuses_are : (s : Setting) (st : State) (a : Activation) (h : History) (global local : StatusMap) → Stands s st a h → global ≡ st.environment.statuses → local ≡ a.local.statuses →
    greater_in global local ≡ status_in s h a.path
unfolding greater_in
statuses_are s st a h global local stands is_global is_local =
    fun_ext (λ name.
    ap (λ m. greater_in m local name) is_global ∙ ap (λ m. greater_in st.environment.statuses m name) is_local
    ∙ ap (λ x. greater x (status_of a.local name)) (stands.0.0 name) ∙ ap (greater (global_status s h name)) (stands.1.0 name))

-- ---- the scope of another path

pub other_begun : (path : List ℕ) (arguments : List Datum) (h : History) (name : List ℕ) → bytes_eq path name ≡ false → scope_in (Begun path arguments ∷ h) name ≡ scope_in h name
other_begun path arguments h name differ = rw (differ, scope_in) refl

pub other_set : (path variable : List ℕ) (datum : Datum) (h : History) (name : List ℕ) → bytes_eq path name ≡ false → scope_in (Set path variable datum ∷ h) name ≡ scope_in h name
other_set path variable datum h name differ = rw (differ, scope_in) refl

-- ---- the scope of an activation

pub own_scope_same : (policy : PolicyTree) (place : Option ℕ) (own : Table) (path : List ℕ) (h k : History) → scope_in k path ≡ scope_in h path →
    OwnScope policy place own path h → OwnScope policy place own path k
own_scope_same policy None own path h k same scope = (scope.0 ∙ sym same, scope.1)
own_scope_same policy (Some place) own path h k same scope = scope

pub own_set : (policy : PolicyTree) (place : Option ℕ) (own own' : Table) (path : List ℕ) (h k : History) → place ≡ None → (own ≡ scope_in h path → own' ≡ scope_in k path) →
    OwnScope policy place own path h → OwnScope policy place own' path k
own_set policy None own own' path h k is set scope = (set scope.0, scope.1)
own_set policy (Some place) own own' path h k is set scope = absurd (cc)

pub own_is_unshared : (policy : PolicyTree) (place : Option ℕ) (own : Table) (path : List ℕ) (h : History) → place ≡ None → OwnScope policy place own path h → is_listed (shared_names policy) path ≡ false
own_is_unshared policy None own path h is scope = scope.1
own_is_unshared policy (Some place) own path h is scope = absurd (cc)

pub shared_at : (policy : PolicyTree) (place : Option ℕ) (at : ℕ) (own : Table) (path : List ℕ) (h : History) → place ≡ Some at → OwnScope policy place own path h → slice_get (shared_names policy) at ≡ Some path
shared_at policy None at own path h is scope = absurd (cc)
shared_at policy (Some place) at own path h is scope = let same : at ≡ place = cc in ap (slice_get (shared_names policy)) same ∙ scope

pub is_shared_at : (policy : PolicyTree) (place : Option ℕ) (at : ℕ) (own : Table) (path : List ℕ) (h : History) → place ≡ Some at → slice_get (shared_names policy) at ≡ Some path → OwnScope policy place own path h
is_shared_at policy None at own path h is found = absurd (cc)
is_shared_at policy (Some place) at own path h is found = let same : place ≡ at = cc in ap (slice_get (shared_names policy)) same ∙ found

pub has_own : (policy : PolicyTree) (place : Option ℕ) (own : Table) (path : List ℕ) (h : History) → place ≡ None → own ≡ scope_in h path → is_listed (shared_names policy) path ≡ false →
    OwnScope policy place own path h
has_own policy None own path h is same unshared = (same, unshared)
has_own policy (Some place) own path h is same unshared = absurd (cc)

-- ---- events of other places

pub local_same : (s : Setting) (a : Activation) (h k : History) → ((class : List ℕ) → locally k a.path class ≡ locally h a.path class) →
    ((class : List ℕ) → local_source k a.path class ≡ local_source h a.path class) → worst_in k a.path ≡ worst_in h a.path → waits_in s k a.path ≡ waits_in s h a.path → scope_in k a.path ≡ scope_in h a.path →
    KeepsLocally s a h → KeepsLocally s a k
local_same s a h k locals sources worst waits scope keeps = (
  λ class. keeps.0 class ∙ sym (locals class),
  (
    λ class. keeps.1.0 class ∙ sym (sources class),
    ((keeps.1.1.0.0 ∙ sym worst, keeps.1.1.0.1 ∙ sym waits), own_scope_same s.policy a.place a.own a.path h k scope keeps.1.1.1),
  ),
)

module _ (s : Setting) (a : Activation) (h : History) where
  pub local_raised_everywhere : (class : List ℕ) (status : Status) (source : Option PromiseId) → KeepsLocally s a h → KeepsLocally s a (Raised everywhere class status source ∷ h)
  local_raised_everywhere class status source = local_same s a h (Raised everywhere class status source ∷ h) (λ _. refl) (λ _. refl) refl refl refl

  pub local_reached : (home : Home) (promise : Numbered) (guard : Status) (sets : Bool) (visits : ℕ) →
      waits_in s (Reached home promise guard sets visits ∷ h) a.path ≡ waits_in s h a.path → KeepsLocally s a h → KeepsLocally s a (Reached home promise guard sets visits ∷ h)
  local_reached home promise guard sets visits waits = local_same s a h (Reached home promise guard sets visits ∷ h) (λ _. refl) (λ _. refl) refl waits refl

  -- its instances are visited next
  pub local_waits : (home : Home) (promise : Numbered) (guard : Status) (sets : Bool) (visits : ℕ) (waits : Option Wait) →
      waits ≡ waits_in s (Reached home promise guard sets visits ∷ h) a.path → KeepsLocally s a h →
      KeepsLocally s (record a { waits = waits }) (Reached home promise guard sets visits ∷ h)
  local_waits home promise guard sets visits waits is keeps =
      (keeps.0, (keeps.1.0, ((keeps.1.1.0.0, is), own_scope_same s.policy a.place a.own a.path h (Reached home promise guard sets visits ∷ h) refl keeps.1.1.1)))

  pub local_listed : (instance : Instance) (status : Status) → KeepsLocally s a h → KeepsLocally s a (Listed instance status ∷ h)
  local_listed instance status = local_same s a h (Listed instance status ∷ h) (λ _. refl) (λ _. refl) refl refl refl
