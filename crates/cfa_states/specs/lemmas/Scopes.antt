-- What an activation may refer to is what its promises read in the history.
use Rattle.std.proofs.Common.{◌≡◌, ℕ, List, Option, Some, None, ap, ◌∙◌}
use Rattle.std.specs.Prelude.{slice_get, option_map, unwrap_or}
use Rattle.std.proofs.lemmas.Option.{slice_get-map}
use Rattle.cfa_statuses.specs.Raised.{Raised as StatusMap, greater_in}
use Rattle.cfa_statuses.specs.Status.{value_of}
use Rattle.cfa_tree.specs.Tree.{ExprTree}
use Rattle.cfa_vars.specs.Scopes.{Table, InScope}
use Rattle.cfa_states.specs.declared.activations.Activation.{Activation}
use Rattle.cfa_states.specs.declared.states.State.{State}
use Rattle.cfa_states.specs.History.{History, scope_in}
use Rattle.cfa_states.specs.Kept.{Keeps, Stands, OwnScope, home_of, scope_at, second}
use Rattle.cfa_states.specs.Views.{Setting, status_in, scopes_in, shared_names, shared_in}
use Rattle.cfa_states.specs.lemmas.Keeping.{with_its}
use Rattle.cfa_states.specs.lemmas.Locals.{statuses_are}

-- ---- scopes

module _ (s : Setting) (st : State) (h : History) (keeps : Keeps s st h) where
  -- the scope at a place
  pub table_at : (place : ℕ) (path : List ℕ) → slice_get (shared_names s.policy) place ≡ Some path → slice_get st.shared place ≡ Some (path, scope_in h path)
  unfolding shared_in
  table_at place path at =
      ap (λ scopes. slice_get scopes place) keeps.1.1.1.0 ∙ slice_get-map (with_its (scope_in h)) (shared_names s.policy) place
      ∙ ap (option_map (with_its (scope_in h))) at

-- ---- what it may refer to

pub scope_is : (s : Setting) (st : State) (h : History) (place : Option ℕ) (own : Table) (path : List ℕ) → Keeps s st h → OwnScope s.policy place own path h →
    scope_at st.shared place own ≡ scope_in h path
scope_is s st h None own path keeps scope = scope.0
scope_is s st h (Some place) own path keeps scope = ap (λ found. unwrap_or (option_map second found) own) (table_at s st h keeps place path scope)

abbrev pub in_scopes : Table → List ℕ → List (List ℕ × Table) → InScope
in_scopes own own_name shared = record { own = own; own_name = own_name; shared = shared }

pub scopes_are : (s : Setting) (st : State) (a : Activation) (h : History) (own : Table) (shared : List (List ℕ × Table)) → Stands s st a h →
    own ≡ scope_at st.shared a.place a.own → shared ≡ st.shared → in_scopes own a.bundle shared ≡ scopes_in s h (home_of a)
scopes_are s st a h own shared stands is_own is_shared =
    ap (λ t. in_scopes t a.bundle shared) (is_own ∙ scope_is s st h a.place a.own a.path stands.0 stands.1.1.1.1)
    ∙ ap (in_scopes (scope_in h a.path) a.bundle) (is_shared ∙ stands.0.1.1.1.0)

module _ (s : Setting) (st : State) (a : Activation) (h : History) where
  pub guard_is : (guard : ExprTree) (global local : StatusMap) → Stands s st a h → global ≡ st.environment.statuses → local ≡ a.local.statuses →
      value_of guard (greater_in global local) ≡ value_of guard (status_in s h a.path)
  guard_is guard global local stands is_global is_local = ap (value_of guard) (statuses_are s st a h global local stands is_global is_local)
