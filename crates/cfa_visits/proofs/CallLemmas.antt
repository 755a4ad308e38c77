-- A call begins with a fresh scope, in which its parameters are set.
use Rattle.std.proofs.Common.{◌≡◌, ℕ, false, List, ◌∷◌, ap, subst, ◌∙◌}
use Rattle.cfa_base.specs.Index.{is_listed}
use Rattle.cfa_visits.specs.Calling.{BeginsCall}
use Rattle.cfa_statuses.specs.declared.levels.Status.{Status}
use Rattle.cfa_tree.specs.Tree.{NamedTree}
use Rattle.cfa_vars.specs.declared.scoping.Datum.{Datum}
use Rattle.cfa_states.specs.declared.activations.Activation.{Activation}
use Rattle.cfa_states.specs.declared.states.State.{State}
use Rattle.cfa_states.specs.History.{History, Begun}
use Rattle.cfa_states.specs.Kept.{Keeps, Stands, IsOf, IsSame}
use Rattle.cfa_states.specs.Passes.{bind}
use Rattle.cfa_states.specs.Views.{Setting, shared_names}

-- its parameters are set in an activation of its path
module _ (path its_path name : List ℕ) (status : Status) (is : its_path ≡ path) (a a' : Activation) (of : IsOf its_path name status a) (same : IsSame a a') where
  pub bound_is : IsOf path name status a'
  bound_is = record { path = same.path ∙ (of.path ∙ is); bundle = same.bundle ∙ of.bundle; status = same.status ∙ of.status }

  pub bound_begins : (params : List NamedTree) (given : List Datum) (st st' : State) →
      ((s : Setting) (state : State) (h : History) (values : List Datum) → Keeps s state h → is_listed (shared_names s.policy) its_path ≡ false →
      Stands s state a (Begun its_path values ∷ h)) →
      ((s : Setting) (h : History) → Stands s st a h → Stands s st' a' (bind a.path params given h)) → BeginsCall path params given st st' a'
  bound_begins params given st st' begins binds = λ s h keeps own.
      subst (λ (x : List ℕ). Stands s st' a' (bind x params given (Begun x given ∷ h))) is
      (subst (λ (x : List ℕ). Stands s st' a' (bind x params given (Begun its_path given ∷ h))) of.path
      (binds s (Begun its_path given ∷ h) (begins s st h given keeps (ap (λ (x : List ℕ). is_listed (shared_names s.policy) x) is ∙ own))))
