-- Of the code alone: how the bundle of a call begins.
use Rattle.std.specs.Prelude.{◌≡◌, ℕ, false, List, ◌∷◌}
use Rattle.cfa_base.specs.Index.{is_listed}
use Rattle.cfa_tree.specs.Tree.{NamedTree}
use Rattle.cfa_vars.specs.declared.scoping.Datum.{Datum}
use Rattle.cfa_states.specs.declared.activations.Activation.{Activation}
use Rattle.cfa_states.specs.declared.states.State.{State}
use Rattle.cfa_states.specs.History.{History, Begun}
use Rattle.cfa_states.specs.Kept.{Keeps, Stands}
use Rattle.cfa_states.specs.Passes.{bind}
use Rattle.cfa_states.specs.Views.{Setting, shared_names}

-- an activation of a called bundle has begun, and its parameters are set
abbrev pub BeginsCall : (path : List ℕ) → (params : List NamedTree) → (given : List Datum) → (st st' : State) → Activation → Type 0
BeginsCall path params given st st' a =
    (s : Setting) (h : History) → Keeps s st h → is_listed (shared_names s.policy) path ≡ false →
    Stands s st' a (bind path params given (Begun path given ∷ h))
