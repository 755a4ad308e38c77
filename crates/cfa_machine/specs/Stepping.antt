-- Of the code alone: what comes of a move of an activation in which no visit is in hand.
use Rattle.std.specs.Prelude.{◌≡◌, ⊤, suc, Bool, true, false, List, [], ◌∷◌, length, drop, slice_get, Option, Some, None, Result, Ok, Err}
use Rattle.cfa_kinds.specs.declared.kinds.PromiseType.{PromiseType}
use Rattle.cfa_outcomes.specs.Environments.{EnvironmentMaps, mark_of}
use Rattle.cfa_output.specs.declared.ends.Stop.{Stop}
use Rattle.cfa_output.specs.declared.ends.Stop.TheVariants.{Outside, Memory, Visits, Pattern}
use Rattle.cfa_resolve.specs.declared.instances.Instance.{Instance}
use Rattle.cfa_tree.specs.Tree.{PolicyTree}
use Rattle.cfa_frames.specs.Moves.{FrameNext, stays, leaves, goes_past, frame_next, type_next}
use Rattle.cfa_states.specs.declared.states.State.{State}
use Rattle.cfa_states.specs.History.{History}
use Rattle.cfa_states.specs.Kept.{SpareShorter, Stands}
use Rattle.cfa_states.specs.Numbered.{agent_types}
use Rattle.cfa_states.specs.Passes.{visit_status}
use Rattle.cfa_states.specs.Views.{Setting}
use Rattle.cfa_machine.specs.declared.frames.Frame.{Frame as Held}
use Rattle.cfa_machine.specs.declared.stepping.NextVisit.{NextVisit}
use Rattle.cfa_machine.specs.Machines.{left_in, row_of, seen_frame}
use Rattle.cfa_machine.specs.Reaching.{BuiltBy}

-- the visit of the next instance in hand
pub record IsVisit (f : Held) (marks : EnvironmentMaps) (visit : NextVisit) : Type 0 where
  pub hand : f.hand ≡ Some (record { row = visit.hand.row; next = visit.at })
  pub behind : visit.hand.next ≡ suc visit.at
  pub instance : Instance
  pub found : slice_get (row_of f.rows.items visit.hand.row) visit.at ≡ Some instance
  pub status : visit.status ≡ visit_status f.guard f.activation.status (mark_of marks instance.path instance.text)

abbrev pub IsNextVisit : Held → EnvironmentMaps → Option NextVisit → Type 0
IsNextVisit f marks None = left_in f.rows.items f.hand ≡ []
IsNextVisit f marks (Some visit) = IsVisit f marks visit

module _ (s : Setting) (h : History) where
  -- whether the frame stays, and where it stands then
  abbrev pub StepCame : (before after : Held) → (after_state : State) → Result Bool Stop → FrameNext → Type 0
  StepCame f f' st (Ok true) (stays g k) =
      (seen_frame f' ≡ g) × (Stands s st f'.activation k × SpareShorter (length f.activation.path) h k)
  StepCame f f' st (Ok false) leaves = ⊤
  StepCame f f' st (Ok true) leaves = ⊥
  StepCame f f' st (Ok true) (goes_past k) = ⊥
  StepCame f f' st (Ok false) (stays g k) = ⊥
  StepCame f f' st (Ok false) (goes_past k) = ⊥
  StepCame f f' st (Err (Outside object)) next = ⊥
  StepCame f f' st (Err Memory) next = ⊤
  StepCame f f' st (Err Visits) (goes_past k) = ⊤
  StepCame f f' st (Err Visits) (stays g k) = ⊥
  StepCame f f' st (Err Visits) leaves = ⊥
  StepCame f f' st (Err (Pattern text)) next = BuiltBy s next text

-- by the move of the definition
abbrev pub StepsTo : PolicyTree → (st st' : State) → (f f' : Held) → Result Bool Stop → Type 0
StepsTo policy st st' f f' result =
    (s : Setting) (h : History) → s.policy ≡ policy → Stands s st f.activation h →
    StepCame s h f f' st' result (frame_next s (seen_frame f) h)

-- with no instance in hand and a type
abbrev pub TypeStepsTo : PolicyTree → PromiseType → (st st' : State) → (f f' : Held) → Result Bool Stop → Type 0
TypeStepsTo policy type st st' f f' result =
    (s : Setting) (h : History) (types : List PromiseType) → s.policy ≡ policy → Stands s st f.activation h →
    drop f.kind agent_types ≡ type ∷ types → left_in f.rows.items f.hand ≡ [] →
    StepCame s h f f' st' result (type_next s (type ∷ types) (seen_frame f).promises (seen_frame f) h)
