-- Of the code alone: what comes of a promise that is reached, by the move of the definition.
use Rattle.std.specs.Prelude.{◌≡◌, ⊤, ℕ, Bool, true, false, List, length, Option, Result, Ok, Err}
use Rattle.cfa_output.specs.declared.ends.Stop.{Stop}
use Rattle.cfa_output.specs.declared.ends.Stop.TheVariants.{Outside, Memory, Visits, Pattern}
use Rattle.cfa_statuses.specs.declared.levels.Status.{Status}
use Rattle.cfa_tree.specs.Tree.{PolicyTree}
use Rattle.cfa_frames.specs.Frames.{Frame}
use Rattle.cfa_frames.specs.Moves.{FrameNext, stays, leaves, goes_past, guarded_next}
use Rattle.cfa_states.specs.declared.activations.Activation.{Activation}
use Rattle.cfa_states.specs.declared.remembering.Found.{Found}
use Rattle.cfa_states.specs.declared.states.State.{State}
use Rattle.cfa_states.specs.Builds.{BuiltIn}
use Rattle.cfa_states.specs.Defining.{place_of}
use Rattle.cfa_states.specs.History.{History}
use Rattle.cfa_states.specs.Kept.{SpareShorter}
use Rattle.cfa_states.specs.Levels.{SpareIf, StandsAt}
use Rattle.cfa_states.specs.Numbered.{Numbered}
use Rattle.cfa_states.specs.Views.{Setting}
use Rattle.cfa_visits.specs.Counting.{instances_of}

-- the answer of a call, where it ended well
abbrev pub result_as : Bool → Result (Unit {0}) Stop → Result Bool Stop
result_as b (Ok done) = Ok b
result_as b (Err stop) = Err stop

abbrev pub done_of : {X : Type 0} → Result X Stop → Result (Unit {0}) Stop
done_of (Ok answer) = Ok tt
done_of (Err stop) = Err stop

-- a text was built up to there
abbrev pub BuiltBy : Setting → FrameNext → (text : List ℕ) → Type 0
BuiltBy s (stays f h) text = BuiltIn s h text
BuiltBy s leaves text = ⊥
BuiltBy s (goes_past h) text = BuiltIn s h text

-- the frame has the instances of the promise in hand, where it has any
abbrev pub with_hand : (has_instances : Bool) → (guard : Status) → Option Found → Frame → Frame
with_hand false guard kept f = f
with_hand true guard kept f = record f { guard = guard; instances = instances_of kept }

module _ (policy : PolicyTree) (is_common : Bool) (s : Setting) (f : Frame) (h : History) where
  abbrev pub ReachedTo : (guard : Status) → (kept : Option Found) → State → Activation → Result Bool Stop → FrameNext → Type 0
  ReachedTo guard kept st a (Ok has) (stays g k) =
      (with_hand has guard kept f ≡ g)
      × (StandsAt policy s f.home f.status st a k × (SpareShorter (length f.home.path) h k × SpareIf is_common h k))
  ReachedTo guard kept st a (Ok has) leaves = ⊥
  ReachedTo guard kept st a (Ok has) (goes_past k) = ⊥
  ReachedTo guard kept st a (Err (Outside object)) next = ⊥
  ReachedTo guard kept st a (Err Memory) next = ⊤
  ReachedTo guard kept st a (Err Visits) (goes_past k) = ⊤
  ReachedTo guard kept st a (Err Visits) (stays g k) = ⊥
  ReachedTo guard kept st a (Err Visits) leaves = ⊥
  ReachedTo guard kept st a (Err (Pattern text)) next = BuiltBy s next text

abbrev pub Reaches : PolicyTree → (is_common : Bool) → Numbered → (guard : Status) → (kept : Option Found)
    → (st st' : State) → (a a' : Activation) → Result Bool Stop → Type 0
Reaches policy is_common p guard kept st st' a a' result =
    (s : Setting) (f : Frame) (h : History) → StandsAt policy s f.home f.status st a h → f.raises_in ≡ place_of is_common f.home →
    ReachedTo policy is_common s f h guard kept st' a' result (guarded_next s f p guard h)
