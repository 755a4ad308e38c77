-- A run that goes on by turns: the moves of its machine, and the answers of who tells.
--
-- Who tells agrees with a teller of the definition as far as it was asked, so what came of turns is said of every teller with which
-- it agrees afterwards. A turn is a move or an answer of the definition, and leaves what the history so far and the stack come to
-- as it was. Turns make steps, each of which ends with an actuation or where nothing is left.
use Rattle.std.specs.Prelude.{◌≡◌, ℕ, ◌+◌, ◌*◌, ◌<◌, Bool, true, false, List, [], ⊤, Result, Ok, Err}
use Rattle.cfa_output.specs.declared.ends.Stop.{Stop}
use Rattle.cfa_output.specs.declared.ends.Stop.TheVariants.{Outside, Memory, Visits, Pattern}
use Rattle.cfa_schema.specs.Seen.{tree_of}
use Rattle.cfa_served.specs.Served.{common_bundles_of}
use Rattle.cfa_frames.specs.Frames.{Stack, rest}
use Rattle.cfa_frames.specs.Moves.{Need, nothing, skipping, ending, over, need_of, Next, goes_on, is_too_large, answered, entered, skipped}
use Rattle.cfa_frames.specs.Steps.{step}
use Rattle.cfa_frames.specs.Weights.{ahead_weight, commons_weight, frames_weight, heaviest}
use Rattle.cfa_machine.specs.Stacks.{Stands, seen_stack}
use Rattle.cfa_machine.specs.declared.machines.Machine.{Machine}
use Rattle.cfa_states.specs.Builds.{BuiltOn}
use Rattle.cfa_states.specs.History.{History}
use Rattle.cfa_states.specs.Levels.{IsTooLarge}
use Rattle.cfa_states.specs.Passes.{goes}
use Rattle.cfa_states.specs.Tellers.{Teller}
use Rattle.cfa_states.specs.Views.{Setting}
use Rattle.cfa_tree.specs.Tree.{BlockTree, PolicyTree}

-- it is waited for whether an instance is skipped
abbrev pub IsVisit : Need → Type 0
IsVisit nothing = ⊥
IsVisit (skipping i status) = ⊤
IsVisit (ending i status) = ⊥
IsVisit over = ⊥

-- or how one ended
abbrev pub IsEnding : Need → Type 0
IsEnding nothing = ⊥
IsEnding (skipping i status) = ⊥
IsEnding (ending i status) = ⊤
IsEnding over = ⊥

-- a visit in hand is answered
abbrev pub visit_answered : Setting → (is_skipped : Bool) → Stack → History → Next
visit_answered s true st h = skipped st h
visit_answered s false st h = entered s st h

-- what a machine weighs: its stack, and the visits that it may still count
abbrev pub policy_weight : PolicyTree → Stack → (left : ℕ) → ℕ
policy_weight policy st left =
    frames_weight (heaviest policy) st.frames
    + ahead_weight (heaviest policy) (commons_weight (common_bundles_of policy)) st.ahead
    + (heaviest policy + 3) * left

abbrev pub machine_weight : Machine → ℕ
machine_weight m = policy_weight (tree_of m.checked.now) (seen_stack m) m.state.left

-- over whatever history a machine stood, it is lighter now, and stands over one
abbrev pub GoesOn : (m m' : Machine) → Type 0
GoesOn m m' =
    (s : Setting) (h : History) → Stands s m h →
    (machine_weight m' < machine_weight m) × ((k : History) × Stands s m' k)

-- ---- what holds between the stacks and histories before and after

abbrev pub Relation : Type 1
Relation = Setting → Teller → (before : Stack) → History → (after : Stack) → History → Type 0

-- what is left is as it was
abbrev pub IsLeft : Relation
IsLeft s t st h st' k = rest s t st' k ≡ rest s t st h

-- so it is by one move or answer, as the teller tells
abbrev pub IsAnswered : Relation
IsAnswered s t st h st' k = IsLeft s t st h st' k × (answered s t (need_of st) st h ≡ goes_on st' k)

-- so it is before the end of a step, which is to come
abbrev pub IsStepping : Relation
IsStepping s t st h st' k = IsLeft s t st h st' k × (step s t st h ≡ step s t st' k)

-- so it is by a whole step
abbrev pub HasStepped : Relation
HasStepped s t st h st' k = IsLeft s t st h st' k × (step s t st h ≡ goes_on st' k)

-- behind a step's actuation the stack goes on by itself; else nothing is left to do
abbrev pub need_behind : (is_more : Bool) → Need
need_behind true = nothing
need_behind false = over

abbrev pub EndsStep : (is_more : Bool) → Relation
EndsStep is_more s t st h st' k = HasStepped s t st h st' k × (need_of st' ≡ need_behind is_more)

module _ {W X : Type 0} (teller : X → Teller) (agrees : W → X → Type 0) (behind : W → X → History → Type 0) where
  -- a machine came to a history, told by the teller
  abbrev pub HasGone : Relation → (w w' : W) → (m m' : Machine) → Type 0
  HasGone R w w' m m' =
      (s : Setting) (x : X) (h : History) → agrees w' x →
      agrees w x × (Stands s m h → behind w x h →
      (k : History) × (Stands s m' k × (behind w' x k × R s (teller x) (seen_stack m) h (seen_stack m') k)))

  -- more visits are needed than may be made: all before them was done
  abbrev pub GoesPastLimit : (Setting → Teller → Stack → History → Next) → (w w' : W) → (m : Machine) → Type 0
  GoesPastLimit next w w' m =
      (s : Setting) (x : X) (h : History) → agrees w' x →
      agrees w x × (Stands s m h → behind w x h →
      IsTooLarge (rest s (teller x) (seen_stack m) h) ×
      ((k : History) × (behind w' x k × (next s (teller x) (seen_stack m) h ≡ is_too_large k))))

  -- a text was refused for its size that the run builds
  abbrev pub TurnHasBuilt : (w w' : W) → (m : Machine) → (text : List ℕ) → Type 0
  TurnHasBuilt w w' m text =
      (s : Setting) (x : X) (h : History) → agrees w' x →
      agrees w x × (Stands s m h → behind w x h → BuiltOn s (rest s (teller x) (seen_stack m) h) text)

  abbrev pub TurnDone : (w w' : W) → (m m' : Machine) → Result (Unit {0}) Stop → Type 0
  TurnDone w w' m m' (Ok done) = HasGone IsAnswered w w' m m'
  TurnDone w w' m m' (Err (Outside object)) = ⊤
  TurnDone w w' m m' (Err Memory) = ⊤
  TurnDone w w' m m' (Err Visits) = GoesPastLimit (λ s t st. answered s t (need_of st) st) w w' m
  TurnDone w w' m m' (Err (Pattern text)) = TurnHasBuilt w w' m text

  -- a step was made, behind which there may be more to do
  abbrev pub StepDone : (w w' : W) → (m m' : Machine) → Result Bool Stop → Type 0
  StepDone w w' m m' (Ok is_more) = HasGone (EndsStep is_more) w w' m m'
  StepDone w w' m m' (Err (Outside object)) = ⊤
  StepDone w w' m m' (Err Memory) = ⊤
  StepDone w w' m m' (Err Visits) = GoesPastLimit step w w' m
  StepDone w w' m m' (Err (Pattern text)) = TurnHasBuilt w w' m text
