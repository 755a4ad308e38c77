-- A step of a run goes on by moves and answers up to and with the next actuation, or to the end. An instance with acts
-- is actuated where it isn't skipped: then it is told how it ended, kept ones too. Reports and calls aren't actuated.
-- Each step may be handed another teller, and no other one answers in it.
use Rattle.std.specs.Prelude.{◌≡◌, ⊤, ◌⊎◌, ◌==◌, ℕ, zero, suc, Bool, true, false, List, [], ◌∷◌, get_or}
use Rattle.cfa_outcomes.specs.declared.outcomes.Outcome.{Outcome}
use Rattle.cfa_resolve.specs.declared.instances.Instance.{Instance}
use Rattle.cfa_resolve.specs.declared.instances.Work.{Work}
use Rattle.cfa_resolve.specs.declared.instances.Work.TheVariants.{Acts, Call, Report}
use Rattle.cfa_states.specs.History.{History, Event, Begun, Set, Raised, Reached, Listed, Told}
use Rattle.cfa_states.specs.Passes.{Course, goes, too_large, told}
use Rattle.cfa_states.specs.Tellers.{Teller}
use Rattle.cfa_states.specs.Views.{Setting}
use Rattle.cfa_statuses.specs.declared.levels.Status.{Status}
use Rattle.cfa_frames.specs.Frames.{Stack, beginning}
use Rattle.cfa_frames.specs.Growing.{Grows}
use Rattle.cfa_frames.specs.Moves.{Next, goes_on, is_too_large, answered}
use Rattle.cfa_frames.specs.Moves.{Need, nothing, skipping, ending, over, need_of}
use Rattle.cfa_frames.specs.Weights.{weight}

-- ---- actuations

abbrev pub has_acts : Work → Bool
has_acts (Acts acts) = true
has_acts (Call name given) = false
has_acts (Report content) = false

-- whether the stack waits for one
abbrev pub awaits_actuation : Need → Bool
awaits_actuation nothing = false
awaits_actuation (skipping instance status) = false
awaits_actuation (ending instance status) = has_acts instance.work
awaits_actuation over = false

-- one that was told with no outcome was skipped
abbrev pub told_actuation : Instance → List Outcome → Bool
told_actuation instance [] = false
told_actuation instance (outcome ∷ others) = has_acts instance.work

abbrev pub is_actuation : Event → Bool
is_actuation (Told instance outcomes) = told_actuation instance outcomes
is_actuation (Begun path given) = false
is_actuation (Set path name datum) = false
is_actuation (Raised place class status source) = false
is_actuation (Reached home promise guard sets visits) = false
is_actuation (Listed instance status) = false

-- how many a history has
abbrev pub actuations_in : History → ℕ
actuations_in [] = 0
actuations_in (event ∷ h) = elim (is_actuation event) [ true ↦ suc (actuations_in h) | false ↦ actuations_in h ]

-- ---- a step

module _ (s : Setting) (t : Teller) where
  -- an actuation is the last that is done
  abbrev pub unless_last : (is_last : Bool) → Next → (Stack → History → Next) → Next
  unless_last true x next = x
  unless_last false (goes_on st h) next = next st h
  unless_last false (is_too_large h) next = is_too_large h

  -- in at most so many moves and answers
  abbrev pub step_within : ℕ → Stack → History → Next
  step_within zero st h = goes_on st h
  step_within (suc n) st h =
      unless_last (awaits_actuation (need_of st)) (answered s t (need_of st) st h) (step_within n)

  -- one more of them than the stack weighs is enough for every step
  unfoldable pub step : Stack → History → Next
  step st h = step_within (suc (weight s st h)) st h

  -- from where a run stands; one that was too large does nothing more
  abbrev pub then_step : Next → Next
  then_step (goes_on st h) = step st h
  then_step (is_too_large h) = is_too_large h

-- ---- what a step adds

-- no instance was actuated since
abbrev pub IsQuiet : History → History → Type 0
IsQuiet h k = actuations_in k ≡ actuations_in h

-- the last that was done since is an actuation, and the only one
pub record HasActuated (t : Teller) (h k : History) : Type 0 where
  pub before : History
  pub grows : Grows h before
  pub quiet : IsQuiet h before
  pub instance : Instance
  pub status : Status
  pub acts : has_acts instance.work ≡ true
  pub so : k ≡ told instance (t.tells before instance) status before

-- what was done since is a whole step: it ends with its actuation, and there is more to do; or nothing is left to do;
-- or the run is too large there
abbrev pub IsWhole : Teller → History → Next → Type 0
IsWhole t h (goes_on st k) = ((need_of st ≡ nothing) × HasActuated t h k) ⊎ ((need_of st ≡ over) × IsQuiet h k)
IsWhole t h (is_too_large k) = IsQuiet h k

-- two tellers answer alike at a history, and at all that come of it with no actuation since
abbrev pub StepAlike : History → Teller → Teller → Type 0
StepAlike h t u =
    (k : History) (instance : Instance) → Grows h k → IsQuiet h k
    → (t.skips k instance ≡ u.skips k instance) × (t.tells k instance ≡ u.tells k instance)

-- ---- one after the other

module _ (s : Setting) where
  -- each step with its own teller
  abbrev pub after_steps : List Teller → Next → Next
  after_steps [] x = x
  after_steps (t ∷ tellers) x = after_steps tellers (then_step s t x)

  -- where a run begins
  abbrev pub begun : Next
  begun = goes_on (beginning s) []

-- ---- the end

-- nothing is left to do, or more visits are counted than may be
abbrev pub IsOver : Next → Type 0
IsOver (goes_on st h) = need_of st ≡ over
IsOver (is_too_large h) = ⊤

-- the history where a run stands
abbrev pub course_at : Next → Course
course_at (goes_on st h) = goes h
course_at (is_too_large h) = too_large h

-- it is over, with this history
abbrev pub EndsAs : Course → Next → Type 0
EndsAs course x = IsOver x × (course_at x ≡ course)

abbrev pub history_at : Course → History
history_at (goes h) = h
history_at (too_large h) = h

-- ---- many tellers

-- it tells at least one outcome, so that what is actuated is never told as one that was skipped
abbrev pub AlwaysTells : Teller → Type 0
AlwaysTells t = (h : History) (instance : Instance) → t.tells h instance ≡ [] → ⊥

-- that of the step at hand: the first tells up to the first actuation, and so on; and one after all of them
abbrev pub turn : List Teller → (last : Teller) → History → Teller
turn tellers last h = get_or tellers (actuations_in h) last

abbrev pub by_turns : List Teller → (last : Teller) → Teller
by_turns tellers last = record {
  skips = λ h i. (turn tellers last h).skips h i;
  tells = λ h i. (turn tellers last h).tells h i;
}

-- ---- several runs of one policy

-- a run is moved by one step, by its number, and the others stay
pub record Turn : Type 0 where
  pub number : ℕ
  pub teller : Teller

module _ (s : Setting) where
  abbrev pub stepped_if : (is_its : Bool) → Teller → Next → Next
  stepped_if true t x = then_step s t x
  stepped_if false t x = x

  -- where each stands, by its number
  abbrev pub interleaved : List Turn → (ℕ → Next) → ℕ → Next
  interleaved [] runs number = runs number
  interleaved (next ∷ turns) runs number =
      interleaved turns (λ k. stepped_if (next.number == k) next.teller (runs k)) number

-- the tellers that one of them is handed
abbrev pub handed_if : (is_its : Bool) → Teller → List Teller → List Teller
handed_if true t tellers = t ∷ tellers
handed_if false t tellers = tellers

abbrev pub handed_to : (number : ℕ) → List Turn → List Teller
handed_to number [] = []
handed_to number (next ∷ turns) = handed_if (next.number == number) next.teller (handed_to number turns)
