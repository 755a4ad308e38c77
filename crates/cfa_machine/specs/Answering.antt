-- Of the code alone: what comes of an answer to the visit in hand of an activation.
use Rattle.std.specs.Prelude.{◌≡◌, ℕ, List, [], ◌∷◌, length, slice_get, Option, Some, None, IfSome}
use Rattle.cfa_outcomes.specs.declared.outcomes.Outcome.TheVariants.{Kept}
use Rattle.cfa_resolve.specs.declared.instances.Instance.{Instance}
use Rattle.cfa_resolve.specs.declared.instances.Work.{Work}
use Rattle.cfa_statuses.specs.declared.levels.Status.{Status}
use Rattle.cfa_frames.specs.Frames.{Ahead, Frame}
use Rattle.cfa_frames.specs.Moves.{begun_by, goes_on, stack}
use Rattle.cfa_states.specs.declared.endings.Ending.{Ending}
use Rattle.cfa_states.specs.declared.states.State.{State}
use Rattle.cfa_states.specs.History.{History, Listed, Told}
use Rattle.cfa_states.specs.Kept.{Keeps, KeepsLocally, SpareShorter}
use Rattle.cfa_states.specs.Levels.{EndedAs}
use Rattle.cfa_states.specs.Passes.{told}
use Rattle.cfa_states.specs.Tellers.{inner_path, outcomes_in}
use Rattle.cfa_states.specs.Views.{Setting}
use Rattle.cfa_machine.specs.declared.frames.Doing.{Doing as Code}
use Rattle.cfa_machine.specs.declared.frames.Doing.TheVariants.{Idle, Asked, Running}
use Rattle.cfa_machine.specs.declared.frames.Frame.{Frame as Held}
use Rattle.cfa_machine.specs.Machines.{seen_frame}

-- ---- the visit is skipped

abbrev pub unasked : Code → Code
unasked Idle = Idle
unasked (Asked at status) = Idle
unasked (Running at status worst) = Running at status worst

abbrev pub skipped_at : Status → Option Instance → History → History
skipped_at status None h = h
skipped_at status (Some instance) h = Told instance [] ∷ Listed instance status ∷ h

abbrev pub skipped_by : List Instance → Code → History → History
skipped_by row Idle h = h
skipped_by row (Asked at status) h = skipped_at status (slice_get row at) h
skipped_by row (Running at status worst) h = h

-- ---- it isn't

abbrev pub entered_doing : Code → Code
entered_doing Idle = Idle
entered_doing (Asked at status) = Running at status Kept
entered_doing (Running at status worst) = Running at status worst

-- the frame that began, above others
abbrev pub above : Option Held → List Frame → List Frame
above None frames = frames
above (Some f) frames = seen_frame f ∷ frames

-- what an instance calls began
pub record Begins (s : Setting) (depth : ℕ) (instance : Instance) (status : Status) (work : Work) (made : Option Held) (st : State) (h : History) : Type 0 where
  pub after : History
  pub next : (frames : List Frame) (a : Ahead) → begun_by s depth instance status work frames a h ≡ goes_on (stack (above made frames) a) after
  pub keeps : Keeps s st after
  pub spare : SpareShorter (length (inner_path instance)) h after
  pub local : IfSome made (λ f. KeepsLocally s f.activation after × (f.doing ≡ Idle))
  pub called : made ≡ None → EndedAs work instance Kept after

abbrev pub EntersAt : Setting → (depth : ℕ) → Status → Option Instance → (made : Option Held) → State → History → Type 0
EntersAt s depth status None made st h = (made ≡ None) × Keeps s st h
EntersAt s depth status (Some instance) made st h = Begins s depth instance status instance.work made st (Listed instance status ∷ h)

abbrev pub Enters : Setting → (depth : ℕ) → List Instance → Code → (made : Option Held) → State → History → Type 0
Enters s depth row Idle made st h = (made ≡ None) × Keeps s st h
Enters s depth row (Asked at status) made st h = EntersAt s depth status (slice_get row at) made st h
Enters s depth row (Running at status worst) made st h = (made ≡ None) × Keeps s st h

-- ---- the instance ended

abbrev pub ended_doing : Code → Code
ended_doing Idle = Idle
ended_doing (Asked at status) = Asked at status
ended_doing (Running at status worst) = Idle

abbrev pub ended_at : Ending → Status → Option Instance → History → History
ended_at ending status None h = h
ended_at ending status (Some instance) h = told instance (outcomes_in ending) status h

abbrev pub ended_by : Ending → List Instance → Code → History → History
ended_by ending row Idle h = h
ended_by ending row (Asked at status) h = h
ended_by ending row (Running at status worst) h = ended_at ending status (slice_get row at) h
