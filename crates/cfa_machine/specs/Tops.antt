-- Of the code alone: what comes of the innermost bundle of a machine.
use Rattle.std.specs.Prelude.{◌≡◌, ⊤, Bool, true, OnOk, Option, Some, None, Result, Ok}
use Rattle.cfa_outcomes.specs.declared.outcomes.Outcome.{Outcome}
use Rattle.cfa_outcomes.specs.declared.outcomes.Outcome.TheVariants.{Kept}
use Rattle.cfa_output.specs.declared.ends.Stop.{Stop}
use Rattle.cfa_tree.specs.Tree.{PolicyTree}
use Rattle.cfa_states.specs.declared.states.State.{State}
use Rattle.cfa_states.specs.History.{History}
use Rattle.cfa_states.specs.Kept.{Stands}
use Rattle.cfa_states.specs.Views.{Setting}
use Rattle.cfa_machine.specs.declared.frames.Doing.{Doing as Code}
use Rattle.cfa_machine.specs.declared.frames.Doing.TheVariants.{Idle, Asked, Running}
use Rattle.cfa_machine.specs.declared.frames.Frame.{Frame as Held}
use Rattle.cfa_machine.specs.declared.tops.Top.{Top}
use Rattle.cfa_machine.specs.declared.tops.Top.TheVariants as tops
use Rattle.cfa_machine.specs.Answering.{Enters, entered_doing}
use Rattle.cfa_machine.specs.Commons.{CommonStepsTo}
use Rattle.cfa_machine.specs.Machines.{row_in}
use Rattle.cfa_machine.specs.Standing.{FrameHolds}
use Rattle.cfa_machine.specs.Stepping.{StepsTo}

-- ---- what it remembers

-- where it is an agent bundle
abbrev pub TopRemembers : PolicyTree → State → Top → Type 0
TopRemembers policy st tops.Nothing = ⊤
TopRemembers policy st (tops.Common c) = ⊤
TopRemembers policy st (tops.Agent f) = FrameHolds policy st f

-- ---- moves

abbrev pub NotRunning : Code → Type 0
NotRunning Idle = ⊤
NotRunning (Asked at status) = ⊤
NotRunning (Running at status worst) = ⊥

-- one in which a visit is in hand stays as it is
abbrev pub AgentSteps : PolicyTree → (st st' : State) → Code → (f f' : Held) → Result Bool Stop → Type 0
AgentSteps policy st st' Idle f f' result = StepsTo policy st st' f f' result × OnOk result (NotRunning f'.doing)
AgentSteps policy st st' (Asked at status) f f' result = (result ≡ Ok true) × ((f' ≡ f) × (st' ≡ st))
AgentSteps policy st st' (Running at status worst) f f' result = (result ≡ Ok true) × ((f' ≡ f) × (st' ≡ st))

abbrev pub TopSteps : PolicyTree → (st st' : State) → (top top' : Top) → Result Bool Stop → Type 0
TopSteps policy st st' tops.Nothing top' result = (result ≡ Ok true) × ((top' ≡ tops.Nothing) × (st' ≡ st))
TopSteps policy st st' (tops.Common c) (tops.Common c') result = CommonStepsTo policy st st' c c' result
TopSteps policy st st' (tops.Common c) tops.Nothing result = ⊥
TopSteps policy st st' (tops.Common c) (tops.Agent f') result = ⊥
TopSteps policy st st' (tops.Agent f) (tops.Agent f') result = AgentSteps policy st st' f.doing f f' result
TopSteps policy st st' (tops.Agent f) tops.Nothing result = ⊥
TopSteps policy st st' (tops.Agent f) (tops.Common c') result = ⊥

-- ---- a bundle that is left

abbrev pub worst_of : Top → Outcome
worst_of tops.Nothing = Kept
worst_of (tops.Common c) = Kept
worst_of (tops.Agent f) = f.activation.worst

abbrev pub with_worst : Outcome → Code → Code
with_worst worst Idle = Idle
with_worst worst (Asked at status) = Asked at status
with_worst worst (Running at status before) = Running at status worst

-- the one below it, which runs its call
abbrev pub called_top : Option Held → Outcome → Top
called_top None worst = tops.Nothing
called_top (Some f) worst = tops.Agent (record f { doing = with_worst worst f.doing })

-- ---- a visit that is entered

abbrev pub TopEnters : PolicyTree → (st st' : State) → (top top' : Top) → (made : Option Held) → Type 0
TopEnters policy st st' tops.Nothing top' made = (top' ≡ tops.Nothing) × ((made ≡ None) × (st' ≡ st))
TopEnters policy st st' (tops.Common c) top' made = (top' ≡ tops.Common c) × ((made ≡ None) × (st' ≡ st))
TopEnters policy st st' (tops.Agent f) top' made =
    (top' ≡ tops.Agent (record f { doing = entered_doing f.doing }))
    × ((s : Setting) (h : History) → s.policy ≡ policy → Stands s st f.activation h →
    Enters s f.depth (row_in f.rows.items f.hand) f.doing made st' h)
