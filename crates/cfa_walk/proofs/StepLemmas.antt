-- Steps of a run: turns up to and with an actuation, or to the end.
use Rattle.std.proofs.Common.{◌≡◌, ◌∙◌, ℕ, zero, suc, ◌<◌, ◌≤◌, Bool, true, false, List, [], ◌∷◌, ap, sym, refl, subst, arith}
use Rattle.std.specs.Prelude.{Result, Ok, Err}
use Rattle.cfa_output.specs.declared.ends.Stop.{Stop}
use Rattle.cfa_output.specs.declared.ends.Stop.TheVariants.{Outside, Memory, Visits, Pattern}
use Rattle.cfa_outcomes.specs.declared.outcomes.Outcome.{Outcome}
use Rattle.cfa_resolve.specs.declared.instances.Instance.{Instance}
use Rattle.cfa_statuses.specs.declared.levels.Status.{Status}
use Rattle.cfa_frames.specs.Frames.{Ahead, Doing, Frame, Stack, asked, idle, rest, running}
use Rattle.cfa_frames.specs.Moves.{Need, Next, ahead_need, answered, doing_ended, doing_need, ended, ending, frames_ended, frames_need, goes_on, is_too_large, need_of, nothing, over, skipping}
use Rattle.cfa_frames.specs.Steps.{awaits_actuation, step, then_step}
use Rattle.cfa_base.specs.Shown.{Shown}
use Rattle.cfa_machine.specs.Stacks.{Holds, Stands, seen_stack}
use Rattle.cfa_machine.specs.declared.machines.Machine.{Machine}
use Rattle.cfa_states.specs.Builds.{BuiltOn}
use Rattle.cfa_states.specs.History.{History}
use Rattle.cfa_states.specs.Levels.{Faults, outcomes_of}
use Rattle.cfa_states.specs.Tellers.{Teller}
use Rattle.cfa_states.specs.Views.{Setting}
use Rattle.cfa_tree.specs.Tree.{BlockTree}
use Rattle.cfa_walk.specs.Turns.{Relation, IsLeft, IsAnswered, IsStepping, HasStepped, EndsStep, HasGone, GoesPastLimit, StepDone, TurnDone}
use Rattle.cfa_walk.proofs.TurnLemmas.{AfterTurns, Compose, built_then, gone_then, later_same, past_then}

-- ---- behind an actuation nothing is waited for

abbrev Rests : Next → Type 0
Rests (goes_on st k) = need_of st ≡ nothing
Rests (is_too_large k) = ⊥

ahead_ends_not : (commons : List BlockTree) (rounds : ℕ) (sequence : List (List ℕ)) (i : Instance) (status : Status) → ahead_need commons rounds sequence ≡ ending i status → ⊥
ahead_ends_not (block ∷ commons) rounds sequence i status is = cc
ahead_ends_not [] (suc n) sequence i status is = cc
ahead_ends_not [] zero (name ∷ sequence) i status is = cc
ahead_ends_not [] zero [] i status is = cc

doing_rests : (os : List Outcome) (d : Doing) (f : Frame) (frames : List Frame) (a : Ahead) (h : History) (i : Instance) (status : Status) → doing_need d ≡ ending i status →
    Rests (doing_ended os d f frames a h)
doing_rests os idle f frames a h i status need = absurd (cc)
doing_rests os (asked j other) f frames a h i status need = absurd (cc)
doing_rests os (running j other) f frames a h i status need = refl

frames_rest : (os : List Outcome) (frames : List Frame) (a : Ahead) (h : History) (i : Instance) (status : Status) → frames_need frames a ≡ ending i status →
    Rests (frames_ended os frames a h)
frames_rest os [] a h i status need = absurd (ahead_ends_not a.commons a.rounds a.sequence i status need)
frames_rest os (f ∷ frames) a h i status need = doing_rests os f.doing f frames a h i status need

need_rests : (s : Setting) (t : Teller) (need : Need) (st : Stack) (h : History) → need_of st ≡ need → awaits_actuation need ≡ true → Rests (answered s t need st h)
need_rests s t nothing st h is it_does = absurd (cc)
need_rests s t (skipping i status) st h is it_does = absurd (cc)
need_rests s t (ending i status) st h is it_does = frames_rest (outcomes_of t h i i.work) st.frames st.ahead h i status is
need_rests s t over st h is it_does = absurd (cc)

-- ---- the laws of steps

abbrev StepGoesOn : Type 0
StepGoesOn = (s : Setting) (t : Teller) (st : Stack) (h : History) → awaits_actuation (need_of st) ≡ false →
    step s t st h ≡ then_step s t (answered s t (need_of st) st h)

abbrev StepActuates : Type 0
StepActuates = (s : Setting) (t : Teller) (st : Stack) (h : History) → awaits_actuation (need_of st) ≡ true → step s t st h ≡ answered s t (need_of st) st h

abbrev StepIsOver : Type 0
StepIsOver = (s : Setting) (t : Teller) (st : Stack) (h : History) → need_of st ≡ over → step s t st h ≡ goes_on st h

pub stepping_same : (s : Setting) (t : Teller) (st : Stack) (h : History) → IsStepping s t st h st h
stepping_same s t st h = (refl, refl)

pub stepping_then : (mid : Stack) → awaits_actuation (need_of mid) ≡ false → StepGoesOn → Compose IsStepping mid IsAnswered IsStepping
stepping_then mid it_does_not law s t st h k st' l before turned = (turned.0 ∙ before.0, before.1 ∙ (law s t mid k it_does_not ∙ ap (then_step s t) turned.1))

pub stepping_ends : (mid : Stack) → awaits_actuation (need_of mid) ≡ true → StepActuates → Compose IsStepping mid IsAnswered (EndsStep true)
stepping_ends mid it_does law s t st h k st' l before turned =
    ((turned.0 ∙ before.0, before.1 ∙ (law s t mid k it_does ∙ turned.1)), subst Rests turned.1 (need_rests s t (need_of mid) mid k refl it_does))

-- a text that was refused, or too many visits
past_mid : (s : Setting) (t : Teller) (mid : Stack) (k l : History) (waits : Bool) → awaits_actuation (need_of mid) ≡ waits → StepGoesOn → StepActuates →
    answered s t (need_of mid) mid k ≡ is_too_large l → step s t mid k ≡ is_too_large l
past_mid s t mid k l true it_does goes acts is = acts s t mid k it_does ∙ is
past_mid s t mid k l false it_does_not goes acts is = goes s t mid k it_does_not ∙ ap (then_step s t) is

module _ {W X : Type 0} (teller : X → Teller) (agrees : W → X → Type 0) (behind : W → X → History → Type 0) where
  -- where nothing was made
  pub stepping_none : (faults : W → Faults) (w : W) (m : Machine) (pats : Shown (List (List ℕ))) → Holds m → (s : Setting) × ((h : History) × Stands s m h) →
      AfterTurns teller agrees behind IsStepping faults w w m m pats pats
  stepping_none faults w m pats holds stands = record {
    holds = holds;
    stands = stands;
    turned = λ s x h agree. (agree, λ stands stays. (h, (stands, (stays, stepping_same s (teller x) (seen_stack m) h))));
    lighter = omega arith;
    faults_are = later_same (faults w);
    patterns_are = refl;
  }

  -- where nothing is left
  pub step_over : (w w' : W) (m m' : Machine) → need_of (seen_stack m') ≡ over → StepIsOver → HasGone teller agrees behind IsStepping w w' m m' →
      HasGone teller agrees behind (EndsStep false) w w' m m'
  step_over w w' m m' is law gone = λ s x h agree.
      let all = gone s x h agree in (
        all.0,
        λ stands stays.
            let end = all.1 stands stays in
            (end.0, (end.1.0, (end.1.1.0, ((end.1.1.1.0, end.1.1.1.1 ∙ law s (teller x) (seen_stack m') end.0 is), is)))),
      )

  -- a turn in which it stops
  pub step_stopped : (w w' w'' : W) (m m' m'' : Machine) (stop : Stop) → StepGoesOn → StepActuates → HasGone teller agrees behind IsStepping w w' m m' →
      TurnDone teller agrees behind w' w'' m' m'' (Err stop) → StepDone teller agrees behind w w'' m m'' (Err stop)
  step_stopped w w' w'' m m' m'' (Outside object) goes acts first second = tt
  step_stopped w w' w'' m m' m'' Memory goes acts first second = tt
  step_stopped w w' w'' m m' m'' Visits goes acts first second =
      past_then teller agrees behind IsStepping (λ s t st. answered s t (need_of st) st) step w w' w'' m m'
      (λ s t st h k on l is. on.1 ∙ past_mid s t (seen_stack m') k l (awaits_actuation (need_of (seen_stack m'))) refl goes acts is)
      (λ s t st h k on. on.0) first second
  step_stopped w w' w'' m m' m'' (Pattern text) goes acts first second =
      built_then teller agrees behind IsStepping w w' w'' m m' text (λ s t st h k on. on.0) first second

-- ---- weights

pub lighter_still : (a b c : ℕ) → b ≤ a → c < b → c < a
lighter_still a b c le less = omega (arith, le, less)
