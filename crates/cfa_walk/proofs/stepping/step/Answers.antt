use Rattle.std.proofs.Common.{◌≡◌, ◌∙◌, Bool, Result, Ok, Err, IfOk, OnOk, true, false, ◌<◌, sym}
use Rattle.cfa_base.specs.lemmas.Results.{on_err}
use Rattle.cfa_machine.specs.Reaching.{done_of}
use Rattle.cfa_machine.specs.Stacks.{Holds, Stands, seen_stack}
use Rattle.cfa_frames.specs.Moves.{need_of, over}
use Rattle.cfa_output.specs.declared.ends.Stop.{Stop}
use Rattle.cfa_states.specs.History.{History}
use Rattle.cfa_states.specs.Levels.{FaultsAre, PatternsAre}
use Rattle.cfa_states.specs.Views.{Setting}
use Rattle.cfa_walk.specs.Turns.{EndsStep, IsAnswered, IsStepping, StepDone, machine_weight}
use Rattle.cfa_walk.proofs.StepLemmas.{lighter_still, step_over, stepping_none, step_stopped, stepping_ends, stepping_then}
use Rattle.cfa_walk.proofs.TurnLemmas.{after_turn, faults_then, gone_then, later_then, patterns_then}
use Rattle.cfa_walk.proofs.stepping.step.Goals as goal

pub returns-in-Over-clause-stepped : goal.returns-in-Over-clause-stepped
returns-in-Over-clause-stepped g c =
    step_over g.T.Teller.teller g.T.Teller.agrees g.T.Teller.behind (c.args.teller.now, (c.args.site.now, c.args.out.now))
    (c.loop-machine.teller, (c.loop-machine.site, c.loop-machine.out)) c.args.machine.now c.loop-machine.machine
    (sym c.in-Over.ensures) c.steps_end_with_an_actuation.ensures.over c.loop-machine.invariant.0.turned

pub returns-in_err-turn : goal.returns-in_err-turn
returns-in_err-turn g c =
    let stop = c.in_err-turn.field-0.0 in
    let last = c.from_residual.ensures.1 in
    record {
      stepped =
          on_err (StepDone g.T.Teller.teller g.T.Teller.agrees g.T.Teller.behind (c.args.teller.now, (c.args.site.now, c.args.out.now))
          (c.turn.new.teller, (c.turn.new.site, c.turn.new.out)) c.args.machine.now c.turn.new.machine)
          c.from_residual.result stop last
          (step_stopped g.T.Teller.teller g.T.Teller.agrees g.T.Teller.behind (c.args.teller.now, (c.args.site.now, c.args.out.now))
          (c.loop-machine.teller, (c.loop-machine.site, c.loop-machine.out)) (c.turn.new.teller, (c.turn.new.site, c.turn.new.out))
          c.args.machine.now c.loop-machine.machine c.turn.new.machine stop
          c.steps_end_with_an_actuation.ensures.goes_on c.steps_end_with_an_actuation.ensures.actuates
          c.loop-machine.invariant.0.turned c.in_err-turn.ensures.turned);
      over = on_err (λ (result : Result Bool Stop). IfOk result (λ is_more. is_more ≡ false → need_of (seen_stack c.turn.new.machine) ≡ over)) c.from_residual.result stop last tt;
      holds = on_err (λ (result : Result Bool Stop). OnOk result (Holds c.turn.new.machine)) c.from_residual.result stop last tt;
      stands = on_err (λ (result : Result Bool Stop). OnOk result ((s : Setting) × ((h : History) × Stands s c.turn.new.machine h))) c.from_residual.result stop last tt;
      lighter = on_err (λ (result : Result Bool Stop). IfOk result (λ is_more. is_more ≡ true → machine_weight c.turn.new.machine < machine_weight c.args.machine.now)) c.from_residual.result stop last tt;
      faults =
          on_err (λ (result : Result Bool Stop). FaultsAre (g.T.Teller.faults (c.args.teller.now, (c.args.site.now, c.args.out.now))) (g.T.Teller.faults (c.turn.new.teller, (c.turn.new.site, c.turn.new.out))) (done_of result))
          c.from_residual.result stop last
          (faults_then (g.T.Teller.faults (c.args.teller.now, (c.args.site.now, c.args.out.now))) (g.T.Teller.faults (c.loop-machine.teller, (c.loop-machine.site, c.loop-machine.out)))
          (g.T.Teller.faults (c.turn.new.teller, (c.turn.new.site, c.turn.new.out))) (Err stop) c.loop-machine.invariant.0.faults_are c.in_err-turn.ensures.faults);
      counted = on_err (λ (result : Result Bool Stop). OnOk result (g.T.Teller.counts (c.args.teller.now, (c.args.site.now, c.args.out.now)) (c.turn.new.teller, (c.turn.new.site, c.turn.new.out)))) c.from_residual.result stop last tt;
      patterns =
          on_err (λ (result : Result Bool Stop). PatternsAre (done_of result) (g.P.Patterns.shown c.args.pats.now) (g.P.Patterns.shown c.turn.new.pats))
          c.from_residual.result stop last
          (patterns_then (g.P.Patterns.shown c.args.pats.now) (g.P.Patterns.shown c.loop-machine.pats) (g.P.Patterns.shown c.turn.new.pats)
          (Err stop) c.loop-machine.invariant.0.patterns_are c.in_err-turn.ensures.patterns);
    }

pub returns-then-actuates : goal.returns-then-actuates
returns-then-actuates g c =
    let mid = c.loop-machine.invariant.0 in
    let heavier = c.in_ok-turn.ensures.lighter mid.stands.0 mid.stands.1.0 mid.stands.1.1 in
    record {
      stepped =
          gone_then g.T.Teller.teller g.T.Teller.agrees g.T.Teller.behind IsStepping IsAnswered (EndsStep true) (c.args.teller.now, (c.args.site.now, c.args.out.now))
          (c.loop-machine.teller, (c.loop-machine.site, c.loop-machine.out)) (c.turn.new.teller, (c.turn.new.site, c.turn.new.out))
          c.args.machine.now c.loop-machine.machine c.turn.new.machine
          (stepping_ends (seen_stack c.loop-machine.machine) (sym c.awaits_actuation-actuates.ensures ∙ c.if-actuates.true) c.steps_end_with_an_actuation.ensures.actuates)
          mid.turned c.in_ok-turn.ensures.turned;
      over = λ is. absurd (cc);
      holds = c.in_ok-turn.ensures.holds;
      stands = (mid.stands.0, heavier.1);
      lighter = λ is. lighter_still (machine_weight c.args.machine.now) (machine_weight c.loop-machine.machine) (machine_weight c.turn.new.machine) mid.lighter heavier.0;
      faults =
          later_then (g.T.Teller.faults (c.args.teller.now, (c.args.site.now, c.args.out.now))) (g.T.Teller.faults (c.loop-machine.teller, (c.loop-machine.site, c.loop-machine.out)))
          (g.T.Teller.faults (c.turn.new.teller, (c.turn.new.site, c.turn.new.out))) mid.faults_are c.in_ok-turn.ensures.faults;
      counted = g.T.Teller.counts_then (c.args.teller.now, (c.args.site.now, c.args.out.now))
          (c.loop-machine.teller, (c.loop-machine.site, c.loop-machine.out)) (c.turn.new.teller, (c.turn.new.site, c.turn.new.out))
          c.loop-machine.invariant.1 c.in_ok-turn.ensures.counted;
      patterns = c.in_ok-turn.ensures.patterns ∙ mid.patterns_are;
    }

pub loop-machine-init : goal.loop-machine-init
loop-machine-init g c = (
  stepping_none g.T.Teller.teller g.T.Teller.agrees g.T.Teller.behind g.T.Teller.faults (c.args.teller.now, (c.args.site.now, c.args.out.now)) c.args.machine.now (g.P.Patterns.shown c.args.pats.now) c.requires.holds c.requires.stands,
  g.T.Teller.counts_none (c.args.teller.now, (c.args.site.now, c.args.out.now)),
)

pub loop-machine-preserved : goal.loop-machine-preserved
loop-machine-preserved g c = (
  after_turn g.T.Teller.teller g.T.Teller.agrees g.T.Teller.behind IsStepping g.T.Teller.faults (c.args.teller.now, (c.args.site.now, c.args.out.now))
      (c.loop-machine.teller, (c.loop-machine.site, c.loop-machine.out)) (c.turn.new.teller, (c.turn.new.site, c.turn.new.out))
      c.args.machine.now c.loop-machine.machine c.turn.new.machine
      (g.P.Patterns.shown c.args.pats.now) (g.P.Patterns.shown c.loop-machine.pats) (g.P.Patterns.shown c.turn.new.pats)
      (stepping_then (seen_stack c.loop-machine.machine) (sym c.awaits_actuation-actuates.ensures ∙ c.if-actuates.false) c.steps_end_with_an_actuation.ensures.goes_on)
      c.loop-machine.invariant.0 c.in_ok-turn.ensures.turned c.in_ok-turn.ensures.lighter c.in_ok-turn.ensures.holds c.in_ok-turn.ensures.faults c.in_ok-turn.ensures.patterns,
  g.T.Teller.counts_then (c.args.teller.now, (c.args.site.now, c.args.out.now)) (c.loop-machine.teller, (c.loop-machine.site, c.loop-machine.out)) (c.turn.new.teller, (c.turn.new.site, c.turn.new.out))
      c.loop-machine.invariant.1 c.in_ok-turn.ensures.counted,
)
