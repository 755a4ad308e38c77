use Rattle.std.proofs.Common.{Result, Err, sym}
use Rattle.cfa_base.specs.lemmas.Results.{on_err}
use Rattle.cfa_machine.specs.Stacks.{seen_stack}
use Rattle.cfa_output.specs.declared.ends.Stop.{Stop}
use Rattle.cfa_states.specs.Levels.{FaultsAre, PatternsAre}
use Rattle.cfa_walk.specs.Ended.{to_state}
use Rattle.cfa_walk.specs.Walked.{HasRunTo}
use Rattle.cfa_walk.specs.Turns.{IsLeft}
use Rattle.cfa_walk.proofs.TurnLemmas.{after_turn, faults_then, left_then, patterns_then, run_over, run_stopped}
use Rattle.cfa_walk.proofs.walking.make_run.Goals as goal

pub returns-in-Over-clause-ran : goal.returns-in-Over-clause-ran
returns-in-Over-clause-ran g c = λ s stands is.
    run_over g.T.Teller.teller g.T.Teller.agrees g.T.Teller.behind s (c.args.teller.now, (c.args.site.now, c.args.out.now))
    (c.loop-machine.teller, (c.loop-machine.site, c.loop-machine.out)) c.args.machine.now c.loop-machine.machine
    (λ t. c.moves_keep_what_is_left.ensures.begins s t) (λ t h. c.moves_keep_what_is_left.ensures.over s t (seen_stack c.loop-machine.machine) h (sym c.in-Over.ensures))
    stands is c.loop-machine.invariant.turned

pub loop-machine-preserved : goal.loop-machine-preserved
loop-machine-preserved g c =
    after_turn g.T.Teller.teller g.T.Teller.agrees g.T.Teller.behind IsLeft g.T.Teller.faults (c.args.teller.now, (c.args.site.now, c.args.out.now))
    (c.loop-machine.teller, (c.loop-machine.site, c.loop-machine.out)) (c.turn.new.teller, (c.turn.new.site, c.turn.new.out))
    c.args.machine.now c.loop-machine.machine c.turn.new.machine
    (g.P.Patterns.shown c.args.pats.now) (g.P.Patterns.shown c.loop-machine.pats) (g.P.Patterns.shown c.turn.new.pats)
    (left_then (seen_stack c.loop-machine.machine)) c.loop-machine.invariant c.in_ok-turn.ensures.turned c.in_ok-turn.ensures.lighter c.in_ok-turn.ensures.holds c.in_ok-turn.ensures.faults c.in_ok-turn.ensures.patterns

pub returns-in_err-turn : goal.returns-in_err-turn
returns-in_err-turn g c =
    let stop = c.in_err-turn.field-0.0 in
    let last = c.from_residual.ensures.1 in
    record {
      ran = λ s stands is.
          on_err (λ (result : Result (Unit {0}) Stop). HasRunTo g.T.Teller.teller g.T.Teller.agrees g.T.Teller.behind s
          (c.args.teller.now, (c.args.site.now, c.args.out.now)) (c.turn.new.teller, (c.turn.new.site, c.turn.new.out)) (to_state c.turn.new.machine.state result))
          c.from_residual.result stop last
          (run_stopped g.T.Teller.teller g.T.Teller.agrees g.T.Teller.behind s (c.args.teller.now, (c.args.site.now, c.args.out.now))
          (c.loop-machine.teller, (c.loop-machine.site, c.loop-machine.out)) (c.turn.new.teller, (c.turn.new.site, c.turn.new.out))
          c.args.machine.now c.loop-machine.machine c.turn.new.machine stop (λ t. c.moves_keep_what_is_left.ensures.begins s t) stands is
          c.loop-machine.invariant.turned c.in_err-turn.ensures.turned);
      faults =
          on_err (FaultsAre (g.T.Teller.faults (c.args.teller.now, (c.args.site.now, c.args.out.now))) (g.T.Teller.faults (c.turn.new.teller, (c.turn.new.site, c.turn.new.out))))
          c.from_residual.result stop last
          (faults_then (g.T.Teller.faults (c.args.teller.now, (c.args.site.now, c.args.out.now))) (g.T.Teller.faults (c.loop-machine.teller, (c.loop-machine.site, c.loop-machine.out)))
          (g.T.Teller.faults (c.turn.new.teller, (c.turn.new.site, c.turn.new.out))) (Err stop) c.loop-machine.invariant.faults_are c.in_err-turn.ensures.faults);
      patterns =
          on_err (λ (result : Result (Unit {0}) Stop). PatternsAre result (g.P.Patterns.shown c.args.pats.now) (g.P.Patterns.shown c.turn.new.pats))
          c.from_residual.result stop last
          (patterns_then (g.P.Patterns.shown c.args.pats.now) (g.P.Patterns.shown c.loop-machine.pats) (g.P.Patterns.shown c.turn.new.pats)
          (Err stop) c.loop-machine.invariant.patterns_are c.in_err-turn.ensures.patterns);
    }
