use Rattle.cfa_walk.specs.Turns.{machine_weight}
use Rattle.cfa_agent.specs.Ran.{CountsFaults}
use Rattle.cfa_agent.specs.Putting.{RunsOn}
use Rattle.cfa_agent.proofs.running.run_on.Given as goal

-- the run is what it was to be so far
abbrev pub invariant-loop : goal.invariant-loop
invariant-loop g l =
    (RunsOn l.initial.running l.running l.initial.machine l.machine (g.S.Site.shown l.initial.site) (g.S.Site.shown l.site)
    (g.O.Sink.shown l.initial.out) (g.O.Sink.shown l.out) (g.P.Patterns.shown l.initial.pats) (g.P.Patterns.shown l.pats))
    × CountsFaults l.initial.running.tally.failed l.running.tally.failed (g.S.Site.shown l.initial.site).faults (g.S.Site.shown l.site).faults

abbrev pub decreases-loop : goal.decreases-loop
decreases-loop g l = machine_weight l.machine
