use Rattle.cfa_walk.specs.Turns.{IsStepping, machine_weight}
use Rattle.cfa_walk.proofs.TurnLemmas.{AfterTurns}
use Rattle.cfa_walk.proofs.stepping.step.Given as goal

-- the step goes on from where it began
abbrev pub invariant-loop-machine : goal.invariant-loop-machine
invariant-loop-machine g l =
    (AfterTurns g.T.Teller.teller g.T.Teller.agrees g.T.Teller.behind IsStepping g.T.Teller.faults (l.initial.teller, (l.initial.site, l.initial.out)) (l.teller, (l.site, l.out))
    l.initial.machine l.machine (g.P.Patterns.shown l.initial.pats) (g.P.Patterns.shown l.pats))
    × g.T.Teller.counts (l.initial.teller, (l.initial.site, l.initial.out)) (l.teller, (l.site, l.out))

abbrev pub decreases-loop-machine : goal.decreases-loop-machine
decreases-loop-machine g l = machine_weight l.machine
