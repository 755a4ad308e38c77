use Rattle.std.proofs.Common.{◌≡◌, map}
use Rattle.cfa_states.specs.Logs.{visit_at}
use Rattle.cfa_states.proofs.logs.visits_at.Given as goal

abbrev pub invariant-loop-row : goal.invariant-loop-row
invariant-loop-row l = l.visits.items ≡ map (visit_at l.instances) l.yielded
