use Rattle.std.proofs.Common.{◌≡◌, drop}
use Rattle.cfa_bodies.specs.Bodies.{all_said, first_unresolved}
use Rattle.cfa_bodies.proofs.hearing.first_unresolved.Given as goal

abbrev pub invariant-loop-body : goal.invariant-loop-body
invariant-loop-body l = first_unresolved (all_said (drop l.body-index l.bodies)) ≡ first_unresolved (all_said l.bodies)
