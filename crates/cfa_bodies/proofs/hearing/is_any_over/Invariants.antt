use Rattle.std.proofs.Common.{◌≡◌, drop}
use Rattle.std.specs.List.{list_any}
use Rattle.cfa_bodies.specs.Bodies.{all_said, is_over}
use Rattle.cfa_bodies.proofs.hearing.is_any_over.Given as goal

abbrev pub invariant-loop-body : goal.invariant-loop-body
invariant-loop-body l = list_any is_over (all_said (drop l.body-index l.bodies)) ≡ list_any is_over (all_said l.bodies)
