use Rattle.std.proofs.Common.{◌≡◌, drop}
use Rattle.std.specs.List.{list_any}
use Rattle.cfa_bodies.specs.Bodies.{all_said, is_many}
use Rattle.cfa_bodies.proofs.hearing.is_any_many.Given as goal

abbrev pub invariant-loop-body : goal.invariant-loop-body
invariant-loop-body l = list_any is_many (all_said (drop l.body-index l.bodies)) ≡ list_any is_many (all_said l.bodies)
