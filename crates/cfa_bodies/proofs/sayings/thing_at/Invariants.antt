use Rattle.std.proofs.Common.{◌≡◌, drop}
use Rattle.cfa_vars.specs.Named.{thing_at}
use Rattle.cfa_bodies.proofs.sayings.thing_at.Given as goal

abbrev pub invariant-loop-thing : goal.invariant-loop-thing
invariant-loop-thing g l = thing_at (drop l.thing-index l.things) l.name ≡ thing_at l.things l.name
