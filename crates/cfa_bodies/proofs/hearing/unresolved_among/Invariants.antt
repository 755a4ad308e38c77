use Rattle.std.proofs.Common.{◌≡◌, drop, map}
use Rattle.cfa_bodies.specs.Bodies.{first_unresolved}
use Rattle.cfa_bodies.proofs.hearing.unresolved_among.Given as goal

abbrev pub invariant-loop-saying : goal.invariant-loop-saying
invariant-loop-saying l = first_unresolved (map (λ s. s.1) (drop l.saying-index l.sayings)) ≡ first_unresolved (map (λ s. s.1) l.sayings)
