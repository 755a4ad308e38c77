use Rattle.std.proofs.Common.{◌≡◌, drop, map}
use Rattle.std.specs.List.{list_any}
use Rattle.cfa_bodies.specs.Bodies.{is_over}
use Rattle.cfa_bodies.proofs.hearing.says_over.Given as goal

abbrev pub invariant-loop-saying : goal.invariant-loop-saying
invariant-loop-saying l = list_any is_over (map (λ s. s.1) (drop l.saying-index l.sayings)) ≡ list_any is_over (map (λ s. s.1) l.sayings)
