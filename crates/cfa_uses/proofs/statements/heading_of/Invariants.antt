use Rattle.std.proofs.Common.{Contains, IfSome}
use Rattle.cfa_uses.proofs.statements.heading_of.Given as goal

abbrev pub invariant-loop-at : goal.invariant-loop-at
invariant-loop-at l = IfSome l.heading (λ part. Contains l.parts part)
