use Rattle.std.proofs.Common.{◌≡◌, take}
use Rattle.cfa_visits.proofs.ending.indexed.Given as goal

abbrev pub invariant-loop-class : goal.invariant-loop-class
invariant-loop-class l = l.index ≡ take l.class-index l.class-items
