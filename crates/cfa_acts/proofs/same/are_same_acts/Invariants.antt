use Rattle.std.proofs.Common.{◌≡◌, drop}
use Rattle.std.specs.Cmp.Lexicographic.{pointwise}
use Rattle.cfa_acts.specs.Same.{is_same}
use Rattle.cfa_acts.proofs.same.are_same_acts.Given as goal

abbrev pub invariant-loop-i : goal.invariant-loop-i
invariant-loop-i l = pointwise is_same (drop l.i l.acts) (drop l.i l.others) ≡ pointwise is_same l.acts l.others
