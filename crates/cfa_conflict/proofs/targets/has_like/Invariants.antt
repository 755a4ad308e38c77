use Rattle.cfa_conflict.proofs.targets.has_like.Given as goal

abbrev pub invariant-loop-i : goal.invariant-loop-i
invariant-loop-i l = Unit {0}
