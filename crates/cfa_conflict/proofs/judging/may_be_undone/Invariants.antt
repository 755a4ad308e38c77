use Rattle.cfa_conflict.proofs.CalmLemmas.{NoneDisturbs}
use Rattle.cfa_conflict.proofs.judging.may_be_undone.Given as goal

abbrev pub invariant-loop-place : goal.invariant-loop-place
invariant-loop-place l = NoneDisturbs l.all.instances.now l.one l.place-items l.place-index
