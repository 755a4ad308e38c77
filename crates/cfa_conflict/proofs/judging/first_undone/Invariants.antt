use Rattle.cfa_conflict.proofs.QuietLemmas.{NoneBelow}
use Rattle.cfa_conflict.proofs.judging.first_undone.Given as goal

abbrev pub invariant-loop-place : goal.invariant-loop-place
invariant-loop-place l = NoneBelow l.all.visits.visits.now l.all.instances.now l.one.instance.now l.one.place l.place-items l.place-index
