use Rattle.cfa_convergence.proofs.RunLemmas.{unfailing_contained}
use Rattle.cfa_convergence.proofs.containment.unfailing_runs_are_contained.Goals as goal

pub returns : goal.returns
returns c = unfailing_contained c.keys_tell_works.ensures c.raises_lie_together.ensures c.instances_are_same.ensures c.instances_are_keyed.ensures
