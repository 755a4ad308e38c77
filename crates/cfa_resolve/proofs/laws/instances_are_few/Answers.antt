use Rattle.cfa_resolve.proofs.FewLemmas.{instances_few}
use Rattle.cfa_resolve.proofs.laws.instances_are_few.Goals as goal

pub returns : goal.returns
returns c = instances_few
