use Rattle.cfa_laws.proofs.ResolvingLemmas.{are_same}
use Rattle.cfa_laws.proofs.resolving.instances_are_same.Goals as goal

pub returns : goal.returns
returns c = are_same
