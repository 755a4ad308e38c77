use Rattle.cfa_laws.proofs.InstanceLemmas.{instances_keyed}
use Rattle.cfa_laws.proofs.keys.instances_are_keyed.Goals as goal

pub returns : goal.returns
returns c = instances_keyed
