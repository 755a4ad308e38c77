use Rattle.cfa_resolve.proofs.NamedLemmas.{instances_named}
use Rattle.cfa_resolve.proofs.laws.instances_are_named.Goals as goal

pub returns : goal.returns
returns c = instances_named
