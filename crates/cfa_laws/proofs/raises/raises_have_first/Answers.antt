use Rattle.cfa_laws.proofs.FirstLemmas.{have_first}
use Rattle.cfa_laws.proofs.raises.raises_have_first.Goals as goal

pub returns : goal.returns
returns c = have_first
