use Rattle.cfa_laws.proofs.RaiseLemmas.{raises_together}
use Rattle.cfa_laws.proofs.raises.raises_lie_together.Goals as goal

pub returns : goal.returns
returns c = raises_together
