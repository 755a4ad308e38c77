use Rattle.cfa_laws.proofs.OriginLemmas.{are_maybe}
use Rattle.cfa_laws.proofs.resolving.unsettled_are_maybe.Goals as goal

pub returns : goal.returns
returns c = are_maybe
