use Rattle.cfa_convergence.proofs.KnownLemmas.{actuations_keyed, runs_known}
use Rattle.cfa_convergence.proofs.actuations.actuations_are_keyed.Goals as goal

pub returns : goal.returns
returns c = λ s tells h known is. actuations_keyed h (runs_known s tells c.instances_are_keyed.ensures known h is)
