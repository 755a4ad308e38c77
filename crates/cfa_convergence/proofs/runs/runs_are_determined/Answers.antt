use Rattle.cfa_convergence.proofs.ToldLemmas.{runs_determined}
use Rattle.cfa_convergence.proofs.runs.runs_are_determined.Goals as goal

pub returns : goal.returns
returns c = runs_determined
