use Rattle.cfa_convergence.proofs.ToldLemmas.{runs_told}
use Rattle.cfa_convergence.proofs.runs.runs_are_told.Goals as goal

pub returns : goal.returns
returns c = runs_told
