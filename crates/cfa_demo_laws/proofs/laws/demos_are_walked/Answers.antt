use Rattle.cfa_demo_laws.proofs.Fits.{demo_runs_fit}
use Rattle.cfa_demo_laws.proofs.Settled.{demo_walks_are_sure}
use Rattle.cfa_demo_laws.proofs.laws.demos_are_walked.Goals as goal

pub returns-clause-fits : goal.returns-clause-fits
returns-clause-fits c = demo_runs_fit

pub returns-clause-sure : goal.returns-clause-sure
returns-clause-sure c = demo_walks_are_sure
