use Rattle.cfa_demo_laws.proofs.Resolutions.{demo_counts_one, demo_never_disturbs}
use Rattle.cfa_demo_laws.proofs.laws.demos_are_undisturbed.Goals as goal

pub returns-clause-one_visit : goal.returns-clause-one_visit
returns-clause-one_visit c = demo_counts_one

pub returns-clause-undisturbed : goal.returns-clause-undisturbed
returns-clause-undisturbed c = demo_never_disturbs
