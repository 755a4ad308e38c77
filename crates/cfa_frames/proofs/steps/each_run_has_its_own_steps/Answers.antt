use Rattle.cfa_frames.proofs.TurnLemmas.{each_alone, each_made, each_ended}
use Rattle.cfa_frames.proofs.steps.each_run_has_its_own_steps.Goals as goal

pub returns-clause-alone : goal.returns-clause-alone
returns-clause-alone c = each_alone

pub returns-clause-made : goal.returns-clause-made
returns-clause-made c = λ s. each_made s c.instances_are_few.ensures

pub returns-clause-ended : goal.returns-clause-ended
returns-clause-ended c = λ s. each_ended s c.instances_are_few.ensures
