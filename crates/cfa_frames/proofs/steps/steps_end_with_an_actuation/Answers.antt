use Rattle.cfa_frames.proofs.StepLemmas.{step_actuates, step_goes_on, within_step, step_over}
use Rattle.cfa_frames.proofs.steps.steps_end_with_an_actuation.Goals as goal

pub returns-clause-actuates : goal.returns-clause-actuates
returns-clause-actuates c = step_actuates

pub returns-clause-goes_on : goal.returns-clause-goes_on
returns-clause-goes_on c = λ s t. step_goes_on s t c.instances_are_few.ensures

pub returns-clause-ends : goal.returns-clause-ends
returns-clause-ends c = λ s t st h n. within_step s t c.instances_are_few.ensures n st h

pub returns-clause-over : goal.returns-clause-over
returns-clause-over c = step_over
