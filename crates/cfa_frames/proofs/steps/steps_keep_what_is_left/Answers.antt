use Rattle.cfa_frames.proofs.StepLemmas.{step_meets, step_grows}
use Rattle.cfa_frames.proofs.steps.steps_keep_what_is_left.Goals as goal

pub returns-clause-left : goal.returns-clause-left
returns-clause-left c = step_meets

pub returns-clause-grows : goal.returns-clause-grows
returns-clause-grows c = step_grows
