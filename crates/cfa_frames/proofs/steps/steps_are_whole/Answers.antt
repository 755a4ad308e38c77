use Rattle.cfa_frames.proofs.TurnLemmas.{step_whole, actuated_counts, step_alike}
use Rattle.cfa_frames.proofs.steps.steps_are_whole.Goals as goal

pub returns-clause-whole : goal.returns-clause-whole
returns-clause-whole c = λ s t. step_whole s t c.instances_are_few.ensures

pub returns-clause-counted : goal.returns-clause-counted
returns-clause-counted c = λ t h k tells so. actuated_counts t h k tells so

pub returns-clause-alike : goal.returns-clause-alike
returns-clause-alike c = step_alike
