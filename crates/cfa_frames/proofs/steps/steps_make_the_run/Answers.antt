use Rattle.cfa_frames.proofs.TurnLemmas.{run_by_steps, turns_kept, turns_end, steps_over}
use Rattle.cfa_frames.proofs.steps.steps_make_the_run.Goals as goal

pub returns-clause-run : goal.returns-clause-run
returns-clause-run c = λ s. run_by_steps s c.instances_are_few.ensures

pub returns-clause-turns : goal.returns-clause-turns
returns-clause-turns c = λ s. turns_kept s c.instances_are_few.ensures

pub returns-clause-ended : goal.returns-clause-ended
returns-clause-ended c = λ s. turns_end s c.instances_are_few.ensures

pub returns-clause-stays : goal.returns-clause-stays
returns-clause-stays c = steps_over
