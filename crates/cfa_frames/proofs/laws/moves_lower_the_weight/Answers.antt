use Rattle.cfa_frames.proofs.LightLemmas.{moved_lighter, skipped_lighter, entered_lighter, ended_lighter}
use Rattle.cfa_frames.proofs.laws.moves_lower_the_weight.Goals as goal

pub returns-clause-moved : goal.returns-clause-moved
returns-clause-moved c = λ s. moved_lighter s c.instances_are_few.ensures

pub returns-clause-skipped : goal.returns-clause-skipped
returns-clause-skipped c = skipped_lighter

pub returns-clause-entered : goal.returns-clause-entered
returns-clause-entered c = entered_lighter

pub returns-clause-ended : goal.returns-clause-ended
returns-clause-ended c = λ s st h i status outcomes. ended_lighter s outcomes st h i status
