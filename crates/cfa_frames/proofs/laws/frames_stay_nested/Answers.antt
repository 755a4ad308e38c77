use Rattle.cfa_frames.proofs.StandingLemmas.{moved_nested, skipped_nested, entered_nested, ended_nested, nested_shorter}
use Rattle.cfa_frames.proofs.laws.frames_stay_nested.Goals as goal

pub returns-clause-moved : goal.returns-clause-moved
returns-clause-moved c = λ s. moved_nested s c.instances_are_named.ensures

pub returns-clause-skipped : goal.returns-clause-skipped
returns-clause-skipped c = skipped_nested

pub returns-clause-entered : goal.returns-clause-entered
returns-clause-entered c = entered_nested

pub returns-clause-ended : goal.returns-clause-ended
returns-clause-ended c = λ st h outcomes. ended_nested outcomes st h

pub returns-clause-longer : goal.returns-clause-longer
returns-clause-longer c = nested_shorter
