use Rattle.cfa_frames.proofs.GrowLemmas.{moved_grows, skipped_grows, entered_grows, ended_grows, rest_grows}
use Rattle.cfa_frames.proofs.AlikeLemmas.{rest_alike}
use Rattle.cfa_frames.proofs.laws.histories_only_grow.Goals as goal

pub returns-clause-moved : goal.returns-clause-moved
returns-clause-moved c = moved_grows

pub returns-clause-skipped : goal.returns-clause-skipped
returns-clause-skipped c = skipped_grows

pub returns-clause-entered : goal.returns-clause-entered
returns-clause-entered c = entered_grows

pub returns-clause-ended : goal.returns-clause-ended
returns-clause-ended c = λ st h outcomes. ended_grows outcomes st h

pub returns-clause-left : goal.returns-clause-left
returns-clause-left c = λ s t. rest_grows s t c.instances_are_few.ensures

pub returns-clause-alike : goal.returns-clause-alike
returns-clause-alike c = λ s t u. rest_alike s t u c.instances_are_few.ensures
