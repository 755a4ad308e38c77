use Rattle.cfa_frames.proofs.HearLemmas.{moved_quietly, skipped_quietly, entered_quietly, ended_quietly}
use Rattle.cfa_frames.proofs.laws.moves_are_quiet.Goals as goal

pub returns-clause-moved : goal.returns-clause-moved
returns-clause-moved c = moved_quietly

pub returns-clause-skipped : goal.returns-clause-skipped
returns-clause-skipped c = skipped_quietly

pub returns-clause-entered : goal.returns-clause-entered
returns-clause-entered c = entered_quietly

pub returns-clause-ended : goal.returns-clause-ended
returns-clause-ended c = ended_quietly
