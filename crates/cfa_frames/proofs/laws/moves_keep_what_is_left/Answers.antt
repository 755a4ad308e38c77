use Rattle.cfa_frames.proofs.MoveLemmas.{begins, moved_meets}
use Rattle.cfa_frames.proofs.AnswerLemmas.{skipped_meets, entered_meets, ended_meets, over_is}
use Rattle.cfa_frames.proofs.laws.moves_keep_what_is_left.Goals as goal

pub returns-clause-begins : goal.returns-clause-begins
returns-clause-begins c = begins

pub returns-clause-moved : goal.returns-clause-moved
returns-clause-moved c = moved_meets

pub returns-clause-skipped : goal.returns-clause-skipped
returns-clause-skipped c = skipped_meets

pub returns-clause-entered : goal.returns-clause-entered
returns-clause-entered c = entered_meets

pub returns-clause-ended : goal.returns-clause-ended
returns-clause-ended c = ended_meets

pub returns-clause-over : goal.returns-clause-over
returns-clause-over c = over_is
