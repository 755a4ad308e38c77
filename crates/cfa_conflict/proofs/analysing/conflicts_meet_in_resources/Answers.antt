use Rattle.cfa_conflict.proofs.MeetingLemmas.{conflicts_meet}
use Rattle.cfa_conflict.proofs.analysing.conflicts_meet_in_resources.Goals as goal

pub returns : goal.returns
returns c = conflicts_meet
