use Rattle.cfa_frames.proofs.DepthLemmas.{deeper, is_run, never_reached}
use Rattle.cfa_frames.proofs.laws.calls_never_lack_depth.Goals as goal

pub returns-clause-same : goal.returns-clause-same
returns-clause-same c = is_run

pub returns-clause-deeper : goal.returns-clause-deeper
returns-clause-deeper c = λ s t n valid. deeper s t valid c.chains_are_short.ensures.each c.chains_are_short.ensures.short c.served_bundles_stand.ensures.common n

pub returns-clause-never_past_the_last : goal.returns-clause-never_past_the_last
returns-clause-never_past_the_last c = λ s t others valid. never_reached s t valid c.chains_are_short.ensures.each c.chains_are_short.ensures.short c.served_bundles_stand.ensures.common others
