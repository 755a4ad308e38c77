use Rattle.cfa_convergence.proofs.SettleLemmas.{free_settle}
use Rattle.cfa_convergence.proofs.settling.free_runs_settle.Goals as goal

pub returns : goal.returns
returns c = free_settle c.live_posts_hold.ensures c.reruns_are_kept.ensures
