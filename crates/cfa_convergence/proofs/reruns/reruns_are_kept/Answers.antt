use Rattle.cfa_convergence.proofs.RerunLemmas.{reruns_kept}
use Rattle.cfa_convergence.proofs.reruns.reruns_are_kept.Goals as goal

pub returns : goal.returns
returns c = reruns_kept c.kept_where_post_holds.ensures c.runs_are_told.ensures c.runs_are_determined.ensures c.instances_are_keyed.ensures
