use Rattle.cfa_drill.proofs.SettleLemmas.{free_settle}
use Rattle.cfa_drill.proofs.laws.free_agents_settle.Goals as goal

pub returns : goal.returns
returns c =
    free_settle (record {
      traced = c.steps_are_interleaved.ensures;
      told = c.runs_are_told.ensures;
      determined = c.runs_are_determined.ensures;
      contained = c.unfailing_runs_are_contained.ensures;
      keyed = c.actuations_are_keyed.ensures;
      last = c.posts_last.ensures;
      reruns = c.reruns_are_kept.ensures;
    })
