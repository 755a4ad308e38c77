use Rattle.cfa_convergence.proofs.SettleLemmas.{live_posts}
use Rattle.cfa_convergence.proofs.lasting.live_posts_hold.Goals as goal

pub returns : goal.returns
returns c =
    live_posts c.runs_are_told.ensures c.runs_are_determined.ensures c.unfailing_runs_are_contained.ensures c.posts_last.ensures
    c.instances_are_keyed.ensures
