use Rattle.std.proofs.Common.{refl}
use Rattle.cfa_schema.specs.Seen.{tree_of}
use Rattle.cfa_walk.specs.Settings.{setting_of}
use Rattle.cfa_convergence.proofs.RunningLemmas.{run_settles}
use Rattle.cfa_convergence.proofs.running.run.Goals as goal

pub returns-clause-settles : goal.returns-clause-settles
returns-clause-settles g c =
    run_settles (tree_of c.args.checked.now) c.accepted_runs_settle.ensures (setting_of c.args.checked.now c.args.context.now) refl c.args.moment c.args.locks
    (g.S.Site.shown c.args.site.now) (g.S.Site.shown c.run.new.site) (g.O.Sink.shown c.args.out.now) (g.O.Sink.shown c.run.new.out)
    (g.met.S.Site.parents c.args.site.now) c.run.result c.run.ensures.ran
