use Rattle.std.proofs.Common.{refl}
use Rattle.cfa_main.specs.Stages.{setting_in}
use Rattle.cfa_main.proofs.DemoLemmas as demos
use Rattle.cfa_main.proofs.demonstrating.run_counting.Goals as goal

pub returns-in-Ok : goal.returns-in-Ok
returns-in-Ok g c =
    let setting = setting_in c.args.order.policy.now in
    let counting = c.run-ran.new.site in
    record {
      ran = record {
        once = demos.once setting c.args.order.moment counting.entries counting.changes (g.S.Site.shown c.args.site) (g.S.Site.shown counting.site) c.counts_are_exact.ensures c.in-Ok.tally _ _ c.in-Ok.ensures.ran;
        settles = λ none live accepted. demos.settles setting c.args.order.moment counting.entries counting.changes (g.S.Site.shown c.args.site) (g.S.Site.shown counting.site) (c.in-Ok.ensures.settles refl none live accepted);
      };
      stopped = tt;
    }
