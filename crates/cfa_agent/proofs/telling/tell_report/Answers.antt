use Rattle.std.proofs.Common.{arith}
use Rattle.cfa_agent.specs.Locking.{lock_entries}
use Rattle.cfa_outcomes.specs.declared.outcomes.Outcome.TheVariants.{Kept}
use Rattle.cfa_agent.proofs.FaultLemmas.{plain_counted}
use Rattle.cfa_agent.proofs.Stopping.{later_told}
use Rattle.cfa_agent.proofs.TellLemmas.{report_told}
use Rattle.cfa_agent.proofs.telling.tell_report.Goals as goal

pub returns-clause-tells : goal.returns-clause-tells
returns-clause-tells g c called =
    let site = g.S.Site.shown in
    let run = c.args.running.now in
    let instance = c.args.instance.now in
    record {
      told = report_told run c.settle.new.running (site c.args.site.now) (site c.settle.new.site) c.args.lines.now.items c.tell_text.new.lines.items instance called c.args.text.now
          c.requires c.in_ok-settle.ensures.locked c.in_ok-settle.ensures.counted c.in_ok-tell_text.ensures.told;
      later = later_told (site c.args.site.now) (site c.args.site.now) (site c.settle.new.site)
          (lock_entries run.moment run.locks instance) (omega arith) c.in_ok-settle.ensures.locked;
      stopped = tt;
    }

pub returns-clause-counted : goal.returns-clause-counted
returns-clause-counted g c =
    let run = c.args.running.now in
    plain_counted run c.settle.new.running (g.S.Site.shown c.args.site.now) (g.S.Site.shown c.settle.new.site)
    (lock_entries run.moment run.locks c.args.instance.now) Kept c.in_ok-settle.ensures.locked c.in_ok-settle.ensures.counted
