use Rattle.std.proofs.Common.{arith}
use Rattle.cfa_agent.specs.Locking.{lock_entries}
use Rattle.cfa_agent.proofs.FaultLemmas.{plain_counted}
use Rattle.cfa_agent.proofs.Stopping.{later_told}
use Rattle.cfa_agent.proofs.TellLemmas.{call_told}
use Rattle.cfa_agent.proofs.telling.tell_instance.Goals as goal

pub returns-in-Acts-clause-tells : goal.returns-in-Acts-clause-tells
returns-in-Acts-clause-tells g c = c.tell_acts.ensures.tells c.args.called

pub returns-in_ok-settle-in-Call-clause-tells : goal.returns-in_ok-settle-in-Call-clause-tells
returns-in_ok-settle-in-Call-clause-tells g c =
    let site = g.S.Site.shown in
    let lines = c.args.lines.now.items in
    let run = c.args.running.now in
    let instance = c.args.instance.now in
    record {
      told = call_told run c.settle.new.running (site c.args.site.now) (site c.settle.new.site) lines instance c.args.called c.in-Call.field-0 c.in-Call.field-1
          c.in-Call.is c.in_ok-settle-in-Call.ensures.locked c.in_ok-settle-in-Call.ensures.counted;
      later = later_told (site c.args.site.now) (site c.args.site.now) (site c.settle.new.site)
          (lock_entries run.moment run.locks instance) (omega arith) c.in_ok-settle-in-Call.ensures.locked;
      stopped = tt;
    }

pub returns-in-Report-clause-tells : goal.returns-in-Report-clause-tells
returns-in-Report-clause-tells g c = c.tell_report.ensures.tells c.args.called

pub returns-in_ok-settle-in-Call-clause-counted : goal.returns-in_ok-settle-in-Call-clause-counted
returns-in_ok-settle-in-Call-clause-counted g c =
    let run = c.args.running.now in
    plain_counted run c.settle.new.running (g.S.Site.shown c.args.site.now) (g.S.Site.shown c.settle.new.site)
    (lock_entries run.moment run.locks c.args.instance.now) c.args.called c.in_ok-settle-in-Call.ensures.locked c.in_ok-settle-in-Call.ensures.counted
