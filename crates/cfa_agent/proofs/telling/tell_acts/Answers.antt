use Rattle.cfa_agent.specs.Ending.{lines_ended}
use Rattle.cfa_agent.specs.Locking.{lock_entries}
use Rattle.cfa_agent.proofs.ActsTold.{acts_told}
use Rattle.cfa_agent.proofs.FaultLemmas.{acts_counted}
use Rattle.cfa_agent.proofs.Stopping.{later_told}
use Rattle.cfa_agent.proofs.telling.tell_acts.Goals as goal

pub returns-clause-tells : goal.returns-clause-tells
returns-clause-tells g c called =
    let site = g.S.Site.shown in
    let acted = c.act.new.running in
    let instance = c.args.instance.now in
    record {
      told = acts_told c.args.running.now acted c.settle.new.running (site c.args.site.now) (site c.act.new.site) (site c.settle.new.site) c.args.lines.now.items c.tell_ended.new.lines.items instance called c.outcome_of-outcome.result c.args.acts.now c.in_ok-ended.ended
          c.requires.asked c.in_ok-ended.ensures.next.done c.in_ok-ended.ensures.next.counted c.in_ok-ended.ensures.next.few c.in_ok-ended.ensures.next.changes_fit c.have_names.ensures c.requires.source c.outcome_of-outcome.ensures c.in_ok-settle.ensures.locked c.in_ok-settle.ensures.counted c.in_ok-tell_ended.ensures.told;
      later = later_told (site c.args.site.now) (site c.act.new.site) (site c.settle.new.site)
          (lock_entries acted.moment acted.locks instance) c.in_ok-ended.ensures.next.later c.in_ok-settle.ensures.locked;
      stopped = tt;
    }

pub returns-clause-counted : goal.returns-clause-counted
returns-clause-counted g c =
    let site = g.S.Site.shown in
    let acted = c.act.new.running in
    acts_counted c.args.running.now acted c.settle.new.running (site c.args.site.now) (site c.act.new.site) (site c.settle.new.site)
    (lock_entries acted.moment acted.locks c.args.instance.now) c.in_ok-ended.ended c.outcome_of-outcome.result
    c.in_ok-ended.ensures.next.counted c.in_ok-ended.ensures.calm c.in_ok-ended.ensures.next.later c.outcome_of-outcome.ensures
    c.in_ok-settle.ensures.locked c.in_ok-settle.ensures.counted
