use Rattle.cfa_agent.specs.declared.recording.Heading.{Heading}
use Rattle.cfa_agent.specs.Actuating.{closing}
use Rattle.cfa_agent.proofs.Closing.{closes_all, faults_closed}
use Rattle.cfa_agent.proofs.actuating.actuate.Goals as goal

pub returns-clause-done : goal.returns-clause-done
returns-clause-done g c =
    let heading : Heading = record { moment = c.args.moment; number = c.args.number; has_record = c.args.has_record } in
    record {
      done = closes_all heading c.args.instance.now c.args.acts.now c.in_ok-ended.ended (g.S.Site.shown c.args.site.now) (g.S.Site.shown c.run_acts.new.site) (g.S.Site.shown c.close.new.site) c.in_ok-ended.ensures.done c.in_ok-close.ensures.written;
      cause = faults_closed c.in_ok-ended.ended.refused (closing heading c.args.instance.now c.in_ok-ended.ended) (g.S.Site.shown c.args.site.now) (g.S.Site.shown c.run_acts.new.site) (g.S.Site.shown c.close.new.site) c.in_ok-ended.ensures.cause c.in_ok-close.ensures.written;
      caused = c.in_ok-ended.ensures.caused;
      stopped = tt;
    }
