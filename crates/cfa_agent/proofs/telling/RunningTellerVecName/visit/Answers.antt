use Rattle.cfa_agent.proofs.FaultLemmas.{visit_counted}
use Rattle.cfa_agent.proofs.TellLemmas.{visit_result}
use Rattle.cfa_agent.proofs.telling.RunningTellerVecName.visit.Goals as goal

pub returns-clause-visited : goal.returns-clause-visited
returns-clause-visited g c =
    visit_result c.args.self.now c.hear.new.running (g.S.Site.shown c.args.site.now) (g.S.Site.shown c.hear.new.site) c.args._lines.now.items c.args.instance.now c.args._status
    c.hear.result c.hear.ensures

pub returns-clause-counted : goal.returns-clause-counted
returns-clause-counted g c =
    visit_counted c.args.self.now c.hear.new.running (g.S.Site.shown c.args.site.now) (g.S.Site.shown c.hear.new.site) c.args.instance.now
    c.hear.result c.hear.ensures
