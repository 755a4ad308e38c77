use Rattle.cfa_outside.specs.declared.sites.Call.TheVariants.{Service}
use Rattle.cfa_demo.proofs.CountLemmas.{seen}
use Rattle.cfa_demo.proofs.counting.CountingSiteSite.service.Goals as goal

pub returns-clause-shown : goal.returns-clause-shown
returns-clause-shown g c =
    seen c.args.self.now.entries c.args.self.now.changes (g.S.Site.shown c.args.self.now.site) (g.S.Site.shown c.service-answer.new.self) Service c.service-answer.result c.refusals.result c.refusals.ensures c.service-answer.ensures.shown
