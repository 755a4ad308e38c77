use Rattle.cfa_outside.specs.declared.sites.Call.TheVariants.{Children}
use Rattle.cfa_demo.proofs.CountLemmas.{seen}
use Rattle.cfa_demo.proofs.counting.CountingSiteSite.children.Goals as goal

pub returns-clause-shown : goal.returns-clause-shown
returns-clause-shown g c =
    seen c.args.self.now.entries c.args.self.now.changes (g.S.Site.shown c.args.self.now.site) (g.S.Site.shown c.children-answer.new.self) Children c.children-answer.result c.refusals.result c.refusals.ensures c.children-answer.ensures.shown
