use Rattle.cfa_outside.specs.declared.sites.Call.TheVariants.{Perms}
use Rattle.cfa_demo.proofs.CountLemmas.{seen}
use Rattle.cfa_demo.proofs.counting.CountingSiteSite.perms.Goals as goal

pub returns-clause-shown : goal.returns-clause-shown
returns-clause-shown g c =
    seen c.args.self.now.entries c.args.self.now.changes (g.S.Site.shown c.args.self.now.site) (g.S.Site.shown c.perms-answer.new.self) Perms c.perms-answer.result c.refusals.result c.refusals.ensures c.perms-answer.ensures.shown
