use Rattle.cfa_demo.proofs.CountLemmas.{changed}
use Rattle.cfa_demo.proofs.counting.CountingSiteSite.change.Goals as goal

pub returns : goal.returns
returns g c =
    record { shown = changed c.args.self.now.entries c.args.self.now.changes (g.S.Site.shown c.args.self.now.site) (g.S.Site.shown c.change-answer.new.self) c.args.change.now c.change-answer.result c.additions.result c.changes_made.result c.additions.ensures c.changes_made.ensures c.change-answer.ensures.shown }
