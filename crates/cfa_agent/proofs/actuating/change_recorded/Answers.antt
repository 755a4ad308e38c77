use Rattle.cfa_agent.proofs.Opened.{fits_begun}
use Rattle.cfa_agent.proofs.actuating.change_recorded.Goals as goal

pub change_site-requires : goal.change_site-requires
change_site-requires g c =
    fits_begun c.args.changes c.args.heading c.args.instance.now c.args.file c.args.change.now (g.S.Site.shown c.args.site.now) (g.S.Site.shown c.begin.new.site) c.requires.fits c.in_ok-begin.ensures.written
