use Rattle.std.proofs.Common.{◌≡◌, sym, subst}
use Rattle.cfa_acts.specs.declared.acts.Act.{Act}
use Rattle.cfa_acts.specs.declared.acts.Decision.TheVariants.{Fail}
use Rattle.cfa_acts.specs.Acts.{decision}
use Rattle.cfa_acts.specs.Seeing.{IsSeen}
use Rattle.cfa_acts.proofs.Seen.{now, of_all}
use Rattle.cfa_acts.proofs.Decisions.{bust_decided}
use Rattle.cfa_acts.proofs.deciding.find.Goals as goal

pub returns-in-Bust-clause-seen : goal.returns-in-Bust-clause-seen
returns-in-Bust-clause-seen g c =
    subst (λ (a : Act). IsSeen (λ w. Fail c.in-Bust.reason ≡ decision a w) (g.S.Site.shown c.args.site.now) (g.S.Site.shown c.args.site.now)) (sym c.in-Bust.is)
    (now _ (g.S.Site.shown c.args.site.now) (of_all _ (g.S.Site.shown c.args.site.now) (λ w. bust_decided c.in-Bust.reason w)))
