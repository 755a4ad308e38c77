use Rattle.std.proofs.Common.{cond, ap, ◌∙◌}
use Rattle.std.specs.FinMap as map
use Rattle.cfa_outside.specs.declared.sites.Look.{Look}
use Rattle.cfa_acts.specs.declared.acts.Decision.TheVariants.{Kept}
use Rattle.cfa_acts.specs.Acts.{puts_file, has_bytes}
use Rattle.cfa_acts.proofs.Seen.{of_all, seen_then}
use Rattle.cfa_acts.proofs.Decisions.{content_decided}
use Rattle.cfa_acts.proofs.files.decide_content.Goals as goal

pub returns-clause-seen : goal.returns-clause-seen
returns-clause-seen g c =
    seen_then _ _ _ _ _ _ c.put_missing.result (λ d w e put.
    put
    ∙ ap (λ (look : Look). cond (has_bytes c.args.bytes.now (map.get w.nodes c.args.path.now)) Kept (puts_file c.args.path.now c.args.bytes.now look)) e
    ∙ content_decided c.args.path.now c.args.bytes.now w)
    c.in_ok-look.ensures c.put_missing.ensures.seen

pub put_missing-requires-clause-short : goal.put_missing-requires-clause-short
put_missing-requires-clause-short g c = of_all _ (g.S.Site.shown c.see_look.new.site) (λ w. c.requires)
