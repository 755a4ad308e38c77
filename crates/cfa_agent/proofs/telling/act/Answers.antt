use Rattle.cfa_agent.proofs.FaultLemmas.{calm_by}
use Rattle.cfa_agent.proofs.telling.act.Goals as goal

pub returns-clause-calm : goal.returns-clause-calm
returns-clause-calm g c =
    let ended = c.in_ok-ended.ended in
    let done = c.in_ok-ended.ensures.done in
    calm_by ended.refused ended.failure (g.S.Site.shown c.args.site.now) (g.S.Site.shown c.actuate.new.site) done.cause done.caused
