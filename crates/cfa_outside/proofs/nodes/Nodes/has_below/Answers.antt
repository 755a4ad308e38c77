use Rattle.std.proofs.Common.{ap, ◌∙◌}
use Rattle.cfa_base.specs.TextMaps.{has_front}
use Rattle.cfa_outside.specs.Worlds.{NodeMap, has_below, is_below, below_front}
use Rattle.cfa_outside.proofs.nodes.Nodes.has_below.Goals as goal

pub returns : goal.returns
unfolding has_below is_below
returns c =
    c.has_front-2.ensures
    ∙ ap (has_front c.self.inside.rows) c.in_ok-front_of.ensures
    ∙ ap (λ (m : NodeMap). has_front m (below_front c.args.path.now)) c.self.view_is
