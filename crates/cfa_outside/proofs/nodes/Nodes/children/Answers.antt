use Rattle.std.proofs.Common.{ap, ◌∙◌}
use Rattle.cfa_base.specs.TextMaps.{count_leaves}
use Rattle.cfa_outside.specs.Worlds.{NodeMap, children_of, below_front}
use Rattle.cfa_outside.proofs.nodes.Nodes.children.Goals as goal

pub returns : goal.returns
unfolding children_of
returns c =
    c.count_leaves-2.ensures
    ∙ ap (count_leaves c.self.inside.rows) c.in_ok-front_of.ensures
    ∙ ap (λ (m : NodeMap). count_leaves m (below_front c.args.path.now)) c.self.view_is
