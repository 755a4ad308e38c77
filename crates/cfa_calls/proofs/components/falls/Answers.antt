use Rattle.cfa_calls.proofs.LevelLemmas.{row_within}
use Rattle.cfa_calls.proofs.components.falls.Goals as goal

pub is_below-requires : goal.is_below-requires
is_below-requires c =
    row_within c.args.graph.now c.row.result.now c.loop-node.node _ c.row.ensures.within c.row.ensures.row c.requires
