use Rattle.cfa_calls.proofs.LevelLemmas.{not_upward}
use Rattle.cfa_calls.proofs.cycles.closes_cycle.Goals as goal

pub returns-then-levels-edge : goal.returns-then-levels-edge
returns-then-levels-edge c =
    not_upward c.args.graph.now c.args.levels.now c.requires.levelled c.args.edge.from c.args.edge.to c.if-levels-edge.true
