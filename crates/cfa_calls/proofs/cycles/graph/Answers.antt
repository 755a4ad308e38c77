use Rattle.std.proofs.Common.{ap, ◌∙◌, rules, length}
use Rattle.std.proofs.Math.ListN.{length-set}
use Rattle.cfa_calls.proofs.NumberLemmas.{graph_more}
use Rattle.cfa_calls.proofs.cycles.graph.Goals as goal

pub loop-edge-preserved : goal.loop-edge-preserved
loop-edge-preserved c =
    let size = ap length c.in_ok-connect.ensures ∙ length-set c.loop-edge.graph _ _ in (
      size ∙ c.loop-edge.invariant.0,
      graph_more c.args.edges.now c.loop-edge.edge-index (record { from = 0; to = 0 }) c.loop-edge.graph c.connect.new.self c.loop-edge-test.true c.loop-edge.invariant.1 (search rules) c.in_ok-connect.ensures,
    )
