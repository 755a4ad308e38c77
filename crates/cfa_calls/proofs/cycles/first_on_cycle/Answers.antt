use Rattle.std.proofs.Common.{◌∙◌}
use Rattle.cfa_calls.specs.Cycles.{seen_calls}
use Rattle.cfa_calls.specs.Numbering.{HasEdges}
use Rattle.cfa_calls.proofs.NumberLemmas.{edges_from, edges_to, traces}
use Rattle.cfa_calls.proofs.cycles.first_on_cycle.Goals as goal

pub graph-requires-clause-from : goal.graph-requires-clause-from
graph-requires-clause-from c =
    edges_from (seen_calls c.args.calls.now) c.in_ok-names.names c.len.result c.deref.result.now c.in_ok-names.ensures c.len.ensures (c.deref.ensures.value ∙ c.in_ok-edges.ensures)

pub graph-requires-clause-to : goal.graph-requires-clause-to
graph-requires-clause-to c =
    edges_to (seen_calls c.args.calls.now) c.in_ok-names.names c.len.result c.deref.result.now c.in_ok-names.ensures c.len.ensures (c.deref.ensures.value ∙ c.in_ok-edges.ensures)

pub first_closing-requires-clause-traced : goal.first_closing-requires-clause-traced
first_closing-requires-clause-traced c =
    let has : HasEdges c.deref-2.result.now c.in_ok-graph.graph = rw (c.deref-2.ensures.value, ← c.deref.ensures.value) c.in_ok-graph.ensures.edges in
    traces c.args.calls.now c.in_ok-names.names c.deref-2.result.now c.in_ok-graph.graph c.in_ok-names.ensures (c.deref-2.ensures.value ∙ c.in_ok-edges.ensures) has (c.in_ok-graph.ensures.sized ∙ c.len.ensures)
