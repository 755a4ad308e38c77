use Rattle.std.proofs.Common.{◌≡◌, length, take}
use Rattle.cfa_calls.specs.Numbering.{HasEdges}
use Rattle.cfa_calls.proofs.cycles.graph.Given as goal

abbrev pub invariant-loop-edge : goal.invariant-loop-edge
invariant-loop-edge l = (length l.graph ≡ l.nodes) × HasEdges (take l.edge-index l.edges) l.graph
