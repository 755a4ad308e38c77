use Rattle.std.proofs.Common.{◌≡◌, map, take}
use Rattle.cfa_calls.specs.Cycles.{seen_calls}
use Rattle.cfa_calls.specs.Numbering.{edge_in}
use Rattle.cfa_calls.proofs.cycles.edges.Given as goal

abbrev pub invariant-loop-call : goal.invariant-loop-call
invariant-loop-call l = l.edges.items ≡ map (edge_in l.names) (seen_calls (take l.call-index l.calls))
