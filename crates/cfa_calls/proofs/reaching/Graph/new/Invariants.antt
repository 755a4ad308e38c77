use Rattle.std.proofs.Common.{◌≡◌, [], replicate}
use Rattle.cfa_calls.specs.Reaching.{rows_of}
use Rattle.cfa_calls.proofs.reaching.Graph.new.Given as goal

abbrev pub invariant-loop-node : goal.invariant-loop-node
invariant-loop-node l = rows_of l.rows.items ≡ replicate l._node []
