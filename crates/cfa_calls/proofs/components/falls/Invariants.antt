use Rattle.std.proofs.Common.{ℕ, ◌<◌, ◌≤◌, slice_index_or}
use Rattle.std.specs.List.{Contains}
use Rattle.cfa_calls.specs.Reaching.{row_of}
use Rattle.cfa_calls.proofs.components.falls.Given as goal

abbrev pub invariant-loop-node : goal.invariant-loop-node
invariant-loop-node l =
    (node next : ℕ) → node < l.node → Contains (row_of l.graph node) next → slice_index_or l.levels next 0 ≤ slice_index_or l.levels node 0
