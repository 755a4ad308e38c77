use Rattle.std.proofs.Common.{◌≡◌, ℕ, ◌<◌, [], length, take, slice_index_or}
use Rattle.cfa_calls.specs.Reaching.{Search}
use Rattle.cfa_calls.proofs.reaching.Graph.follow.Given as goal

abbrev pub invariant-loop-next : goal.invariant-loop-next
invariant-loop-next l =
    (l.at < length l.order.items) × (slice_index_or l.order.items l.at 0 ≡ l.node) × (length l.seen ≡ length l.self)
    × ((first : ℕ) → Search l.self first l.initial.seen l.initial.order.items l.at []
    → Search l.self first l.seen l.order.items l.at (take l.next-index l.next-items))
