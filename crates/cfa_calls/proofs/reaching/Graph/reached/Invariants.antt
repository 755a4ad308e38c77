use Rattle.std.proofs.Common.{◌-◌, [], length}
use Rattle.cfa_calls.specs.Reaching.{Search}
use Rattle.cfa_calls.proofs.reaching.Graph.reached.Given as goal

abbrev pub invariant-loop-at : goal.invariant-loop-at
invariant-loop-at l = Search l.self l.from l.seen.items l.order.items l.at []

abbrev pub decreases-loop-at : goal.decreases-loop-at
decreases-loop-at l = length l.self - l.at
