use Rattle.std.proofs.Common.{length}
use Rattle.cfa_calls.proofs.components.Walk.close_down_to.Given as goal

abbrev pub decreases-loop-node : goal.decreases-loop-node
decreases-loop-node l = length l.self.open.items
