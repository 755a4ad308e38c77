use Rattle.std.proofs.Common.{◌≡◌, take}
use Rattle.cfa_resolve.proofs.copies.copy_data.Given as goal

abbrev pub invariant-loop-datum : goal.invariant-loop-datum
invariant-loop-datum l = l.items.items ≡ take l.datum-index l.given
