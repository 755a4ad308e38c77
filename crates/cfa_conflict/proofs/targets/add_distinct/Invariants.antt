use Rattle.std.proofs.Common.{take}
use Rattle.cfa_conflict.specs.Targets.{seen_rows, HaveLikes}
use Rattle.cfa_conflict.proofs.targets.add_distinct.Given as goal

abbrev pub invariant-loop-target : goal.invariant-loop-target
invariant-loop-target l = HaveLikes l.instances (seen_rows (take l.target-index l.rows)) (seen_rows l.likes.items)
