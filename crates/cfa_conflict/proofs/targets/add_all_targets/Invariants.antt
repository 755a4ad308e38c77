use Rattle.std.proofs.Common.{◌≡◌, ◌++◌, drop}
use Rattle.cfa_conflict.specs.Targets.{rows_from, seen_rows}
use Rattle.cfa_conflict.proofs.targets.add_all_targets.Given as goal

abbrev pub invariant-loop-place : goal.invariant-loop-place
invariant-loop-place l =
    seen_rows l.rows.items ++ rows_from (drop l.place l.instances) l.place ≡ seen_rows l.initial.rows.items ++ rows_from l.instances 0
