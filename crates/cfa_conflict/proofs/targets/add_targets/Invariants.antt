use Rattle.std.proofs.Common.{◌≡◌, ◌++◌, drop}
use Rattle.cfa_conflict.specs.Targets.{rows_of, seen_rows}
use Rattle.cfa_conflict.proofs.targets.add_targets.Given as goal

abbrev pub invariant-loop-act : goal.invariant-loop-act
invariant-loop-act l =
    seen_rows l.rows.items ++ rows_of l.place (drop l.act-index l.acts) ≡ seen_rows l.initial.rows.items ++ rows_of l.place l.acts
