use Rattle.std.proofs.Common.{◌≡◌, take}
use Rattle.cfa_rows.specs.Rows.{written}
use Rattle.cfa_rows.proofs.rows.write_rows.Given as goal

abbrev pub invariant-loop-row : goal.invariant-loop-row
invariant-loop-row g l = l.bytes ≡ written g.F.Format.form (take l.row-index l.rows)
