use Rattle.std.proofs.Common.{◌≡◌, ◌++◌}
use Rattle.std.specs.Rc.{rc_str_bytes}
use Rattle.cfa_history.specs.Tables.{by_id, rows_in}
use Rattle.cfa_history.proofs.rows.rows_in.Given as goal

abbrev pub invariant-loop-bundle : goal.invariant-loop-bundle
invariant-loop-bundle l = l.rows.items ++ rows_in (by_id rc_str_bytes l.bundle-iterator) ≡ rows_in (by_id rc_str_bytes l.fn.table.entries)
