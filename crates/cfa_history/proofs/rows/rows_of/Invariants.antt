use Rattle.std.proofs.Common.{◌≡◌, [], drop}
use Rattle.std.specs.Rc.{rc_str_bytes}
use Rattle.cfa_history.specs.Instances.{instances}
use Rattle.cfa_history.specs.Tables.{by_id, tallied, AllWithin}
use Rattle.cfa_history.proofs.rows.rows_of.Given as goal

abbrev pub invariant-loop-i : goal.invariant-loop-i
invariant-loop-i l =
    record {
      within : AllWithin l.i (by_id rc_str_bytes l.table.entries);
      so_far : tallied (by_id rc_str_bytes l.table.entries) (instances l.moment (drop l.i l.records)) ≡ tallied [] (instances 0 l.records);
    }
