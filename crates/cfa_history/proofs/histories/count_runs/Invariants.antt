use Rattle.std.proofs.Common.{◌≡◌, ◌+◌, ◌≤◌, count_by, drop}
use Rattle.cfa_history.specs.Histories.{is_run}
use Rattle.cfa_history.proofs.histories.count_runs.Given as goal

abbrev pub invariant-loop-i : goal.invariant-loop-i
invariant-loop-i l =
    record {
      small : l.runs ≤ l.i;
      so_far : l.runs + count_by is_run (drop l.i l.records) ≡ count_by is_run l.records;
    }
