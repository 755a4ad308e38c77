use Rattle.std.proofs.Common.{◌≡◌, ◌≤◌, drop}
use Rattle.cfa_journal.specs.Audits.{up_to_run, audited}
use Rattle.cfa_journal.proofs.AuditLemmas.{with_rest}
use Rattle.cfa_journal.proofs.audits.audited_run.Given as goal

abbrev pub invariant-loop-i : goal.invariant-loop-i
invariant-loop-i l =
    record {
      repaired : l.run.repaired ≤ l.i;
      failed : l.run.failed ≤ l.i;
      opened : l.run.opened ≤ l.i;
      so_far : with_rest l.run (drop l.i l.behind) ≡ audited l.moment (up_to_run l.behind);
    }
