use Rattle.std.proofs.Common.{◌≡◌, ◌++◌, drop}
use Rattle.cfa_journal.specs.Audits.{runs_of}
use Rattle.cfa_journal.proofs.audits.audit.Given as goal

abbrev pub invariant-loop-i : goal.invariant-loop-i
invariant-loop-i l = l.runs.items ++ runs_of (drop l.i l.records) ≡ runs_of l.records
