use Rattle.std.proofs.Common.{◌≡◌, drop}
use Rattle.cfa_journal.specs.Audits.{past_files}
use Rattle.cfa_journal.proofs.audits.past_files.Given as goal

abbrev pub invariant-loop-i : goal.invariant-loop-i
invariant-loop-i l = past_files (drop l.i l.records) ≡ past_files l.records
