use Rattle.std.proofs.Common.{length}
use Rattle.cfa_journal.proofs.ReadSoFar.{IsReadSoFar}
use Rattle.cfa_journal.proofs.journals.read_lines.Given as goal

abbrev pub invariant-lines : goal.invariant-lines
invariant-lines l = IsReadSoFar l.bytes l.records.items l.position l.rest l.number

abbrev pub decreases-lines : goal.decreases-lines
decreases-lines l = length l.rest
