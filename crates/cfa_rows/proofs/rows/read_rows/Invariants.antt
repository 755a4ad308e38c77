use Rattle.std.proofs.Common.{length}
use Rattle.cfa_rows.proofs.ReadSoFar.{IsReadSoFar}
use Rattle.cfa_rows.proofs.rows.read_rows.Given as goal

abbrev pub invariant-lines : goal.invariant-lines
invariant-lines g l = IsReadSoFar g.F.Format.form g.F.Format.follows l.bytes l.rows.items l.rest l.number

abbrev pub decreases-lines : goal.decreases-lines
decreases-lines g l = length l.rest
