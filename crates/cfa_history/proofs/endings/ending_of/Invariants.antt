use Rattle.std.proofs.Common.{◌≡◌, drop}
use Rattle.cfa_history.specs.Instances.{ending_of}
use Rattle.cfa_history.proofs.endings.ending_of.Given as goal

abbrev pub invariant-loop-i : goal.invariant-loop-i
invariant-loop-i l = ending_of (drop l.i l.records) ≡ ending_of l.records
