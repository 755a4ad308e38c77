use Rattle.std.proofs.Common.{take}
use Rattle.cfa_calls.specs.Cycles.{OnCycle, seen_calls}
use Rattle.cfa_calls.specs.Numbering.{FirstSoFar}
use Rattle.cfa_calls.proofs.cycles.first_closing.Given as goal

abbrev pub invariant-loop-i : goal.invariant-loop-i
invariant-loop-i l = FirstSoFar (OnCycle (seen_calls l.calls)) (seen_calls (take l.i l.calls)) l.first
