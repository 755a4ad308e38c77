use Rattle.std.proofs.Common.{◌≡◌, take}
use Rattle.cfa_calls.specs.Cycles.{seen_calls}
use Rattle.cfa_calls.specs.Numbering.{names_of}
use Rattle.cfa_calls.proofs.cycles.names.Given as goal

abbrev pub invariant-loop-call : goal.invariant-loop-call
invariant-loop-call l = l.names ≡ names_of (seen_calls (take l.call-index l.calls))
