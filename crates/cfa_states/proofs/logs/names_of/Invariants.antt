use Rattle.std.proofs.Common.{◌≡◌, take}
use Rattle.cfa_states.specs.Names.{names_of}
use Rattle.cfa_states.proofs.logs.names_of.Given as goal

abbrev pub invariant-loop-instance : goal.invariant-loop-instance
invariant-loop-instance l = l.names ≡ names_of (take l.instance-index l.instances)
