use Rattle.std.proofs.Common.{◌≡◌, map, take}
use Rattle.cfa_states.specs.Names.{names_of}
use Rattle.cfa_states.specs.Logs.{first_place}
use Rattle.cfa_states.proofs.logs.locate.Given as goal

abbrev pub invariant-loop-place : goal.invariant-loop-place
invariant-loop-place l =
    (l.names ≡ names_of (take l.place l.instances)) × (l.firsts.items ≡ map (first_place l.instances) (take l.place l.instances))
