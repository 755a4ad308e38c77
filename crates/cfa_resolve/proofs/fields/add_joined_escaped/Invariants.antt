use Rattle.std.proofs.Common.{◌≡◌, ◌++◌, map, take}
use Rattle.std.specs.List.{join_with_byte}
use Rattle.std.specs.String.{string_bytes}
use Rattle.cfa_base.specs.Escapes.{escaped}
use Rattle.cfa_resolve.proofs.fields.add_joined_escaped.Given as goal

abbrev pub invariant-loop-place : goal.invariant-loop-place
invariant-loop-place l = string_bytes l.whole ≡ string_bytes l.initial.whole ++ join_with_byte 44 (map escaped (take l.place l.names))
