use Rattle.std.proofs.Common.{◌≡◌, take}
use Rattle.std.specs.String.{string_bytes}
use Rattle.cfa_base.specs.Joined.{joined}
use Rattle.cfa_functions.proofs.making.join.Given as goal

abbrev pub invariant-loop-place : goal.invariant-loop-place
invariant-loop-place l = string_bytes l.whole ≡ joined l.glue (take l.place l.items)
