use Rattle.std.proofs.Common.{◌≡◌, take}
use Rattle.std.specs.String.{string_bytes}
use Rattle.cfa_functions.specs.Functions.{canonified}
use Rattle.cfa_functions.proofs.making.canonify.Given as goal

abbrev pub invariant-loop-byte : goal.invariant-loop-byte
invariant-loop-byte l = string_bytes l.whole ≡ canonified (take l.byte-index l.byte-items)
