use Rattle.std.proofs.Common.{◌≢◌}
use Rattle.std.specs.List.{AllWithin}
use Rattle.cfa_tests.proofs.clashes.line.Given as goal

abbrev pub invariant-loop-byte : goal.invariant-loop-byte
invariant-loop-byte g l = AllWithin (λ byte. byte ≢ 10) l.text 0 l.byte-index
