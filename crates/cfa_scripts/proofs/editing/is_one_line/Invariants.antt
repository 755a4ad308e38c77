use Rattle.std.proofs.Common.{◌≡◌, ◌==◌, drop}
use Rattle.std.specs.List.{list_any}
use Rattle.cfa_scripts.proofs.editing.is_one_line.Given as goal

abbrev pub invariant-loop-byte : goal.invariant-loop-byte
invariant-loop-byte l = list_any (λ byte. byte == 10) (drop l.byte-index l.byte-items) ≡ list_any (λ byte. byte == 10) l.byte-items
