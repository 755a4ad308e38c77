use Rattle.std.proofs.Common.{◌≡◌, ◌++◌, flat_map, string_bytes, take}
use Rattle.cfa_main.specs.Histories.{gap_line}
use Rattle.cfa_main.proofs.histories.append_gaps.Given as goal

abbrev pub invariant-loop-gap : goal.invariant-loop-gap
invariant-loop-gap l = string_bytes l.text ≡ string_bytes l.fn.text ++ flat_map gap_line (take l.gap-index l.gaps)
