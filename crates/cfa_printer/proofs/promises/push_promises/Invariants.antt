use Rattle.std.proofs.Common.{◌≡◌, ◌++◌, drop, map, None}
use Rattle.std.specs.Prelude.{option_map}
use Rattle.std.specs.String.{string_bytes}
use Rattle.cfa_tree.specs.Plain.{plain_expr, plain_promise}
use Rattle.cfa_tree.specs.Repeats.{guard_before}
use Rattle.cfa_printer.specs.Printing.{printed_promises}
use Rattle.cfa_printer.proofs.promises.push_promises.Given as goal

abbrev pub invariant-loop-i : goal.invariant-loop-i
invariant-loop-i l =
    string_bytes l.out ++ printed_promises (option_map plain_expr (guard_before l.promises l.i)) (map plain_promise (drop l.i l.promises))
    ≡ string_bytes l.fn.out ++ printed_promises None (map plain_promise l.promises)
