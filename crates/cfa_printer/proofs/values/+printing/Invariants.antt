use Rattle.std.proofs.Common.{◌≡◌, ◌++◌, drop, map}
use Rattle.std.specs.Prelude.{codes}
use Rattle.std.specs.String.{string_bytes}
use Rattle.cfa_base.specs.Joined.{joined}
use Rattle.cfa_tree.specs.Plain.{plain_value}
use Rattle.cfa_printer.specs.Printing.{printed_value}
use Rattle.cfa_printer.proofs.Loops.{left}
use Rattle.cfa_printer.proofs.values.+printing.Given as goal

abbrev pub invariant-push_values-loop-i : goal.invariant-push_values-loop-i
invariant-push_values-loop-i l =
    string_bytes l.out ++ left l.i (codes ", ") (map (λ v. printed_value (plain_value v)) (drop l.i l.values))
    ≡ string_bytes l.initial.out ++ joined (codes ", ") (map (λ v. printed_value (plain_value v)) l.values)
