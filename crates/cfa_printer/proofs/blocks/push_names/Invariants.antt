use Rattle.std.proofs.Common.{◌≡◌, ◌++◌, drop, map}
use Rattle.std.specs.Prelude.{codes}
use Rattle.std.specs.String.{string_bytes}
use Rattle.cfa_base.specs.Joined.{joined}
use Rattle.cfa_tree.specs.Plain.{plain_named}
use Rattle.cfa_printer.specs.Printing.{printed_name}
use Rattle.cfa_printer.proofs.Loops.{left}
use Rattle.cfa_printer.proofs.blocks.push_names.Given as goal

abbrev pub invariant-loop-i : goal.invariant-loop-i
invariant-loop-i l =
    string_bytes l.out ++ left l.i (codes ", ") (map (λ n. printed_name (plain_named n)) (drop l.i l.names))
    ≡ string_bytes l.fn.out ++ joined (codes ", ") (map (λ n. printed_name (plain_named n)) l.names)
