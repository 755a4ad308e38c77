use Rattle.std.proofs.Common.{◌≡◌, ◌++◌, drop, map}
use Rattle.std.specs.Prelude.{codes}
use Rattle.std.specs.String.{string_bytes}
use Rattle.cfa_base.specs.Joined.{joined}
use Rattle.cfa_tree.specs.Plain.{plain_attribute}
use Rattle.cfa_printer.specs.Printing.{printed_attribute}
use Rattle.cfa_printer.proofs.Loops.{left}
use Rattle.cfa_printer.proofs.attributes.push_attributes.Given as goal

abbrev pub invariant-loop-i : goal.invariant-loop-i
invariant-loop-i l =
    string_bytes l.out ++ left l.i (codes ", ") (map (λ a. printed_attribute (plain_attribute a)) (drop l.i l.attributes))
    ≡ string_bytes l.initial.out ++ joined (codes ", ") (map (λ a. printed_attribute (plain_attribute a)) l.attributes)
