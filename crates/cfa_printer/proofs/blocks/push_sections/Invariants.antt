use Rattle.std.proofs.Common.{◌≡◌, ◌++◌, drop}
use Rattle.std.specs.List.{flat_map}
use Rattle.std.specs.String.{string_bytes}
use Rattle.cfa_tree.specs.Plain.{plain_section}
use Rattle.cfa_printer.specs.Printing.{printed_section}
use Rattle.cfa_printer.proofs.blocks.push_sections.Given as goal

abbrev pub invariant-loop-section : goal.invariant-loop-section
invariant-loop-section l =
    string_bytes l.out ++ flat_map (λ s. printed_section (plain_section s)) (drop l.section-index l.sections)
    ≡ string_bytes l.fn.out ++ flat_map (λ s. printed_section (plain_section s)) l.sections
