use Rattle.std.proofs.Common.{◌≡◌, ◌++◌, drop}
use Rattle.std.specs.List.{flat_map}
use Rattle.std.specs.String.{string_bytes}
use Rattle.cfa_tree.specs.Plain.{plain_attribute}
use Rattle.cfa_printer.specs.Printing.{printed_body_attribute}
use Rattle.cfa_printer.proofs.attributes.push_body_attributes.Given as goal

abbrev pub invariant-loop-attribute : goal.invariant-loop-attribute
invariant-loop-attribute l =
    string_bytes l.out ++ flat_map (λ a. printed_body_attribute (plain_attribute a)) (drop l.attribute-index l.attributes)
    ≡ string_bytes l.fn.out ++ flat_map (λ a. printed_body_attribute (plain_attribute a)) l.attributes
