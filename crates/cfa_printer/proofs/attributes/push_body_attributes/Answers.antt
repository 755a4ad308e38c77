use Rattle.std.proofs.Common.{sym, ap, ◌∙◌, ◌++◌}
use Rattle.std.specs.String.{string_bytes}
use Rattle.std.proofs.lemmas.List.Folds.{flat_map-map}
use Rattle.cfa_tree.specs.Plain.{plain_attribute}
use Rattle.cfa_printer.specs.Printing.{printed_body_attribute}
use Rattle.cfa_printer.proofs.Loops.{piece_end}
use Rattle.cfa_printer.proofs.attributes.push_body_attributes.Goals as goal

pub returns : goal.returns
returns c =
    piece_end (λ a. printed_body_attribute (plain_attribute a)) _ _ _ _ c.loop-attribute-test.false c.loop-attribute.invariant
    ∙ ap (λ x. string_bytes c.args.out.now ++ x) (sym (flat_map-map printed_body_attribute plain_attribute c.args.attributes.now))
