use Rattle.std.proofs.Common.{sym, ap, ◌∙◌, ◌++◌}
use Rattle.std.specs.String.{string_bytes}
use Rattle.std.proofs.lemmas.List.Folds.{flat_map-map}
use Rattle.cfa_tree.specs.Plain.{plain_section}
use Rattle.cfa_printer.specs.Printing.{printed_section}
use Rattle.cfa_printer.proofs.Loops.{piece_end}
use Rattle.cfa_printer.proofs.blocks.push_sections.Goals as goal

pub returns : goal.returns
returns c =
    piece_end (λ s. printed_section (plain_section s)) _ _ _ _ c.loop-section-test.false c.loop-section.invariant
    ∙ ap (λ x. string_bytes c.args.out.now ++ x) (sym (flat_map-map printed_section plain_section c.args.sections.now))
