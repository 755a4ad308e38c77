use Rattle.std.proofs.Common.{sym, ap, ◌∙◌}
use Rattle.std.specs.List.{flat_map}
use Rattle.std.proofs.lemmas.List.Folds.{flat_map-map}
use Rattle.cfa_tree.specs.Plain.{plain_block}
use Rattle.cfa_printer.specs.Printing.{printed_block}
use Rattle.cfa_printer.proofs.Loops.{piece_end}
use Rattle.cfa_printer.proofs.blocks.print.Goals as goal

pub returns : goal.returns
returns c =
    c.in_ok-from_string.ensures
    ∙ (piece_end (λ b. printed_block (plain_block b)) _ _ _ _ c.loop-block-test.false c.loop-block.invariant
    ∙ (ap (flat_map (λ b. printed_block (plain_block b))) c.as_slice-block-items.ensures ∙ sym (flat_map-map printed_block plain_block c.args.policy.now.blocks)))
