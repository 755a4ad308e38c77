use Rattle.std.proofs.Common.{◌≡◌, ◌++◌, drop}
use Rattle.std.specs.List.{flat_map}
use Rattle.std.specs.String.{string_bytes}
use Rattle.cfa_tree.specs.Plain.{plain_block}
use Rattle.cfa_printer.specs.Printing.{printed_block}
use Rattle.cfa_printer.proofs.blocks.print.Given as goal

abbrev pub invariant-loop-block : goal.invariant-loop-block
invariant-loop-block l =
    string_bytes l.out ++ flat_map (λ b. printed_block (plain_block b)) (drop l.block-index l.block-items)
    ≡ flat_map (λ b. printed_block (plain_block b)) l.block-items
