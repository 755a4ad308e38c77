use Rattle.std.proofs.Common.{sym, ap, ◌∙◌, ◌++◌}
use Rattle.std.specs.Prelude.{codes}
use Rattle.std.specs.String.{string_bytes}
use Rattle.cfa_base.specs.Joined.{joined}
use Rattle.cfa_tree.specs.Plain.{plain_named}
use Rattle.cfa_printer.specs.Printing.{printed_name}
use Rattle.cfa_printer.proofs.Loops.{text_end, map-map}
use Rattle.cfa_printer.proofs.blocks.push_names.Goals as goal

pub returns : goal.returns
returns c =
    text_end (λ n. printed_name (plain_named n)) _ _ _ _ _ c.loop-i-test.false c.loop-i.invariant
    ∙ ap (λ xs. string_bytes c.args.out.now ++ joined (codes ", ") xs) (sym (map-map printed_name plain_named c.args.names.now))
