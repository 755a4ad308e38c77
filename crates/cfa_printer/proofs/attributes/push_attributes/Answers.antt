use Rattle.std.proofs.Common.{sym, ◌∙◌}
use Rattle.cfa_tree.specs.Plain.{plain_attribute}
use Rattle.cfa_printer.specs.Printing.{printed_attribute}
use Rattle.cfa_printer.proofs.Loops.{text_end}
use Rattle.cfa_printer.proofs.ValueTexts.{no_attribute_text, attributes_text}
use Rattle.cfa_printer.proofs.attributes.push_attributes.Goals as goal

pub returns-then-is_empty : goal.returns-then-is_empty
returns-then-is_empty c = no_attribute_text _ _ (sym c.is_empty.ensures ∙ c.if-is_empty.true)

pub returns : goal.returns
returns c =
    attributes_text _ _ _ _ (sym c.is_empty.ensures ∙ c.if-is_empty.false) c.in_ok-push_str.ensures.bytes
    (text_end (λ a. printed_attribute (plain_attribute a)) _ _ _ _ _ c.loop-i-test.false c.loop-i.invariant)
