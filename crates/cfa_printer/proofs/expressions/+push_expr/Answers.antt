use Rattle.cfa_tree.specs.Plain.{plain_expr}
use Rattle.cfa_printer.specs.declared.expressions.Around.TheVariants.{Or, And}
use Rattle.cfa_printer.specs.Printing.{printed_expr}
use Rattle.cfa_printer.proofs.ExprTexts.{all_of_text, one_of_text}
use Rattle.cfa_printer.proofs.Loops.{text_end}
use Rattle.cfa_printer.proofs.expressions.+push_expr.Goals as goal

pub returns-in_ok-push_str-in-And-2 : goal.returns-in_ok-push_str-in-And-2
returns-in_ok-push_str-in-And-2 t c =
    all_of_text _ _ _ _ _ _ _ _ _ _ c.in-And.is c.deref-part-items.ensures.value c.around_all_of.ensures c.in_ok-push_str-in-And.ensures.bytes
    (text_end (λ e. printed_expr And (plain_expr e)) _ _ _ _ _ c.loop-i-test.false c.loop-i.invariant) c.in_ok-push_str-in-And-2.ensures.bytes

pub returns-in_ok-push_str-in-Or-2 : goal.returns-in_ok-push_str-in-Or-2
returns-in_ok-push_str-in-Or-2 t c =
    one_of_text _ _ _ _ _ _ _ _ _ _ c.in-Or.is c.deref-part-items-in-Or.ensures.value c.around_one_of.ensures c.in_ok-push_str-in-Or.ensures.bytes
    (text_end (λ e. printed_expr Or (plain_expr e)) _ _ _ _ _ c.loop-i-2-test.false c.loop-i-2.invariant) c.in_ok-push_str-in-Or-2.ensures.bytes
