use Rattle.std.proofs.Common.{◌+◌, ◌*◌, ◌/◌, ◌%◌, ◌∙◌, arith, refl}
use Rattle.cfa_classes.specs.Calendar.{five_minutes_class}
use Rattle.cfa_classes.proofs.CalendarLemmas.{styled_decimal-two_digits}
use Rattle.cfa_classes.proofs.calendar.five_minutes_class.Goals as goal

pub returns : goal.returns
unfolding five_minutes_class
returns c =
    let first = styled_decimal-two_digits _ (c.args.minute / 5 * 5) c.laid_out.ensures (omega arith) in
    let next = styled_decimal-two_digits _ ((c.args.minute / 5 * 5 + 5) % 60) c.laid_out-2.ensures (omega arith) in
    c.in_ok-from_string.ensures ∙ c.in_ok-format.ensures.ok ∙ rw (first, next) refl
