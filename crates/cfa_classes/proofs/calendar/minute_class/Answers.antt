use Rattle.std.proofs.Common.{◌∷◌, ◌∙◌, ap, arith}
use Rattle.cfa_classes.specs.Calendar.{minute_class}
use Rattle.cfa_classes.proofs.CalendarLemmas.{styled_decimal-two_digits}
use Rattle.cfa_classes.proofs.calendar.minute_class.Goals as goal

pub returns : goal.returns
unfolding minute_class
returns c =
    c.in_ok-from_string.ensures ∙ c.in_ok-format.ensures.ok ∙ ap (λ d. 77 ∷ 105 ∷ 110 ∷ d) (styled_decimal-two_digits _ _ c.laid_out.ensures (omega arith))
