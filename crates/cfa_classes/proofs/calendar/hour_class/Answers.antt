use Rattle.std.proofs.Common.{◌∷◌, ◌∙◌, ap, arith}
use Rattle.cfa_classes.specs.Calendar.{hour_class}
use Rattle.cfa_classes.proofs.CalendarLemmas.{styled_decimal-two_digits}
use Rattle.cfa_classes.proofs.calendar.hour_class.Goals as goal

pub returns : goal.returns
unfolding hour_class
returns c =
    c.in_ok-from_string.ensures ∙ c.in_ok-format.ensures.ok ∙ ap (λ d. 72 ∷ 114 ∷ d) (styled_decimal-two_digits _ _ c.laid_out.ensures (omega arith))
