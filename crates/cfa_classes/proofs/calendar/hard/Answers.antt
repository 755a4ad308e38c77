use Rattle.std.proofs.Common.{◌≡◌, ◌∙◌, refl, sym}
use Rattle.cfa_classes.specs.Calendar.{civil_classes}
use Rattle.cfa_classes.proofs.DayLemmas.{hard_classes-civil}
use Rattle.cfa_classes.proofs.calendar.hard.Goals as goal

pushed : (c : goal.In_ok-push_time) → c.push_time.new.classes ≡ civil_classes c.in_utc-civil.result
unfolding civil_classes
pushed c =
    rw (c.in_ok-push_time.ensures, c.in_ok-push_date.ensures, c.in_ok-push.ensures.ok, c.new-classes.ensures, c.in_ok-from_text.ensures, c.date.ensures, c.time.ensures) refl

pub returns-clause-table : goal.returns-clause-table
returns-clause-table c = pushed c ∙ sym (hard_classes-civil _ _ c.in_utc-civil.ensures)

pub returns-clause-civil : goal.returns-clause-civil
returns-clause-civil c = λ civil is. pushed c ∙ sym (hard_classes-civil _ _ c.in_utc-civil.ensures) ∙ hard_classes-civil civil c.args.moment is
