use Rattle.cfa_plan.proofs.OverlayLooks.{empty_without_children}
use Rattle.cfa_plan.proofs.laws.directories_are_empty_without_children.Goals as goal

pub returns : goal.returns
returns c = λ nodes p parents. record {
  none = (empty_without_children nodes parents p).0;
  empty = (empty_without_children nodes parents p).1;
}
