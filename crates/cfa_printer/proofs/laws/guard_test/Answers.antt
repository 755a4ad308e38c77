use Rattle.cfa_printer.proofs.SameExprs.{same_guard_is, same_guard_for}
use Rattle.cfa_printer.proofs.laws.guard_test.Goals as goal

pub returns : goal.returns
returns c = λ a b. (same_guard_is a b, same_guard_for a b)
