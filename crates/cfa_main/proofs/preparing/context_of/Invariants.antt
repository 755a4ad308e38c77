use Rattle.std.proofs.Common.{◌≡◌, ◌++◌, take}
use Rattle.cfa_classes.specs.Calendar.{hard_classes}
use Rattle.cfa_main.proofs.preparing.context_of.Given as goal

abbrev pub invariant-loop-class : goal.invariant-loop-class
invariant-loop-class l = l.classes ≡ hard_classes l.moment ++ take l.class-index l.class-items
