use Rattle.std.proofs.Common.{◌≡◌, drop}
use Rattle.cfa_vars.specs.Named.{thing_at}
use Rattle.cfa_vars.proofs.expanding.find_choice.Given as goal

abbrev pub invariant-loop-item : goal.invariant-loop-item
invariant-loop-item l = thing_at (drop l.item-index l.choice) l.key ≡ thing_at l.choice l.key
