use Rattle.std.proofs.Common.{◌≡◌}
use Rattle.cfa_scripts.specs.EditBundles.{with_each}
use Rattle.cfa_scripts.proofs.raising.set_each.Given as goal

abbrev pub invariant-loop-value : goal.invariant-loop-value
invariant-loop-value l = l.table ≡ with_each l.initial.table l.name l.yielded
