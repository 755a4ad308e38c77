use Rattle.std.proofs.Common.{◌≡◌}
use Rattle.cfa_scripts.specs.EditBundles.{raised_after}
use Rattle.cfa_scripts.proofs.raising.raise_each.Given as goal

abbrev pub invariant-loop-raise : goal.invariant-loop-raise
invariant-loop-raise l = l.inside ≡ raised_after l.initial.inside l.yielded
