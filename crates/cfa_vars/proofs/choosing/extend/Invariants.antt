use Rattle.std.proofs.Common.{◌≡◌}
use Rattle.cfa_vars.specs.Choices.{extended}
use Rattle.cfa_vars.proofs.choosing.extend.Given as goal

abbrev pub invariant-loop-choice : goal.invariant-loop-choice
invariant-loop-choice l = l.done.items ≡ extended l.yielded l.key l.items
