use Rattle.std.proofs.Common.{drop}
use Rattle.cfa_vars.specs.Choices.{seen_lists}
use Rattle.cfa_vars.proofs.ChoiceLemmas.{StillToCount}
use Rattle.cfa_vars.proofs.choosing.are_too_many.Given as goal

abbrev pub invariant-loop-place : goal.invariant-loop-place
invariant-loop-place l = StillToCount l.count (drop l.place (seen_lists l.lists.entries)) (seen_lists l.lists.entries)
