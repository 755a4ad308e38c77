use Rattle.std.proofs.Common.{◌≡◌, drop}
use Rattle.cfa_vars.specs.Choices.{seen_lists, all_choices}
use Rattle.cfa_vars.proofs.ChoiceLemmas.{completed}
use Rattle.cfa_vars.proofs.choosing.choose.Given as goal

abbrev pub invariant-loop-place : goal.invariant-loop-place
invariant-loop-place l = completed l.choices.items (drop l.place (seen_lists l.lists.entries)) ≡ all_choices (seen_lists l.lists.entries)
