use Rattle.std.proofs.Common.{◌≡◌, ◌==◌, drop, length}
use Rattle.std.specs.List.{list_any}
use Rattle.cfa_vars.specs.Choices.{seen_lists}
use Rattle.cfa_vars.proofs.choosing.has_empty.Given as goal

abbrev pub invariant-loop-place : goal.invariant-loop-place
invariant-loop-place l = list_any (λ m. length m.1 == 0) (drop l.place (seen_lists l.lists.entries)) ≡ list_any (λ m. length m.1 == 0) (seen_lists l.lists.entries)
