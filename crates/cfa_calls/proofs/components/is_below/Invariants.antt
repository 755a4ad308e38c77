use Rattle.std.proofs.Common.{◌≤◌, slice_index_or, take}
use Rattle.std.specs.List.{All}
use Rattle.cfa_calls.proofs.components.is_below.Given as goal

abbrev pub invariant-loop-next : goal.invariant-loop-next
invariant-loop-next l = All (λ next. slice_index_or l.levels next 0 ≤ l.level) (take l.next-index l.row)
