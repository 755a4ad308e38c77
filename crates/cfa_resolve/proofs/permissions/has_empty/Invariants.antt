use Rattle.std.proofs.Common.{◌≡◌, drop}
use Rattle.std.specs.List.{list_any}
use Rattle.cfa_resolve.specs.FileActs.{is_empty}
use Rattle.cfa_resolve.proofs.permissions.has_empty.Given as goal

abbrev pub invariant-loop-item : goal.invariant-loop-item
invariant-loop-item l = list_any is_empty (drop l.item-index l.items) ≡ list_any is_empty l.items
