use Rattle.std.proofs.Common.{◌≡◌, take, map}
use Rattle.cfa_values.specs.Kept.{item_name}
use Rattle.cfa_served.proofs.inputs.copy_names.Given as goal

abbrev pub invariant-loop-item : goal.invariant-loop-item
invariant-loop-item l = l.names ≡ map item_name (take l.item-index l.items)
