use Rattle.std.proofs.Common.{◌≡◌, drop, map}
use Rattle.std.specs.List.{flat_map}
use Rattle.cfa_values.specs.Refusals.{noted}
use Rattle.cfa_values.specs.Kept.{seen_item}
use Rattle.cfa_values.specs.Values.{sequence_item_refusals}
use Rattle.cfa_values.proofs.control_lists.note_sequence_items.Given as goal

-- what was noted and what is left is what is noted of all
abbrev pub invariant-loop-item : goal.invariant-loop-item
invariant-loop-item l =
    noted l.first (flat_map (sequence_item_refusals l.definitions) (map seen_item (drop l.item-index l.items)))
    ≡ noted l.fn.first (flat_map (sequence_item_refusals l.definitions) (map seen_item l.items))
