use Rattle.std.proofs.Common.{◌≡◌, drop, map}
use Rattle.std.specs.List.{flat_map}
use Rattle.cfa_tree.specs.Plain.{plain_value}
use Rattle.cfa_values.specs.Seen.{seen_context}
use Rattle.cfa_values.specs.Refusals.{noted}
use Rattle.cfa_values.specs.Values.{class_item_refusals}
use Rattle.cfa_values.proofs.class_texts.note_class_items.Given as goal

-- what was noted and what is left is what is noted of all
abbrev pub invariant-loop-item : goal.invariant-loop-item
invariant-loop-item l =
    noted l.first (flat_map (class_item_refusals (seen_context l.context)) (map plain_value (drop l.item-index l.items)))
    ≡ noted l.fn.first (flat_map (class_item_refusals (seen_context l.context)) (map plain_value l.items))
