use Rattle.std.proofs.Common.{◌≡◌, drop, map}
use Rattle.cfa_values.specs.Refusals.{noted}
use Rattle.cfa_values.specs.Kept.{seen_item}
use Rattle.cfa_values.specs.Values.{repeated, repeated_after}
use Rattle.cfa_values.proofs.items.note_repeated.Given as goal

-- what was noted and what is left is what is noted of all
abbrev pub invariant-loop-item : goal.invariant-loop-item
invariant-loop-item l =
    noted l.first (repeated_after l.names (map seen_item (drop l.item-index l.items))) ≡ noted l.fn.first (repeated (map seen_item l.items))
