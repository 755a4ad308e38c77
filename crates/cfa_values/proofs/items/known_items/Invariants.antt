use Rattle.std.proofs.Common.{◌≡◌, ◌++◌, drop, map}
use Rattle.std.specs.List.{filter_map}
use Rattle.cfa_tree.specs.Plain.{plain_value}
use Rattle.cfa_values.specs.Values.{known_named}
use Rattle.cfa_values.specs.Kept.{seen_item}
use Rattle.cfa_values.proofs.items.known_items.Given as goal

-- what is known so far, and what is left
abbrev pub invariant-loop-value : goal.invariant-loop-value
invariant-loop-value l =
    map seen_item l.known.items ++ filter_map known_named (map plain_value (drop l.value-index l.items)) ≡ filter_map known_named (map plain_value l.items)
