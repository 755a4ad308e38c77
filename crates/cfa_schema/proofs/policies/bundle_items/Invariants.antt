use Rattle.std.proofs.Common.{◌≡◌, ◌++◌, drop, map}
use Rattle.std.specs.List.{filter_map}
use Rattle.cfa_tree.specs.Plain.{plain_block}
use Rattle.cfa_values.specs.Kept.{seen_item}
use Rattle.cfa_schema.specs.Valid.{bundle_name}
use Rattle.cfa_schema.proofs.policies.bundle_items.Given as goal

-- the names so far and those that are left are all
abbrev pub invariant-loop-block : goal.invariant-loop-block
invariant-loop-block l =
    map seen_item l.items.items ++ filter_map bundle_name (map plain_block (drop l.block-index l.blocks)) ≡ filter_map bundle_name (map plain_block l.blocks)
