use Rattle.std.proofs.Common.{◌≡◌, ◌++◌, drop, map}
use Rattle.std.specs.List.{flat_map}
use Rattle.cfa_tree.specs.Plain.{plain_block}
use Rattle.cfa_served.specs.Checked.{ids_in_block}
use Rattle.cfa_served.proofs.promise_ids.list_ids.Given as goal

-- the ids so far, and those of the blocks left
abbrev pub invariant-loop-block : goal.invariant-loop-block
invariant-loop-block l =
    l.ids.items ++ flat_map ids_in_block (map plain_block (drop l.block-index l.blocks)) ≡ flat_map ids_in_block (map plain_block l.blocks)
