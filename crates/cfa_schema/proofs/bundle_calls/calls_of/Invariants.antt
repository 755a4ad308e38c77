use Rattle.std.proofs.Common.{◌≡◌, ◌++◌, [], drop, map}
use Rattle.std.specs.List.{flat_map}
use Rattle.cfa_tree.specs.Plain.{plain_block}
use Rattle.cfa_calls.specs.Cycles.{seen_call}
use Rattle.cfa_schema.specs.Valid.{calls_in_block, first_bundles_after}
use Rattle.cfa_schema.proofs.bundle_calls.calls_of.Given as goal

-- the calls so far, and those of the blocks left, whose names are new
abbrev pub invariant-loop-block : goal.invariant-loop-block
invariant-loop-block l =
    map seen_call l.calls.items ++ flat_map calls_in_block (first_bundles_after l.names (map plain_block (drop l.block-index l.block-items)))
    ≡ flat_map calls_in_block (first_bundles_after [] (map plain_block l.block-items))
