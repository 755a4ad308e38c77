use Rattle.std.proofs.Common.{◌≡◌, drop, map}
use Rattle.std.specs.List.{flat_map}
use Rattle.cfa_tree.specs.Plain.{plain_block}
use Rattle.cfa_values.specs.Refusals.{noted}
use Rattle.cfa_schema.specs.Valid.{block_refusals}
use Rattle.cfa_schema.proofs.blocks.note_blocks.Given as goal

-- what was noted and what is left is what is noted of all
abbrev pub invariant-loop-block : goal.invariant-loop-block
invariant-loop-block l =
    noted l.first (flat_map (block_refusals l.definitions) (map plain_block (drop l.block-index l.blocks)))
    ≡ noted l.fn.first (flat_map (block_refusals l.definitions) (map plain_block l.blocks))
