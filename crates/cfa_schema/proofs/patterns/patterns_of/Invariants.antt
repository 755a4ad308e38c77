use Rattle.std.proofs.Common.{◌≡◌, ◌++◌, drop, map}
use Rattle.std.specs.List.{flat_map}
use Rattle.cfa_tree.specs.Plain.{plain_block}
use Rattle.cfa_schema.specs.Collected.{seen_pattern}
use Rattle.cfa_schema.specs.Valid.{patterns_in_block}
use Rattle.cfa_schema.proofs.patterns.patterns_of.Given as goal

-- the patterns so far, and those of the blocks left
abbrev pub invariant-loop-block : goal.invariant-loop-block
invariant-loop-block l =
    map seen_pattern l.patterns.items ++ flat_map patterns_in_block (map plain_block (drop l.block-index l.block-items))
    ≡ flat_map patterns_in_block (map plain_block l.block-items)
