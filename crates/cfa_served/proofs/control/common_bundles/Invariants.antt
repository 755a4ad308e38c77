use Rattle.std.proofs.Common.{◌≡◌, ◌++◌, drop, map}
use Rattle.std.specs.Prelude.{filter}
use Rattle.cfa_tree.specs.declared.blocks.Block.TheVariants.{Bundle}
use Rattle.cfa_tree.specs.Plain.{plain_block}
use Rattle.cfa_served.specs.Served.{is_common}
use Rattle.cfa_served.proofs.control.common_bundles.Given as goal

-- the common bundles so far, and those of the blocks left
abbrev pub invariant-loop-block : goal.invariant-loop-block
invariant-loop-block l =
    map (λ bundle. plain_block (Bundle bundle.now)) l.bundles.items ++ filter is_common (map plain_block (drop l.block-index l.blocks))
    ≡ filter is_common (map plain_block l.blocks)
