use Rattle.std.proofs.Common.{◌≡◌, List, IfOk, map, subst}
use Rattle.cfa_tree.specs.declared.blocks.Block.{Block}
use Rattle.cfa_tree.specs.declared.blocks.Block.TheVariants.{Bundle}
use Rattle.cfa_tree.specs.Plain.{plain_block}
use Rattle.cfa_schema.specs.Seen.{tree_of}
use Rattle.cfa_served.specs.Served.{common_bundles_of}
use Rattle.cfa_schema.proofs.checked.Checked.common_bundles.Goals as goal

pub returns : goal.returns
unfolding tree_of
returns c =
    subst (λ (blocks : List Block). IfOk c.common_bundles.result (λ bundles. map (λ bundle. plain_block (Bundle bundle.now)) bundles.items ≡ common_bundles_of (map plain_block blocks)))
    c.as_slice.ensures c.common_bundles.ensures
