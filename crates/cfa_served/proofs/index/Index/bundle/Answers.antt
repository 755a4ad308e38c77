use Rattle.std.proofs.Common.{◌∙◌, ap, map, sym}
use Rattle.std.specs.Prelude.{option_and_then, slice_get}
use Rattle.cfa_tree.specs.Plain.{plain_block}
use Rattle.cfa_served.specs.declared.index.Wanted.TheVariants.{Bundle}
use Rattle.cfa_served.specs.Indexed.{place_of}
use Rattle.cfa_served.specs.Served.{bundle_of, if_bundle, is_bundle_of}
use Rattle.cfa_served.proofs.IndexLemmas.{found_at}
use Rattle.cfa_served.proofs.index.Index.bundle.Goals as goal

pub returns : goal.returns
unfolding bundle_of place_of
returns c =
    let blocks = map plain_block c.args.blocks.now in
    c.as_bundle.ensures
    ∙ ap (option_and_then if_bundle) (c.block_at.ensures ∙ ap (option_and_then (slice_get blocks)) (c.requires Bundle c.args.name.now) ∙ sym (found_at (is_bundle_of c.args.name.now) blocks))
