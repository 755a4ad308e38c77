use Rattle.std.proofs.Common.{◌∙◌, ℕ, ap, map, sym}
use Rattle.std.specs.Prelude.{option_and_then, slice_get}
use Rattle.cfa_tree.specs.Plain.{plain_block}
use Rattle.std.specs.FinMap as finite
use Rattle.cfa_base.specs.TextMaps.{TextMap}
use Rattle.cfa_served.specs.declared.index.Wanted.TheVariants.{Body}
use Rattle.cfa_served.specs.Indexed.{place_of}
use Rattle.cfa_served.specs.Served.{body_of, if_body, is_body_of}
use Rattle.cfa_served.proofs.IndexLemmas.{found_at}
use Rattle.cfa_served.proofs.index.Index.body.Goals as goal

pub returns : goal.returns
unfolding body_of place_of
returns c =
    let blocks = map plain_block c.args.blocks.now in
    c.as_body.ensures
    ∙ ap (option_and_then if_body) (c.block_at.ensures ∙ ap (option_and_then (slice_get blocks)) (ap (λ (table : TextMap ℕ). finite.get table c.args.name.now) c.body_places.ensures ∙ c.requires (Body c.args.body_type) c.args.name.now) ∙ sym (found_at (is_body_of c.args.body_type c.args.name.now) blocks))
