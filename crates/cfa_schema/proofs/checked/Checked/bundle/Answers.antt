use Rattle.std.proofs.Common.{List, ◌∙◌, ap, map, sym, subst}
use Rattle.cfa_tree.specs.declared.blocks.Block.{Block}
use Rattle.cfa_tree.specs.Plain.{plain_block}
use Rattle.cfa_served.specs.Indexed.{IsIndex}
use Rattle.cfa_schema.specs.Seen.{tree_of}
use Rattle.cfa_served.specs.Served.{bundle_of}
use Rattle.cfa_schema.proofs.checked.Checked.bundle.Goals as goal

pub bundle-requires : goal.bundle-requires
bundle-requires c = subst (λ (blocks : List Block). IsIndex c.args.self.now.index (map plain_block blocks)) (sym c.as_slice.ensures) c.args.self.now.indexed

pub returns : goal.returns
unfolding tree_of
returns c = c.bundle.ensures ∙ ap (λ blocks. bundle_of (map plain_block blocks) c.args.name.now) c.as_slice.ensures
