use Rattle.std.proofs.Common.{◌∙◌, ◌+◌, ◌∷◌, ap, sym, map, drop}
use Rattle.std.proofs.lemmas.List.{drop_more}
use Rattle.cfa_tree.specs.Plain.{plain_value}
use Rattle.cfa_tree.specs.Tree.{value_trees}
use Rattle.cfa_defines.specs.ClassPromises.{joined}
use Rattle.cfa_defines.specs.OfTheCode.{operation, together, item_in, items_in}
use Rattle.cfa_defines.proofs.SaidLemmas.{joined_list}
use Rattle.cfa_defines.proofs.expressions.items_said.Goals as goal

pub loop-item-preserved : goal.loop-item-preserved
loop-item-preserved g c =
    let join = c.args.join in
    let context = c.args.context.now in
    let so_far = c.loop-item.said in
    let behind = drop (c.loop-item.item-index + 1) c.args.items.now in
    let here = drop_more c.args.items.now c.loop-item.item-index c.item-item.result c.loop-item-test.true in (
      ap (λ s. joined (operation join) s (together join (items_in context (value_trees (map plain_value behind))))) c.in_ok-said.ensures.said
          ∙ joined_list join so_far (item_in context (plain_value c.item-item.result)) (items_in context (value_trees (map plain_value behind)))
          ∙ ap (λ v. joined (operation join) so_far (together join (items_in context (value_trees (map plain_value (v ∷ behind)))))) c.item-item.is
          ∙ ap (λ vs. joined (operation join) so_far (together join (items_in context (value_trees (map plain_value vs))))) (sym here)
          ∙ c.loop-item.invariant.0,
      c.in_ok-said.ensures.sizes ∙ c.loop-item.invariant.1,
    )
