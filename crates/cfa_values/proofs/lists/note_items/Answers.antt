use Rattle.std.proofs.Common.{◌∙◌}
use Rattle.cfa_tree.specs.Plain.{plain_value}
use Rattle.cfa_values.specs.Seen.{seen_context}
use Rattle.cfa_values.specs.Values.{item_refusals}
use Rattle.cfa_values.specs.Noted.{noted_more}
use Rattle.cfa_values.proofs.lists.note_items.Goals as goal

pub loop-item-preserved : goal.loop-item-preserved
loop-item-preserved c =
    noted_more plain_value (item_refusals (seen_context c.args.context.now)) c.args.items.now c.loop-item.item-index c.item-item.result c.loop-item.first c.note_item.new.first
    c.loop-item-test.true c.item-item.is c.note_item.ensures
    ∙ c.loop-item.invariant
