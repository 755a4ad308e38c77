use Rattle.std.proofs.Common.{◌∙◌}
use Rattle.cfa_values.specs.Kept.{seen_item}
use Rattle.cfa_values.specs.Values.{sequence_item_refusals}
use Rattle.cfa_values.specs.Noted.{noted_next}
use Rattle.cfa_values.proofs.control_lists.note_sequence_items.Goals as goal

pub loop-item-preserved : goal.loop-item-preserved
loop-item-preserved c =
    noted_next seen_item (sequence_item_refusals c.args.definitions.now) c.args.items.now c.loop-item.item-index _ c.loop-item.first c.note_sequence_item.new.first
    c.loop-item-test.true c.note_sequence_item.ensures
    ∙ c.loop-item.invariant
