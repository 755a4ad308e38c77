use Rattle.std.proofs.Common.{◌∙◌}
use Rattle.cfa_values.proofs.NotedLemmas.{repeated_more}
use Rattle.cfa_values.proofs.items.note_repeated.Goals as goal

pub loop-item-preserved : goal.loop-item-preserved
loop-item-preserved c =
    repeated_more c.loop-item.names c.add.new.self c.args.items.now c.loop-item.item-index _ c.loop-item.first c.note_if.new.first c.in_ok-is_new.is_new
    c.loop-item-test.true c.in_ok-is_new.ensures.ok c.in_ok-is_new.ensures.answer c.note_if.ensures
    ∙ c.loop-item.invariant
