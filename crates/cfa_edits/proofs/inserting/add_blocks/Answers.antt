use Rattle.std.proofs.Common.{◌||◌, ap, ◌∙◌}
use Rattle.cfa_edits.specs.Edits.{is_among}
use Rattle.cfa_edits.specs.Steps.{block_of}
use Rattle.cfa_edits.proofs.InsertSteps.{blocks_more}
use Rattle.cfa_edits.proofs.inserting.add_blocks.Goals as goal

pub loop-edit-preserved : goal.loop-edit-preserved
loop-edit-preserved c = λ other.
    c.in_ok-add_block.ensures.ok other
    ∙ ap (λ b. b || is_among (block_of c.edit-item.result) other) (c.loop-edit.invariant other)
    ∙ blocks_more c.args.edits.now c.loop-edit.edit-index c.edit-item.result c.loop-edit-test.true c.edit-item.is other
