use Rattle.std.proofs.Common.{◌∙◌}
use Rattle.cfa_tree.specs.Plain.{plain_block}
use Rattle.cfa_schema.specs.Valid.{block_refusals}
use Rattle.cfa_values.specs.Noted.{noted_more}
use Rattle.cfa_schema.proofs.blocks.note_blocks.Goals as goal

pub loop-block-preserved : goal.loop-block-preserved
loop-block-preserved c =
    noted_more plain_block (block_refusals c.args.definitions.now) c.args.blocks.now c.loop-block.block-index c.block-item.result
    c.loop-block.first c.note_block.new.first c.loop-block-test.true c.block-item.is c.in_ok-note_block.ensures
    ∙ c.loop-block.invariant
