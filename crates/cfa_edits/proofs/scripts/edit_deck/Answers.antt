use Rattle.cfa_edits.proofs.InsertSteps.{block_within}
use Rattle.cfa_edits.proofs.scripts.edit_deck.Goals as goal

pub edit_once-requires-clause-block : goal.edit_once-requires-clause-block
edit_once-requires-clause-block c = block_within c.args.edits.now c.loop-edit.edit-index c.edit-item.result c.loop-edit-test.true c.edit-item.is
