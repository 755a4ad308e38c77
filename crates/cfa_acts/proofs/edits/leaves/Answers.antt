use Rattle.cfa_acts.proofs.Settled.{tested_left}
use Rattle.cfa_acts.proofs.edits.leaves.Goals as goal

pub returns : goal.returns
returns c = tested_left c.args.script.now c.args.text.now c.in_ok-lines.lines c.settled.result c.utf8.text c.in_ok-lines.ensures c.settled.ensures
