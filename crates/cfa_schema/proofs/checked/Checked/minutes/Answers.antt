use Rattle.cfa_schema.specs.Seen.{tree_of}
use Rattle.cfa_schema.proofs.checked.Checked.minutes.Goals as goal

pub returns : goal.returns
unfolding tree_of
returns c = c.args.self.now.timed
