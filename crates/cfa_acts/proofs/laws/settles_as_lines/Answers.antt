use Rattle.cfa_acts.proofs.Settled.{settles_as_lines}
use Rattle.cfa_acts.proofs.laws.settles_as_lines.Goals as goal

pub returns : goal.returns
returns c = settles_as_lines
