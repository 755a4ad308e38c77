use Rattle.cfa_edit_proof.proofs.Decisions.{quiet_decides}
use Rattle.cfa_edit_proof.proofs.laws.quiet_never_fails.Goals as goal

pub returns : goal.returns
returns c = quiet_decides c.settles_as_lines.ensures
