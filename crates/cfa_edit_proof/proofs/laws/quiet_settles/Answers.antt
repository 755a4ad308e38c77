use Rattle.cfa_edit_proof.proofs.Settling.{quiet_settles as settles}
use Rattle.cfa_edit_proof.proofs.laws.quiet_settles.Goals as goal

pub returns : goal.returns
returns c = settles
