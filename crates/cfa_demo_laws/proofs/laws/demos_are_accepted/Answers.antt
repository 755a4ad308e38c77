use Rattle.cfa_demo_laws.proofs.Accepts.{demo_is_accepted}
use Rattle.cfa_demo_laws.proofs.laws.demos_are_accepted.Goals as goal

pub returns : goal.returns
returns c = demo_is_accepted
