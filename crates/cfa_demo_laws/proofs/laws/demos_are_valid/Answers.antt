use Rattle.cfa_demo_laws.proofs.Validity.{demo_is_valid}
use Rattle.cfa_demo_laws.proofs.laws.demos_are_valid.Goals as goal

pub returns : goal.returns
returns c = demo_is_valid
