use Rattle.cfa_laws.proofs.InstanceLemmas.{keys_lines}
use Rattle.cfa_laws.proofs.keys.keys_are_lines.Goals as goal

pub returns : goal.returns
returns c = keys_lines
