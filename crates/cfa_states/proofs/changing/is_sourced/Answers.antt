use Rattle.std.proofs.Common.{ap}
use Rattle.std.specs.Prelude.{option_copied}
use Rattle.cfa_states.proofs.ChangingLemmas.{no_source}
use Rattle.cfa_states.proofs.changing.is_sourced.Goals as goal

pub returns-in-None : goal.returns-in-None
returns-in-None c = no_source _ _ _ (ap option_copied c.in-None.is) c.is_none.ensures
