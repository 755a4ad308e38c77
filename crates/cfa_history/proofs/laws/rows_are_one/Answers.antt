use Rattle.cfa_history.proofs.LawLemmas.{one_told}
use Rattle.cfa_history.proofs.laws.rows_are_one.Goals as goal

pub returns : goal.returns
returns c = one_told
