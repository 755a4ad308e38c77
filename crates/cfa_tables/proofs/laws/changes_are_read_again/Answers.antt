use Rattle.cfa_tables.proofs.ReadOverLemmas.{read_again}
use Rattle.cfa_tables.proofs.laws.changes_are_read_again.Goals as goal

pub returns : goal.returns
returns c = read_again
