use Rattle.cfa_demo.proofs.CountLemmas.{exact}
use Rattle.cfa_demo.proofs.counting.counts_are_exact.Goals as goal

pub returns : goal.returns
returns c = exact
