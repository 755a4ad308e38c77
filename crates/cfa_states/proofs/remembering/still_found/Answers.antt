use Rattle.cfa_states.proofs.ChangingLemmas.{found_before}
use Rattle.cfa_states.proofs.remembering.still_found.Goals as goal

pub returns-else-is_now-clause-found : goal.returns-else-is_now-clause-found
returns-else-is_now-clause-found c = found_before c.args.kept c.in-Some.found c.args.state.now c.args.activation.now c.is_now.result c.in-Some.is c.is_now.ensures c.if-is_now.false
