use Rattle.cfa_agent.proofs.BracketLemmas.{fronts_bracketed}
use Rattle.cfa_agent.proofs.laws.fronts_are_bracketed.Goals as goal

pub returns : goal.returns
returns c = fronts_bracketed
