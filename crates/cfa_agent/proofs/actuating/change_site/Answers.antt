use Rattle.std.proofs.Common.{rules}
use Rattle.cfa_agent.proofs.actuating.change_site.Goals as goal

pub returns-in-Ok : goal.returns-in-Ok
returns-in-Ok g c = search rules

pub returns-in-Err-Failed : goal.returns-in-Err-Failed
returns-in-Err-Failed g c = search rules
