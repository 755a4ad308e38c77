use Rattle.cfa_agent.proofs.LastFiles.{logs_tell}
use Rattle.cfa_agent.proofs.laws.bracketed_logs_tell.Goals as goal

pub returns : goal.returns
returns c = logs_tell
