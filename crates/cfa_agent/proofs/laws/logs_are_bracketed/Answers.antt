use Rattle.cfa_agent.proofs.BracketedLogs.{logs_bracketed, runs_bracketed}
use Rattle.cfa_agent.proofs.laws.logs_are_bracketed.Goals as goal

pub returns-clause-logs : goal.returns-clause-logs
returns-clause-logs c = logs_bracketed

pub returns-clause-runs : goal.returns-clause-runs
returns-clause-runs c = runs_bracketed
