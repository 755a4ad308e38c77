use Rattle.cfa_outside.proofs.Parents.{change_keeps, log_keeps}
use Rattle.cfa_outside.proofs.sites.keeps_parents.Goals as goal

pub returns-clause-change : goal.returns-clause-change
returns-clause-change c = change_keeps

pub returns-clause-log : goal.returns-clause-log
returns-clause-log c = log_keeps
