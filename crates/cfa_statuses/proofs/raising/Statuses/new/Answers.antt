use Rattle.cfa_statuses.specs.lemmas.Raised.{status_in-none_raised}
use Rattle.cfa_statuses.proofs.raising.Statuses.new.Goals as goal

pub returns-clause-all_no : goal.returns-clause-all_no
returns-clause-all_no c = λ name. rw c.new.ensures (status_in-none_raised name)
