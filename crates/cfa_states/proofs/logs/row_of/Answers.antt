use Rattle.cfa_states.proofs.RowLemmas.{is_of_seen}
use Rattle.cfa_states.proofs.logs.row_of.Goals as goal

pub returns-in-Some : goal.returns-in-Some
returns-in-Some c = is_of_seen c.args.instances.now c.args.instance.now c.in-Some.place c.in-Some.ensures
