use Rattle.std.proofs.Common.{sym, ◌∙◌}
use Rattle.cfa_states.proofs.WaitLemmas.{none_at}
use Rattle.cfa_states.proofs.states.taken.Goals as goal

pub returns-in-None : goal.returns-in-None
returns-in-None c = λ path. none_at c.new.result c.args.calls.now path c.new.ensures (sym c.take.ensures.value ∙ c.in-None.is)
