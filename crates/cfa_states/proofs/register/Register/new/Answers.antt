use Rattle.cfa_states.proofs.PlaceLemmas.{has_none}
use Rattle.cfa_states.proofs.register.Register.new.Goals as goal

pub invariant_of-result : goal.invariant_of-result
invariant_of-result c = rw c.new.ensures.items (has_none c.new-2.result c.new-2.ensures)
