use Rattle.cfa_vars.proofs.SharedLemmas.{none_begun}
use Rattle.cfa_vars.proofs.sharing.SharedScopes.new.Goals as goal

pub invariant_of-result : goal.invariant_of-result
invariant_of-result c = none_begun _ c.new-2.result c.new.ensures.items c.new-2.ensures
