use Rattle.std.proofs.Common.{[], length, rules}
use Rattle.cfa_vars.proofs.SharedLemmas.{places_stay, scope_set}
use Rattle.cfa_vars.proofs.sharing.SharedScopes.clear_at.Goals as goal

pub invariant_of-self : goal.invariant_of-self
invariant_of-self c = places_stay c.self.inside.scopes.items c.self.inside.places c.args.place c.index_mut.result.now c.new.result c.self.invariant c.index_mut.ensures.value

pub returns : goal.returns
returns c = λ bundle before stands.
    scope_set c.self.inside.scopes.items c.args.self.now c.args.place c.index_mut.result.now c.new.result (λ t. []) bundle before c.self.view_is c.requires c.index_mut.ensures.value c.new.ensures stands
