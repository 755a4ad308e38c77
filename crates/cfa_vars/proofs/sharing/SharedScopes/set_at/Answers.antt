use Rattle.std.proofs.lemmas.Result.{on_ok_weaker, on_err_weaker}
use Rattle.cfa_vars.specs.Named.{put}
use Rattle.cfa_vars.proofs.SharedLemmas.{places_stay, scope_set, scope_stays}
use Rattle.cfa_vars.proofs.sharing.SharedScopes.set_at.Goals as goal

pub invariant_of-self : goal.invariant_of-self
invariant_of-self c = places_stay c.self.inside.scopes.items c.self.inside.places c.args.place c.index_mut.result.now c.set.new.self c.self.invariant c.index_mut.ensures.value

pub returns-clause-ok : goal.returns-clause-ok
returns-clause-ok c =
    on_ok_weaker c.set.result
    (λ puts. λ bundle before stands.
    scope_set c.self.inside.scopes.items c.args.self.now c.args.place c.index_mut.result.now c.set.new.self (λ t. put t c.args.name c.args.datum) bundle before c.self.view_is c.requires c.index_mut.ensures.value puts stands)
    c.set.ensures.ok

pub returns-clause-err : goal.returns-clause-err
returns-clause-err c =
    on_err_weaker c.set.result
    (λ same. scope_stays c.self.inside.scopes.items c.args.self.now c.args.place c.index_mut.result.now c.set.new.self c.self.view_is c.index_mut.ensures.value same)
    c.set.ensures.err
