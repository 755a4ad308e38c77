use Rattle.std.proofs.Common.{sym, subst}
use Rattle.cfa_base.specs.lemmas.Options.{some_at}
use Rattle.cfa_states.specs.Kept.{GuardsRepeat, StandsLast}
use Rattle.cfa_states.proofs.NumberedLemmas.{repeats_pushed}
use Rattle.cfa_states.proofs.numbered.add_promise.Goals as goal

pub returns-in_ok-push-clause-guards : goal.returns-in_ok-push-clause-guards
returns-in_ok-push-clause-guards c = λ so_far.
    let ps = c.args.promises.now.items in
    subst GuardsRepeat (sym c.in_ok-push.ensures.items)
    (repeats_pushed ps _ so_far (λ marked. some_at c.args.found c.in-Some.promise_type (λ _. StandsLast ps c.args.promise.now.guard) c.in-Some.is (c.requires marked)))
