use Rattle.std.proofs.Common.{List, map, subst}
use Rattle.cfa_tree.specs.Plain.{plain_named}
use Rattle.cfa_vars.specs.declared.scoping.Datum.{Datum}
use Rattle.cfa_states.specs.History.{History}
use Rattle.cfa_states.specs.Kept.{Stands}
use Rattle.cfa_states.specs.Passes.{bind}
use Rattle.cfa_states.specs.Tellers.{inner_path}
use Rattle.cfa_states.specs.Views.{Setting}
use Rattle.cfa_visits.proofs.CallLemmas.{bound_begins, bound_is}
use Rattle.cfa_visits.proofs.calling.begin_call.Goals as goal

pub returns-in-Ok-clause-is_of : goal.returns-in-Ok-clause-is_of
returns-in-Ok-clause-is_of c =
    bound_is (inner_path c.args.instance.now) c.in_ok-path.path c.args.name.now c.args.status c.in_ok-path.ensures c.in_ok-activation.activation c.bind.new.activation
    c.in_ok-activation.ensures.is_of c.in-Ok.ensures.same

pub returns-in-Ok-clause-stands : goal.returns-in-Ok-clause-stands
returns-in-Ok-clause-stands c =
    let params = map plain_named c.args.params.now in
    let a = c.in_ok-activation.activation in
    let a' = c.bind.new.activation in
    let st = c.args.state.now in
    let st' = c.bind.new.state in
    bound_begins (inner_path c.args.instance.now) c.in_ok-path.path c.args.name.now c.args.status c.in_ok-path.ensures a a' c.in_ok-activation.ensures.is_of c.in-Ok.ensures.same
    params c.args.given.now st st' c.in_ok-activation.ensures.stands
    (subst (λ (xs : List Datum). (s : Setting) (h : History) → Stands s st a h → Stands s st' a' (bind a.path params xs h)) c.as_slice.ensures c.in-Ok.ensures.stands)
