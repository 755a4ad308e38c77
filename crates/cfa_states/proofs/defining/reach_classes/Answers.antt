use Rattle.std.proofs.Common.{◌≡◌, ℕ, List, ap, true, rules}
use Rattle.cfa_vars.specs.Scopes.{in_scope}
use Rattle.cfa_states.specs.Kept.{seen_numbered}
use Rattle.std.specs.Prelude.{Err}
use Rattle.cfa_functions.specs.declared.calling.CallErr.{CallErr}
use Rattle.cfa_functions.specs.Builds.{refused_in}
use Rattle.cfa_states.specs.declared.states.State.{State}
use Rattle.cfa_states.specs.lemmas.Later.{are_then, later_by, with_state}
use Rattle.cfa_states.proofs.DefiningLemmas.{classes_raised, classes_build}
use Rattle.cfa_states.proofs.defining.reach_classes.Goals as goal

pub returns-clause-done : goal.returns-clause-done
returns-clause-done g c = λ policy.
    let counts : c.count.result ≡ true = search rules in
    classes_raised policy c.args.is_common (seen_numbered c.args.promise.now) c.args.guard (in_scope c.scopes_of-scopes.result) c.in_ok-choices.choices c.count_choices.result
    c.args.state.now c.count.new.self c.raise_each.new.state c.args.activation.now c.raise_each.new.activation c.scopes_of-scopes.ensures.kept c.count_choices.ensures
    c.in-Ok.handed.items c.requires.acting c.in_ok-choices.ensures c.in-Ok.ensures.handed (c.count.ensures.within counts) (c.count.ensures.left counts)
    c.in_ok-raise_each.ensures.same c.in_ok-raise_each.ensures.stands

pub returns-in-Err-PatternTooBig-clause-done : goal.returns-in-Err-PatternTooBig-clause-done
returns-in-Err-PatternTooBig-clause-done g c = λ policy.
    classes_build policy c.args.is_common (seen_numbered c.args.promise.now) c.args.guard (in_scope c.scopes_of-scopes.result) c.in_ok-choices.choices
    c.args.state.now c.args.activation.now c.in-Err-PatternTooBig.text c.scopes_of-scopes.ensures.kept c.requires.set c.in_ok-choices.ensures
    _ _ _ (ap (λ (e : CallErr). refused_in {T = List ℕ} (Err e)) c.in-Err-PatternTooBig.field-0-is) c.in-Err-PatternTooBig.ensures.sizes

pub returns-clause-later : goal.returns-clause-later
returns-clause-later g c =
    let counts : c.count.result ≡ true = search rules in
    let st = c.args.state.now in
    let a = c.args.activation.now in
    let left = c.count.ensures.left counts in
    are_then st c.count.new.self c.raise_each.new.state a a c.raise_each.new.activation
    (with_state st c.count.new.self a (later_by st c.count.new.self
    (ap (λ (x : State). x.changes) left) (ap (λ (x : State). x.environment.statuses) left) (ap (λ (x : State). x.shared) left)))
    c.in_ok-raise_each.ensures.later
