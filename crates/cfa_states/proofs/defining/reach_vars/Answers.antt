use Rattle.std.proofs.Common.{◌≡◌, ◌∙◌, [], true, ap, rules}
use Rattle.std.specs.List.{cons_option}
use Rattle.cfa_vars.specs.Scopes.{in_scope}
use Rattle.cfa_states.specs.Kept.{seen_numbered}
use Rattle.cfa_states.specs.declared.states.State.{State}
use Rattle.cfa_states.specs.lemmas.Later.{are_then, later_by, with_state}
use Rattle.cfa_states.proofs.DefiningLemmas.{logged, vars_set}
use Rattle.cfa_states.proofs.defining.reach_vars.Goals as goal

pub returns-clause-done : goal.returns-clause-done
returns-clause-done c = λ policy is_common.
    let counts : c.count.result ≡ true = search rules in
    vars_set policy is_common (seen_numbered c.args.promise.now) c.args.guard (in_scope c.scopes_of-scopes.result) c.in_ok-choices.choices c.count_choices.result
    c.args.state.now c.log_own.new.state c.set_each.new.state c.args.activation.now c.set_each.new.activation c.scopes_of-scopes.ensures.kept c.count_choices.ensures
    c.in_ok-data.data.items (cons_option c.in_ok-unsettled.unsettled []) c.requires c.in_ok-unsettled.ensures c.in_ok-choices.ensures c.in_ok-data.ensures (c.count.ensures.within counts) (logged c.args.state.now c.count.new.self c.log_own.new.state c.count_choices.result (cons_option c.in_ok-unsettled.unsettled []) (c.count.ensures.left counts) c.in_ok-log_own.ensures)
    c.in_ok-set_each.ensures.same c.in_ok-set_each.ensures.stands

pub returns-clause-later : goal.returns-clause-later
returns-clause-later c =
    let counts : c.count.result ≡ true = search rules in
    let st = c.args.state.now in
    let a = c.args.activation.now in
    let left = c.count.ensures.left counts in
    let notes = c.in_ok-log_own.ensures in
    are_then st c.log_own.new.state c.set_each.new.state a a c.set_each.new.activation
    (with_state st c.log_own.new.state a (later_by st c.log_own.new.state
    (ap (λ (x : State). x.changes) notes ∙ ap (λ (x : State). x.changes) left)
    (ap (λ (x : State). x.environment.statuses) notes ∙ ap (λ (x : State). x.environment.statuses) left)
    (ap (λ (x : State). x.shared) notes ∙ ap (λ (x : State). x.shared) left)))
    c.in_ok-set_each.ensures.later
