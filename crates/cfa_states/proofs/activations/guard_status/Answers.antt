use Rattle.std.proofs.Common.{◌∙◌, sym, ap}
use Rattle.std.specs.Prelude.{option_map}
use Rattle.cfa_statuses.specs.Raised.{greater_in}
use Rattle.cfa_statuses.specs.Status.{value_of}
use Rattle.cfa_tree.specs.Plain.{plain_expr}
use Rattle.cfa_states.specs.Kept.{guard_value}
use Rattle.cfa_states.specs.Views.{guard_status}
use Rattle.cfa_states.specs.lemmas.Scopes.{guard_is}
use Rattle.cfa_states.proofs.activations.guard_status.Goals as goal

pub returns-in-Some-clause-kept : goal.returns-in-Some-clause-kept
returns-in-Some-clause-kept c =
    let global = c.statuses.result.now in
    let local = c.statuses-in-Some.result.now in
    λ s h stands.
    c.value.ensures ∙ ap (λ e. value_of (plain_expr e) (greater_in global local)) c.expr.ensures
    ∙ guard_is s c.args.state.now c.args.activation.now h (plain_expr c.in-Some.guard) global local stands c.statuses.ensures c.statuses-in-Some.ensures
    ∙ ap (λ guard. guard_status s h c.args.activation.now.path (option_map plain_expr guard)) (sym c.in-Some.is)

pub returns-in-Some-clause-now : goal.returns-in-Some-clause-now
returns-in-Some-clause-now c =
    let st = c.args.state.now in
    let a = c.args.activation.now in
    c.value.ensures ∙ ap (λ e. value_of (plain_expr e) (greater_in c.statuses.result.now c.statuses-in-Some.result.now)) c.expr.ensures
    ∙ ap (λ x. value_of (plain_expr c.in-Some.guard) (greater_in x c.statuses-in-Some.result.now)) c.statuses.ensures
    ∙ ap (λ x. value_of (plain_expr c.in-Some.guard) (greater_in st.environment.statuses x)) c.statuses-in-Some.ensures
    ∙ ap (λ guard. guard_value (option_map plain_expr guard) st.environment.statuses a.local.statuses) (sym c.in-Some.is)
