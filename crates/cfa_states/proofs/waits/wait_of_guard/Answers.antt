use Rattle.std.proofs.Common.{◌≡◌, Option, ap, ◌∙◌}
use Rattle.std.specs.Prelude.{option_map, option_copied}
use Rattle.std.proofs.lemmas.Result.{IfOk-weaker}
use Rattle.cfa_tree.specs.Plain.{plain_expr}
use Rattle.cfa_states.specs.History.{History}
use Rattle.cfa_states.specs.Kept.{Stands}
use Rattle.cfa_states.specs.Views.{Setting}
use Rattle.cfa_states.specs.Waits.{wait_on, wait_of_guard}
use Rattle.cfa_states.specs.declared.waits.Wait.{Wait}
use Rattle.cfa_states.proofs.ActivationLemmas.{guard_waits, nothing_waits}
use Rattle.cfa_states.proofs.waits.wait_of_guard.Goals as goal

pub returns-in-None : goal.returns-in-None
returns-in-None c = λ s h stands.
    nothing_waits s c.args.state.now c.args.activation.now h (option_map plain_expr c.args.guard.now) c.statuses-global.result.now c.statuses-local.result.now
    (option_copied c.first_maybe_of_guard.result) stands c.statuses-global.ensures c.statuses-local.ensures c.first_maybe_of_guard.ensures (ap option_copied c.in-None.is)

pub returns-in-Some : goal.returns-in-Some
returns-in-Some c =
    let st = c.args.state.now in
    let a = c.args.activation.now in
    let guard = option_map plain_expr c.args.guard.now in
    let class = c.in-Some.class.now in
    IfOk-weaker c.wait_on.result (λ (wait : Option Wait). wait ≡ wait_on class (option_copied c.source_of.result))
    (λ (wait : Option Wait). (s : Setting) (h : History) → Stands s st a h → wait ≡ wait_of_guard s h a.path guard)
    (λ wait is s h stands.
    guard_waits s st a h guard c.statuses-global.result.now c.statuses-local.result.now (option_copied c.first_maybe_of_guard.result) stands c.statuses-global.ensures c.statuses-local.ensures
    c.first_maybe_of_guard.ensures class (ap option_copied c.in-Some.is) wait (is ∙ ap (wait_on class) (c.source_of.ensures s h stands)))
    c.wait_on.ensures
