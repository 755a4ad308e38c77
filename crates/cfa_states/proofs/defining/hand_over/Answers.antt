use Rattle.std.proofs.Common.{map}
use Rattle.std.specs.Prelude.{option_copied}
use Rattle.cfa_defines.specs.SeenRaises.{seen_raise}
use Rattle.cfa_tree.specs.Plain.{plain_promise}
use Rattle.cfa_vars.specs.Scopes.{in_scope}
use Rattle.cfa_states.proofs.DefiningLemmas.{handed_over}
use Rattle.cfa_states.proofs.defining.hand_over.Goals as goal

pub returns-clause-handed : goal.returns-clause-handed
returns-clause-handed g c = λ s h stands.
    let in_guard = option_copied c.first_maybe_of_guard-in_guard.result in
    handed_over s c.args.state.now c.args.activation.now h c.args.guard (in_scope c.args.scopes.now) (plain_promise c.args.promise.now) c.args.choices.now
    c.statuses-global.result.now c.statuses-local.result.now in_guard (map seen_raise c.in_ok-raises.raises.items) c.in_ok-hand_each.field-0.items
    stands c.statuses-global.ensures c.statuses-local.ensures c.in_ok-raises.ensures.raises c.first_maybe_of_guard-in_guard.ensures (c.in_ok-hand_each.ensures s h stands)
