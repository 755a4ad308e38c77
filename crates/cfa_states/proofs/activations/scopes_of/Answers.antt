use Rattle.std.proofs.Common.{refl}
use Rattle.cfa_states.specs.lemmas.Scopes.{scopes_are}
use Rattle.cfa_states.proofs.ActivationLemmas.{scopes_found}
use Rattle.cfa_states.proofs.activations.scopes_of.Goals as goal

pub returns-clause-kept : goal.returns-clause-kept
returns-clause-kept c =
    λ s h stands.
    scopes_are s c.args.state.now c.args.activation.now h c.own_scope.result.now c.args.state.now.shared stands c.own_scope.ensures refl

pub returns-clause-now : goal.returns-clause-now
returns-clause-now c = scopes_found c.args.state.now c.args.activation.now c.own_scope.result.now c.args.state.now.shared c.own_scope.ensures refl
