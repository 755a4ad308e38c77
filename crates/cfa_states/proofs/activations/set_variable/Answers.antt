use Rattle.std.proofs.Common.{◌∙◌, ap, arith, sym}
use Rattle.cfa_vars.specs.Named.{thing_at}
use Rattle.cfa_vars.specs.Scopes.{Table}
use Rattle.cfa_states.proofs.ActivationLemmas.{stands_again, stands_set_own, stands_set_shared, never_past}
use Rattle.cfa_states.specs.lemmas.Later.{are_same}
use Rattle.cfa_states.proofs.activations.set_variable.Goals as goal

pub returns-in_ok-set-in-None-clause-stands : goal.returns-in_ok-set-in-None-clause-stands
returns-in_ok-set-in-None-clause-stands c =
    λ s h stands.
    stands_set_own s c.args.state.now c.args.activation.now h c.args.name c.args.datum c.set.new.self c.in-None.is c.in_ok-set-in-None.ensures.ok stands

pub returns-in_ok-set_at-in-Some-clause-stands :
    goal.returns-in_ok-set_at-in-Some-clause-stands
returns-in_ok-set_at-in-Some-clause-stands c =
    λ s h stands.
    stands_set_shared s c.args.state.now c.args.activation.now h c.args.name c.args.datum c.in-Some.place c.set_at.new.self c.in-Some.is c.in_ok-set_at-in-Some.ensures.ok stands

pub returns-in_ok-set-in-Some-clause-stands : goal.returns-in_ok-set-in-Some-clause-stands
returns-in_ok-set-in-Some-clause-stands c =
    λ s h stands.
    absurd (never_past s c.args.state.now c.args.activation.now h c.in-Some.place c.in-Some.is (omega arith) stands)

pub returns-then-is_set_to-clause-stands : goal.returns-then-is_set_to-clause-stands
returns-then-is_set_to-clause-stands c =
    λ s h stands.
    stands_again s c.args.state.now c.args.activation.now h c.args.name c.args.datum (ap (λ (t : Table). thing_at t c.args.name) (sym c.own_scope.ensures) ∙ c.is_set_to.ensures.0 c.if-is_set_to.true) stands

pub returns-then-is_set_to-clause-later : goal.returns-then-is_set_to-clause-later
returns-then-is_set_to-clause-later c = are_same c.args.state.now c.args.activation.now
