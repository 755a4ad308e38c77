use Rattle.std.proofs.Common.{◌∙◌, refl}
use Rattle.cfa_states.proofs.ActivationLemmas.{shared_missing, stands_common}
use Rattle.cfa_states.proofs.activations.Activation.of_common.Goals as goal

pub returns-in-None-clause-missing : goal.returns-in-None-clause-missing
returns-in-None-clause-missing c =
    λ none s h keeps. shared_missing s c.args.state.now h keeps c.args.bundle.now (c.in-None.ensures.missing refl)

pub returns-in_ok-made-in-Some-clause-stands : goal.returns-in_ok-made-in-Some-clause-stands
returns-in_ok-made-in-Some-clause-stands c =
    let made = c.in_ok-made-in-Some.ensures in
    λ s h keeps untouched.
    stands_common s c.args.state.now c.in_ok-made-in-Some.made h c.args.bundle.now c.in-Some.place
    (made.is_of.path ∙ c.in_ok-path-in-Some.ensures) made.place made.fresh c.in-Some.ensures.found keeps untouched
