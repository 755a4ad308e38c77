use Rattle.cfa_states.proofs.ActivationLemmas.{stands_called}
use Rattle.cfa_states.proofs.activations.Activation.of_call.Goals as goal

pub returns-clause-stands : goal.returns-clause-stands
returns-clause-stands c =
    let made = c.in_ok-made.ensures in
    λ s state h given keeps own.
    stands_called s state c.in_ok-made.made h c.args.path given made.is_of.path made.place made.fresh keeps own
