use Rattle.std.proofs.Common.{refl, sym}
use Rattle.cfa_states.proofs.ActivationLemmas.{local_raised}
use Rattle.cfa_states.specs.lemmas.Later.{here_counted, here_same}
use Rattle.cfa_states.proofs.activations.Activation.raise.Goals as goal

pub returns-then-is_raised-clause-keeps : goal.returns-then-is_raised-clause-keeps
returns-then-is_raised-clause-keeps c =
    let is = c.is_raised.ensures.0 c.if-is_raised.true in
    λ s h keeps.
    local_raised s c.args.self.now c.args.self.now.local h keeps c.args.class c.args.to c.args.source
    (sym is.status) (λ _ _. refl) (sym is.source_of) (λ _ _. refl)

pub returns-then-is_raised-clause-later : goal.returns-then-is_raised-clause-later
returns-then-is_raised-clause-later c = here_same c.args.self.now

pub returns-clause-keeps : goal.returns-clause-keeps
returns-clause-keeps c =
    let raised = c.in_ok-raise.ensures in
    λ s h keeps.
    local_raised s c.args.self.now c.raise.new.self h keeps c.args.class c.args.to c.args.source raised.class raised.other_classes raised.source raised.other_sources

pub returns-clause-later : goal.returns-clause-later
returns-clause-later c = here_counted c.args.self.now _ refl refl refl c.in_ok-self.ensures
