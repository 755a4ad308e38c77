use Rattle.std.proofs.Common.{refl, sym}
use Rattle.cfa_states.proofs.KeptLemmas.{keeps_raised}
use Rattle.cfa_states.specs.lemmas.Later.{later_counted, later_same}
use Rattle.cfa_states.proofs.states.State.raise.Goals as goal

pub returns-then-is_raised-clause-keeps : goal.returns-then-is_raised-clause-keeps
returns-then-is_raised-clause-keeps c =
    let is = c.is_raised.ensures.0 c.if-is_raised.true in
    λ s h keeps.
    keeps_raised s c.args.self.now c.args.self.now.environment h keeps c.args.class c.args.to c.args.source
    (sym is.status) (λ _ _. refl) (sym is.source_of) (λ _ _. refl) (λ _ _. refl)

pub returns-then-is_raised-clause-later : goal.returns-then-is_raised-clause-later
returns-then-is_raised-clause-later c = later_same c.args.self.now

pub returns-clause-keeps : goal.returns-clause-keeps
returns-clause-keeps c =
    let raised = c.in_ok-raise.ensures in
    λ s h keeps.
    keeps_raised s c.args.self.now c.raise.new.self h keeps c.args.class c.args.to c.args.source
    raised.class raised.other_classes raised.source raised.other_sources raised.marks

pub returns-clause-later : goal.returns-clause-later
returns-clause-later c = later_counted c.args.self.now _ c.in_ok-self.ensures
