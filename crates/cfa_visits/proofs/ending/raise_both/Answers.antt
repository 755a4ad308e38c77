use Rattle.std.proofs.Common.{[], ◌∷◌}
use Rattle.std.proofs.lemmas.Result.{on_ok_weaker}
use Rattle.cfa_outcomes.specs.declared.outcomes.Outcome.TheVariants.{Kept, Repaired}
use Rattle.cfa_states.specs.Passes.{raise_each}
use Rattle.cfa_visits.proofs.ending.raise_both.Goals as goal

pub returns-clause-keeps : goal.returns-clause-keeps
returns-clause-keeps c =
    let instance = c.args.instance.now in
    on_ok_weaker c.raise_classes-2.result
    (λ next s h keeps. next s (raise_each instance (Kept ∷ (Repaired ∷ [])) c.args.status instance.kept h) (c.in_ok-raise_classes.ensures.keeps s h keeps))
    c.raise_classes-2.ensures.keeps
