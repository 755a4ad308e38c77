use Rattle.std.proofs.Common.{◌≡◌, ◌∙◌, [], ◌∷◌, List, ℕ, take, subst}
use Rattle.std.proofs.lemmas.List.{take_all}
use Rattle.cfa_outcomes.specs.declared.outcomes.Outcome.TheVariants.{Kept, Repaired}
use Rattle.cfa_states.specs.Kept.{Keeps}
use Rattle.cfa_states.specs.Passes.{raise_each}
use Rattle.cfa_states.specs.lemmas.Later.{later_same, later_then}
use Rattle.cfa_visits.proofs.EndingLemmas.{both_one_more}
use Rattle.cfa_visits.proofs.ending.raise_classes.Goals as goal

pub loop-class-preserved : goal.loop-class-preserved
loop-class-preserved c = (
  λ s h keeps.
      let classes = c.as_slice-class-items.result.now in
      let i = c.loop-class.class-index in
      let instance = c.args.instance.now in
      both_one_more s c.raise.new.self instance (Kept ∷ (Repaired ∷ [])) c.args.status c.raised_to-to.result classes i c.class-item.result c.in_ok-copy.field-0 c.in_ok-source.source h
      c.loop-class-test.true c.class-item.is c.in_ok-copy.ensures c.in_ok-source.ensures (c.raised_to-to.ensures instance c.requires.kept c.requires.repaired)
      (c.in_ok-raise.ensures.keeps s (raise_each instance (Kept ∷ (Repaired ∷ [])) c.args.status (take i classes) h) (c.loop-class.invariant.0 s h keeps)),
  later_then c.args.state.now c.loop-class.state c.raise.new.self c.loop-class.invariant.1 c.in_ok-raise.ensures.later,
)

pub returns-clause-keeps : goal.returns-clause-keeps
returns-clause-keeps c = λ s h keeps.
    let classes = c.as_slice-class-items.result.now in
    let all : take c.loop-class.class-index classes ≡ c.args.classes.now = take_all c.loop-class.class-index classes c.loop-class-test.false ∙ c.as_slice-class-items.ensures in
    subst (λ (x : List (List ℕ)). Keeps s c.loop-class.state (raise_each c.args.instance.now (Kept ∷ (Repaired ∷ [])) c.args.status x h)) all (c.loop-class.invariant.0 s h keeps)

pub returns-clause-later : goal.returns-clause-later
returns-clause-later c = c.loop-class.invariant.1

pub loop-class-init : goal.loop-class-init
loop-class-init c = (λ s h keeps. keeps, later_same c.args.state.now)
