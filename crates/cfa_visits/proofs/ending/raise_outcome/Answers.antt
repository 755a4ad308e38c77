use Rattle.std.proofs.Common.{◌≡◌, ◌∙◌, [], ◌∷◌, List, ℕ, take, subst}
use Rattle.std.proofs.lemmas.List.{take_all}
use Rattle.cfa_states.specs.Kept.{Keeps}
use Rattle.cfa_states.specs.Passes.{classes_for, raise_each}
use Rattle.cfa_states.specs.lemmas.Later.{later_same, later_then}
use Rattle.cfa_visits.proofs.EndingLemmas.{outcome_one_more}
use Rattle.cfa_visits.proofs.ending.raise_outcome.Goals as goal

pub loop-class-preserved : goal.loop-class-preserved
loop-class-preserved c = (
  λ s h keeps.
      let classes = c.as_slice-class-items.result.now in
      let i = c.loop-class.class-index in
      outcome_one_more s c.raise.new.self c.args.instance.now c.args.outcome c.args.status classes i c.class-item.result c.in_ok-copy.field-0 c.in_ok-source.source h
      (c.as_slice-class-items.ensures ∙ c.classes_for.ensures) c.loop-class-test.true c.class-item.is c.in_ok-copy.ensures c.in_ok-source.ensures
      (c.in_ok-raise.ensures.keeps s (raise_each c.args.instance.now (c.args.outcome ∷ []) c.args.status (take i classes) h) (c.loop-class.invariant.0 s h keeps)),
  later_then c.args.state.now c.loop-class.state c.raise.new.self c.loop-class.invariant.1 c.in_ok-raise.ensures.later,
)

pub returns-clause-keeps : goal.returns-clause-keeps
returns-clause-keeps c = λ s h keeps.
    let classes = c.as_slice-class-items.result.now in
    let all : take c.loop-class.class-index classes ≡ classes_for c.args.instance.now c.args.outcome =
    take_all c.loop-class.class-index classes c.loop-class-test.false ∙ (c.as_slice-class-items.ensures ∙ c.classes_for.ensures) in
    subst (λ (x : List (List ℕ)). Keeps s c.loop-class.state (raise_each c.args.instance.now (c.args.outcome ∷ []) c.args.status x h)) all (c.loop-class.invariant.0 s h keeps)

pub returns-clause-later : goal.returns-clause-later
returns-clause-later c = c.loop-class.invariant.1

pub loop-class-init : goal.loop-class-init
loop-class-init c = (λ s h keeps. keeps, later_same c.args.state.now)
