-- What is still to come hangs on the answers to come alone.
use Rattle.std.proofs.Common.{◌≡◌, ◌∙◌, ℕ, zero, suc, Bool, List, refl, ap, sym, arith}
use Rattle.cfa_outcomes.specs.declared.outcomes.Outcome.{Outcome}
use Rattle.cfa_resolve.specs.Laws.{InstancesAreFew}
use Rattle.cfa_resolve.specs.declared.instances.Instance.{Instance}
use Rattle.cfa_resolve.specs.declared.instances.Work.{Work}
use Rattle.cfa_resolve.specs.declared.instances.Work.TheVariants.{Acts, Call, Report}
use Rattle.cfa_states.specs.History.{History}
use Rattle.cfa_states.specs.Levels.{outcomes_of}
use Rattle.cfa_states.specs.Tellers.{Teller}
use Rattle.cfa_states.specs.Views.{Setting}
use Rattle.cfa_frames.specs.Frames.{Stack, rest}
use Rattle.cfa_frames.specs.Growing.{AnswerAlike, Grows, NextGrows}
use Rattle.cfa_frames.specs.Moves.{Next, goes_on, is_too_large, Need, nothing, skipping, ending, over, need_of, ended, asked_next, answered, then_moves, come_to}
use Rattle.cfa_frames.specs.Weights.{weight}
use Rattle.cfa_frames.proofs.GrowLemmas.{answered_grows, grows_then, stays_same}
use Rattle.cfa_frames.proofs.RunLemmas.{moves_come}

module _ (s : Setting) (t u : Teller) where
  outcomes_alike : (h : History) (i : Instance) (w : Work) → t.tells h i ≡ u.tells h i → outcomes_of t h i w ≡ outcomes_of u h i w
  outcomes_alike h i (Acts acts) same = same
  outcomes_alike h i (Call name given) same = same
  outcomes_alike h i (Report content) same = refl

  -- asked at this history
  abbrev pub AlikeAt : History → Type 0
  AlikeAt h = (i : Instance) → (t.skips h i ≡ u.skips h i) × (t.tells h i ≡ u.tells h i)

  pub answered_alike : (x : Need) (st : Stack) (h : History) → AlikeAt h → answered s t x st h ≡ answered s u x st h
  answered_alike nothing st h alike = refl
  answered_alike (skipping i status) st h alike = ap (λ (b : Bool). asked_next s u b st h) (alike i).0
  answered_alike (ending i status) st h alike = ap (λ (os : List Outcome). ended os st h) (outcomes_alike h i i.work (alike i).1)
  answered_alike over st h alike = refl

  alike_then : (h k : History) → Grows h k → AnswerAlike h t u → AnswerAlike k t u
  alike_then h k grows alike m i more = alike m i (grows_then h k m grows more)

  then_alike : (n : ℕ) → ((st : Stack) (h : History) → AnswerAlike h t u → come_to s t n st h ≡ come_to s u n st h) → (x : Next) (h : History) → NextGrows h x → AnswerAlike h t u →
      then_moves s t x (come_to s t n) ≡ then_moves s u x (come_to s u n)
  then_alike n same (goes_on st k) h grows alike = same st k (alike_then h k grows alike)
  then_alike n same (is_too_large k) h grows alike = refl

  come_to_alike : (n : ℕ) (st : Stack) (h : History) → AnswerAlike h t u → come_to s t n st h ≡ come_to s u n st h
  come_to_alike zero st h alike = refl
  come_to_alike (suc n) st h alike =
      then_alike n (come_to_alike n) (answered s t (need_of st) st h) h (answered_grows s t (need_of st) st h) alike
      ∙ ap (λ (x : Next). then_moves s u x (come_to s u n)) (answered_alike (need_of st) st h (λ (i : Instance). alike h i (stays_same h)))

  pub rest_alike : InstancesAreFew → (st : Stack) (h : History) → AnswerAlike h t u → rest s t st h ≡ rest s u st h
  rest_alike few st h alike =
      let n : ℕ = suc (weight s st h) in
      sym (moves_come few s t n st h (omega arith)) ∙ (come_to_alike n st h alike ∙ moves_come few s u n st h (omega arith))
