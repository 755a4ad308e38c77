-- What a step comes to.
use Rattle.std.proofs.Common.{◌≡◌, ◌∙◌, ℕ, zero, suc, ◌<◌, ◌≤◌, Bool, true, false, refl, ap, sym, subst, arith}
use Rattle.cfa_resolve.specs.Laws.{InstancesAreFew}
use Rattle.cfa_resolve.specs.declared.instances.Instance.{Instance}
use Rattle.cfa_states.specs.History.{History}
use Rattle.cfa_states.specs.Levels.{outcomes_of}
use Rattle.cfa_states.specs.Passes.{Course}
use Rattle.cfa_states.specs.Tellers.{Teller}
use Rattle.cfa_states.specs.Views.{Setting}
use Rattle.cfa_statuses.specs.declared.levels.Status.{Status}
use Rattle.cfa_frames.specs.Frames.{Stack, rest}
use Rattle.cfa_frames.specs.Growing.{NextGrows}
use Rattle.cfa_frames.specs.Moves.{Meets, Next, goes_on, is_too_large, Need, nothing, skipping, ending, over, need_of, moved, ended, asked_next, answered}
use Rattle.cfa_frames.specs.Steps.{awaits_actuation, unless_last, step_within, step, then_step}
use Rattle.cfa_frames.specs.Weights.{weight, IsLighter}
use Rattle.cfa_frames.proofs.MoveLemmas.{moved_meets}
use Rattle.cfa_frames.proofs.AnswerLemmas.{skipped_meets, entered_meets, ended_meets}
use Rattle.cfa_frames.proofs.GrowLemmas.{answered_grows, stays_same, next_grows}
use Rattle.cfa_frames.proofs.LightLemmas.{moved_lighter, skipped_lighter, entered_lighter, ended_lighter}
use Rattle.cfa_frames.proofs.RunLemmas.{lighter_yet}

module _ (s : Setting) (t : Teller) where
  -- ---- what is left

  asked_meets : (b : Bool) (st : Stack) (h : History) (i : Instance) (status : Status) → need_of st ≡ skipping i status → t.skips h i ≡ b →
      Meets s t (asked_next s t b st h) (rest s t st h)
  asked_meets true st h i status need is = skipped_meets s t st h i status need is
  asked_meets false st h i status need is = entered_meets s t st h i status need is

  need_meets : (x : Need) (st : Stack) (h : History) → need_of st ≡ x → Meets s t (answered s t x st h) (rest s t st h)
  need_meets nothing st h need = moved_meets s t st h
  need_meets (skipping i status) st h need = asked_meets (t.skips h i) st h i status need refl
  need_meets (ending i status) st h need = ended_meets s t st h i status need
  need_meets over st h need = refl

  unless_meets : (n : ℕ) → ((st : Stack) (h : History) → Meets s t (step_within s t n st h) (rest s t st h)) → (b : Bool) (x : Next) (c : Course) → Meets s t x c →
      Meets s t (unless_last s t b x (step_within s t n)) c
  unless_meets n keeps true x c meets = meets
  unless_meets n keeps false (goes_on st h) c meets = subst (Meets s t (step_within s t n st h)) meets (keeps st h)
  unless_meets n keeps false (is_too_large h) c meets = meets

  within_meets : (n : ℕ) (st : Stack) (h : History) → Meets s t (step_within s t n st h) (rest s t st h)
  within_meets zero st h = refl
  within_meets (suc n) st h =
      unless_meets n (within_meets n) (awaits_actuation (need_of st)) (answered s t (need_of st) st h) (rest s t st h) (need_meets (need_of st) st h refl)

  pub step_meets : (st : Stack) (h : History) → Meets s t (step s t st h) (rest s t st h)
  unfolding step
  step_meets st h = within_meets (suc (weight s st h)) st h

  -- ---- what has happened

  unless_grows : (n : ℕ) → ((st : Stack) (h : History) → NextGrows h (step_within s t n st h)) → (b : Bool) (x : Next) (h : History) → NextGrows h x →
      NextGrows h (unless_last s t b x (step_within s t n))
  unless_grows n keeps true x h grows = grows
  unless_grows n keeps false (goes_on st k) h grows = next_grows h k (step_within s t n st k) grows (keeps st k)
  unless_grows n keeps false (is_too_large k) h grows = grows

  within_grows : (n : ℕ) (st : Stack) (h : History) → NextGrows h (step_within s t n st h)
  within_grows zero st h = stays_same h
  within_grows (suc n) st h =
      unless_grows n (within_grows n) (awaits_actuation (need_of st)) (answered s t (need_of st) st h) h (answered_grows s t (need_of st) st h)

  pub step_grows : (st : Stack) (h : History) → NextGrows h (step s t st h)
  unfolding step
  step_grows st h = within_grows (suc (weight s st h)) st h

  -- ---- the end

  pub within_over : (n : ℕ) (st : Stack) (h : History) → need_of st ≡ over → step_within s t n st h ≡ goes_on st h
  within_over zero st h need = refl
  within_over (suc n) st h need =
      ap (λ (x : Need). unless_last s t (awaits_actuation x) (answered s t x st h) (step_within s t n)) need ∙ within_over n st h need

  pub step_over : (st : Stack) (h : History) → need_of st ≡ over → step s t st h ≡ goes_on st h
  unfolding step
  step_over st h need = within_over (suc (weight s st h)) st h need

  step_is : (st : Stack) (h : History) → step s t st h ≡ unless_last s t (awaits_actuation (need_of st)) (answered s t (need_of st) st h) (step_within s t (weight s st h))
  unfolding step
  step_is st h = refl

  module _ (few : InstancesAreFew) where
    pub asked_lighter : (b : Bool) (st : Stack) (h : History) (i : Instance) (status : Status) → need_of st ≡ skipping i status → IsLighter s (asked_next s t b st h) (weight s st h)
    asked_lighter true st h i status need = skipped_lighter s st h i status need
    asked_lighter false st h i status need = entered_lighter s st h i status need

    -- ---- enough moves

    -- both numbers of moves come to the same
    abbrev Agree : ℕ → ℕ → Type 0
    Agree n m = (st : Stack) (h : History) → weight s st h < n → weight s st h < m → step_within s t n st h ≡ step_within s t m st h

    abbrev one_more : (x : Need) (st : Stack) (h : History) → ℕ → Next
    one_more x st h n = unless_last s t (awaits_actuation x) (answered s t x st h) (step_within s t n)

    next_agrees : (n m : ℕ) → Agree n m → (b : Bool) (x : Next) (w : ℕ) → IsLighter s x w → w ≤ n → w ≤ m →
        unless_last s t b x (step_within s t n) ≡ unless_last s t b x (step_within s t m)
    next_agrees n m agree true x w less first second = refl
    next_agrees n m agree false (goes_on st h) w less first second =
        agree st h (lighter_yet (weight s st h) w n less first) (lighter_yet (weight s st h) w m less second)
    next_agrees n m agree false (is_too_large h) w less first second = refl

    need_agrees : (n m : ℕ) → Agree n m → (x : Need) (st : Stack) (h : History) → need_of st ≡ x → weight s st h ≤ n → weight s st h ≤ m → one_more x st h n ≡ one_more x st h m
    need_agrees n m agree nothing st h need first second =
        next_agrees n m agree false (moved s st h) (weight s st h) (moved_lighter s few st h need) first second
    need_agrees n m agree (skipping i status) st h need first second =
        next_agrees n m agree false (asked_next s t (t.skips h i) st h) (weight s st h) (asked_lighter (t.skips h i) st h i status need) first second
    need_agrees n m agree (ending i status) st h need first second =
        next_agrees n m agree (awaits_actuation (ending i status)) (ended (outcomes_of t h i i.work) st h) (weight s st h)
        (ended_lighter s (outcomes_of t h i i.work) st h i status need) first second
    need_agrees n m agree over st h need first second = within_over n st h need ∙ sym (within_over m st h need)

    pub moves_agree : (n m : ℕ) → Agree n m
    moves_agree zero m st h less more = absurd (omega (arith, less))
    moves_agree (suc n) zero st h less more = absurd (omega (arith, more))
    moves_agree (suc n) (suc m) st h less more = need_agrees n m (moves_agree n m) (need_of st) st h refl (omega (arith, less)) (omega (arith, more))

    pub within_step : (n : ℕ) (st : Stack) (h : History) → weight s st h < n → step_within s t n st h ≡ step s t st h
    unfolding step
    within_step n st h less = moves_agree n (suc (weight s st h)) st h less (omega arith)

    -- ---- a move or an answer ahead

    next_steps : (b : Bool) (x : Next) (w : ℕ) → b ≡ false → IsLighter s x w → unless_last s t b x (step_within s t w) ≡ then_step s t x
    next_steps true x w is less = absurd (cc)
    next_steps false (goes_on st h) w is less = within_step w st h less
    next_steps false (is_too_large h) w is less = refl

    need_steps : (x : Need) (st : Stack) (h : History) → need_of st ≡ x → awaits_actuation x ≡ false → one_more x st h (weight s st h) ≡ then_step s t (answered s t x st h)
    need_steps nothing st h need is = next_steps false (moved s st h) (weight s st h) is (moved_lighter s few st h need)
    need_steps (skipping i status) st h need is =
        next_steps false (asked_next s t (t.skips h i) st h) (weight s st h) is (asked_lighter (t.skips h i) st h i status need)
    need_steps (ending i status) st h need is =
        next_steps (awaits_actuation (ending i status)) (ended (outcomes_of t h i i.work) st h) (weight s st h) is
        (ended_lighter s (outcomes_of t h i i.work) st h i status need)
    need_steps over st h need is = within_over (weight s st h) st h need ∙ sym (step_over st h need)

    pub step_goes_on : (st : Stack) (h : History) → awaits_actuation (need_of st) ≡ false → step s t st h ≡ then_step s t (answered s t (need_of st) st h)
    step_goes_on st h is = step_is st h ∙ need_steps (need_of st) st h refl is

  pub step_actuates : (st : Stack) (h : History) → awaits_actuation (need_of st) ≡ true → step s t st h ≡ answered s t (need_of st) st h
  step_actuates st h is =
      step_is st h ∙ ap (λ (b : Bool). unless_last s t b (answered s t (need_of st) st h) (step_within s t (weight s st h))) is
