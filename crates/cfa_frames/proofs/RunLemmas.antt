-- What moves and answers come to, one after the other.
use Rattle.std.proofs.Common.{◌≡◌, ◌∙◌, ℕ, zero, suc, ◌<◌, ◌≤◌, Bool, true, false, refl, ap, sym, arith}
use Rattle.cfa_resolve.specs.Laws.{InstancesAreFew}
use Rattle.cfa_resolve.specs.declared.instances.Instance.{Instance}
use Rattle.cfa_states.specs.History.{History}
use Rattle.cfa_states.specs.Levels.{outcomes_of}
use Rattle.cfa_states.specs.Passes.{Course, goes}
use Rattle.cfa_states.specs.Tellers.{Teller}
use Rattle.cfa_states.specs.Views.{Setting}
use Rattle.cfa_statuses.specs.declared.levels.Status.{Status}
use Rattle.cfa_frames.specs.Frames.{Stack, rest}
use Rattle.cfa_frames.specs.Moves.{Meets, Next, goes_on, is_too_large, Need, nothing, skipping, ending, over, need_of, moved, skipped, entered, ended, asked_next, answered, then_moves, come_to}
use Rattle.cfa_frames.specs.Weights.{weight, IsLighter}
use Rattle.cfa_frames.proofs.MoveLemmas.{moved_meets}
use Rattle.cfa_frames.proofs.AnswerLemmas.{skipped_meets, entered_meets, ended_meets, over_is}
use Rattle.cfa_frames.proofs.LightLemmas.{moved_lighter, skipped_lighter, entered_lighter, ended_lighter}

pub lighter_yet : (w v n : ℕ) → w < v → v ≤ n → w < n
lighter_yet w v n less most = omega (arith, less, most)

module _ (few : InstancesAreFew) (s : Setting) (t : Teller) where
  -- so many moves and answers come to what is left
  abbrev Comes : ℕ → Type 0
  Comes n = (st : Stack) (h : History) → weight s st h < n → come_to s t n st h ≡ rest s t st h

  next_comes : (n : ℕ) → Comes n → (x : Next) (c : Course) (w : ℕ) → Meets s t x c → IsLighter s x w → w ≤ n → then_moves s t x (come_to s t n) ≡ c
  next_comes n comes (goes_on st h) c w meets less most = comes st h (lighter_yet (weight s st h) w n less most) ∙ meets
  next_comes n comes (is_too_large h) c w meets less most = meets

  stays_over : (n : ℕ) (st : Stack) (h : History) → need_of st ≡ over → come_to s t n st h ≡ goes h
  stays_over zero st h need = refl
  stays_over (suc n) st h need =
      ap (λ (x : Need). then_moves s t (answered s t x st h) (come_to s t n)) need ∙ stays_over n st h need

  asked_comes : (n : ℕ) → Comes n → (b : Bool) (st : Stack) (h : History) (i : Instance) (status : Status) → need_of st ≡ skipping i status → t.skips h i ≡ b → weight s st h ≤ n →
      then_moves s t (asked_next s t b st h) (come_to s t n) ≡ rest s t st h
  asked_comes n comes true st h i status need is most =
      next_comes n comes (skipped st h) (rest s t st h) (weight s st h) (skipped_meets s t st h i status need is) (skipped_lighter s st h i status need) most
  asked_comes n comes false st h i status need is most =
      next_comes n comes (entered s st h) (rest s t st h) (weight s st h) (entered_meets s t st h i status need is) (entered_lighter s st h i status need) most

  need_comes : (n : ℕ) → Comes n → (x : Need) (st : Stack) (h : History) → need_of st ≡ x → weight s st h ≤ n → then_moves s t (answered s t x st h) (come_to s t n) ≡ rest s t st h
  need_comes n comes nothing st h need most =
      next_comes n comes (moved s st h) (rest s t st h) (weight s st h) (moved_meets s t st h) (moved_lighter s few st h need) most
  need_comes n comes (skipping i status) st h need most = asked_comes n comes (t.skips h i) st h i status need refl most
  need_comes n comes (ending i status) st h need most =
      next_comes n comes (ended (outcomes_of t h i i.work) st h) (rest s t st h) (weight s st h) (ended_meets s t st h i status need)
      (ended_lighter s (outcomes_of t h i i.work) st h i status need) most
  need_comes n comes over st h need most = stays_over n st h need ∙ sym (over_is s t st h need)

  pub moves_come : (n : ℕ) → Comes n
  moves_come zero st h less = absurd (omega (arith, less))
  moves_come (suc n) st h less = need_comes n (moves_come n) (need_of st) st h refl (omega (arith, less))
