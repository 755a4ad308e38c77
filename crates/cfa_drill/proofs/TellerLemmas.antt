-- An agent that has ended has made a run of its policy, by what its steps were told.
use Rattle.std.proofs.Common.{◌≡◌, ◌∙◌, ℕ, zero, suc, Bool, true, false, List, [], ◌∷◌, ◌++◌, get_or, All, refl, sym, ap, subst}
use Rattle.std.specs.List.{AllByRecursion as Each}
use Rattle.std.proofs.lemmas.List.Elements.{All-from_recursion}
use Rattle.cfa_outcomes.specs.declared.outcomes.Outcome.{Outcome}
use Rattle.cfa_outcomes.specs.declared.outcomes.Outcome.TheVariants.{Kept}
use Rattle.cfa_resolve.specs.declared.instances.Instance.{Instance}
use Rattle.cfa_resolve.specs.declared.instances.Work.TheVariants.{Report}
use Rattle.cfa_states.specs.History.{History}
use Rattle.cfa_states.specs.Passes.{Course, goes, too_large, run}
use Rattle.cfa_states.specs.Tellers.{Teller, all_kept}
use Rattle.cfa_states.specs.Views.{Setting}
use Rattle.cfa_frames.specs.Frames.{Stack, beginning, rest}
use Rattle.cfa_frames.specs.Growing.{AnswerAlike, Grows}
use Rattle.cfa_frames.specs.Moves.{Next, goes_on, is_too_large}
use Rattle.cfa_frames.specs.Steps.{AlwaysTells, IsOver, actuations_in as acted_in, after_steps, begun, by_turns, course_at, then_step, turn}
use Rattle.cfa_agent.specs.Agents.{history_at, next_by}
use Rattle.cfa_agent.specs.Runs.{Start, outcome_by_work}
use Rattle.cfa_agent.specs.Stepping.{events_since, recorded_in, stepper, world_since}
use Rattle.cfa_convergence.specs.Told.{Telling, teller_of}
use Rattle.cfa_drill.specs.Ends.{HasEnded}
use Rattle.cfa_drill.specs.Traces.{HasRun, TellsOne}

-- ---- tellers of steps

-- it skips none, and tells one outcome of each
pub record Fair (t : Teller) : Type 0 where
  pub skips_none : (h : History) (i : Instance) → t.skips h i ≡ false
  pub one : TellsOne t.tells

pub fair_stepper : (start : Start) → start.has_locks ≡ false → (h : History) → Fair (stepper start h (recorded_in h))
fair_stepper start unlocked h = record {
  skips_none = λ k i. go start.has_locks unlocked k i;
  one = record {
    one = λ k i. (outcome_by_work start (world_since start h (recorded_in h) (events_since h k)) k i i.work, refl);
    reports = λ k i content is. ap (λ w. outcome_by_work start (world_since start h (recorded_in h) (events_since h k)) k i w ∷ []) is;
  };
}
  where
    go : (b : Bool) → b ≡ false → (k : History) (i : Instance) → (stepper (record start { has_locks = b }) h (recorded_in h)).skips k i ≡ false
    go true e k i = absurd (cc)
    go false e k i = refl

fair_last : Fair all_kept
fair_last = record { skips_none = λ h i. refl; one = record { one = λ h i. (Kept, refl); reports = λ h i content is. refl } }

fair_at : (tellers : List Teller) → Each Fair tellers → (n : ℕ) → Fair (get_or tellers n all_kept)
fair_at [] fair n = fair_last
fair_at (t ∷ tellers) fair zero = fair.0
fair_at (t ∷ tellers) fair (suc n) = fair_at tellers fair.1 n

fair_tells : (t : Teller) → Fair t → AlwaysTells t
fair_tells t fair h i none = let one = (fair.one.one h i).1 in absurd (cc)

all_tell : (tellers : List Teller) → Each Fair tellers → Each AlwaysTells tellers
all_tell [] fair = tt
all_tell (t ∷ tellers) fair = (fair_tells t fair.0, all_tell tellers fair.1)

pub fair_push : (tellers : List Teller) (t : Teller) → Each Fair tellers → Fair t → Each Fair (tellers ++ t ∷ [])
fair_push [] t fair last = (last, tt)
fair_push (other ∷ tellers) t fair last = (fair.0, fair_push tellers t fair.1 last)

-- ---- steps

pub step_behind : (s : Setting) (tellers : List Teller) (t : Teller) (x : Next) → after_steps s (tellers ++ t ∷ []) x ≡ then_step s t (after_steps s tellers x)
step_behind s [] t x = refl
step_behind s (other ∷ tellers) t x = step_behind s tellers t (then_step s other x)

pub next_is : (s : Setting) (start : Start) (x : Next) → next_by s start x ≡ then_step s (stepper start (history_at x) (recorded_in (history_at x))) x
next_is s start (goes_on st h) = refl
next_is s start (is_too_large h) = refl

-- ---- runs

-- the laws of what steps come to
pub record RunLaws : Type 0 where
  pub begins : (s : Setting) (t : Teller) → rest s t (beginning s) [] ≡ run s t
  pub alike : (s : Setting) (t u : Teller) (st : Stack) (h : History) → AnswerAlike h t u → rest s t st h ≡ rest s u st h
  pub ended : (s : Setting) (tellers : List Teller) (last : Teller) → All AlwaysTells tellers → IsOver (after_steps s tellers (begun s)) →
      course_at (after_steps s tellers (begun s)) ≡ run s (by_turns tellers last)

module _ (laws : RunLaws) (s : Setting) where
  same_run : (t u : Teller) → AnswerAlike [] t u → run s t ≡ run s u
  same_run t u alike = sym (laws.begins s t) ∙ laws.alike s t u (beginning s) [] alike ∙ laws.begins s u

  -- what the steps were told
  abbrev tells_in : List Teller → Telling
  tells_in tellers = λ h i. (turn tellers all_kept h).tells h i

  tells_one : (tellers : List Teller) → Each Fair tellers → TellsOne (tells_in tellers)
  tells_one tellers fair = record {
    one = λ h i. (fair_at tellers fair (acted_in h)).one.one h i;
    reports = λ h i content is. (fair_at tellers fair (acted_in h)).one.reports h i content is;
  }

  over : (x : Next) → HasEnded x → IsOver x × (course_at x ≡ goes (history_at x))
  over (goes_on st h) ended = (ended, refl)
  over (is_too_large h) ended = absurd ended

  pub has_run : (tellers : List Teller) (x : Next) → Each Fair tellers → x ≡ after_steps s tellers (begun s) → HasEnded x → HasRun s (history_at x)
  has_run tellers x fair is ended =
      let ends = over x ended in
      let made : course_at (after_steps s tellers (begun s)) ≡ run s (by_turns tellers all_kept) =
      laws.ended s tellers all_kept (All-from_recursion AlwaysTells tellers (all_tell tellers fair)) (subst IsOver is ends.0) in
      let same : run s (by_turns tellers all_kept) ≡ run s (teller_of (tells_in tellers)) =
      same_run (by_turns tellers all_kept) (teller_of (tells_in tellers)) (λ k i grows. ((fair_at tellers fair (acted_in k)).skips_none k i, refl)) in
      (tells_in tellers, (tells_one tellers fair, sym same ∙ sym made ∙ sym (ap course_at is) ∙ ends.1))
