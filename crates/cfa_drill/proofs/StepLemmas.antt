-- What the step of a turn does: it actuates one instance behind quiet events, or adds quiet events alone.
use Rattle.std.proofs.Common.{◌≡◌, ◌∙◌, inl, inr, suc, true, false, ◌||◌, List, [], ◌∷◌, ◌++◌, refl, sym, ap, subst, append_assoc}
use Rattle.cfa_outside.specs.declared.sites.Entry.{Entry}
use Rattle.cfa_outside.specs.Sites.{after}
use Rattle.cfa_outcomes.specs.declared.outcomes.Outcome.{Outcome}
use Rattle.cfa_outcomes.specs.declared.outcomes.Outcome.TheVariants.{Failed}
use Rattle.cfa_resolve.specs.declared.instances.Instance.{Instance}
use Rattle.cfa_resolve.specs.declared.instances.Work.{Work}
use Rattle.cfa_resolve.specs.declared.instances.Work.TheVariants.{Acts, Call, Report}
use Rattle.cfa_states.specs.History.{History, Event, Told}
use Rattle.cfa_states.specs.Passes.{told}
use Rattle.cfa_states.specs.Tellers.{Teller}
use Rattle.cfa_states.specs.Views.{Setting}
use Rattle.cfa_frames.specs.Frames.{Stack}
use Rattle.cfa_frames.specs.Growing.{Grows, NextGrows}
use Rattle.cfa_frames.specs.Moves.{Next, goes_on, is_too_large}
use Rattle.cfa_frames.specs.Steps.{has_acts, actuations_in as acted_in, step, HasActuated, IsQuiet, IsWhole}
use Rattle.cfa_agent.specs.Agents.{history_at, next_by}
use Rattle.cfa_agent.specs.Runs.{Start, actuations_in, has_record, outcome_by_work, tally_in}
use Rattle.cfa_agent.specs.Stepping.{events_since, log_since, recorded_in, stepper, work_added, world_since}
use Rattle.cfa_convergence.specs.Contained.{actuations, with_acts}
use Rattle.cfa_drill.specs.Interleaving.{step_entries}
use Rattle.cfa_drill.proofs.ActedLemmas.{HasActed, acted_fine}
use Rattle.cfa_drill.proofs.QuietLemmas.{Quiet, since_is, quiet_since, quiet_actuations, quiet_log, log_told, told_is, none_before, told_unfailed}

pub data StepIs (start : Start) (h k : History) : Type 0 where
  quietly : actuations k ≡ actuations h → step_entries start h k ≡ [] → StepIs start h k
  acting : (i : Instance) → actuations k ≡ i ∷ actuations h →
      ((tally_in k).failed ≡ 0 → HasActed i start.world (after (step_entries start h k) start.world)) → StepIs start h k

with_one : (w : Work) (i : Instance) (others : List Instance) → has_acts w ≡ true → with_acts w i others ≡ i ∷ others
with_one (Acts acts) i others e = refl
with_one (Call name given) i others e = absurd (cc)
with_one (Report content) i others e = absurd (cc)

module _ (start : Start) (unlocked : start.has_locks ≡ false) (h : History) where
  entries_are : (events : List Event) → step_entries start h (events ++ h) ≡ log_since start h (recorded_in h) events
  entries_are events = ap (log_since start h (recorded_in h)) (since_is h events)

  -- nothing was actuated
  quiet_step : (events : List Event) → Quiet events → StepIs start h (events ++ h)
  quiet_step events quiet =
      quietly (quiet_actuations events h quiet) (entries_are events ∙ quiet_log start unlocked h (recorded_in h) events quiet)

  -- the world on which the instance is told is that of the start
  pub world_is : (before : List Event) → Quiet before → world_since start h (recorded_in h) (events_since h (before ++ h)) ≡ start.world
  world_is before quiet =
      ap (λ events. after (log_since start h (recorded_in h) events) start.world) (since_is h before)
      ∙ ap (λ log. after log start.world) (quiet_log start unlocked h (recorded_in h) before quiet)

  abbrev Acted_there : Instance → List Entry → Type 0
  Acted_there i entries = HasActed i start.world (after entries start.world)

  acted_by : (before : List Event) (i : Instance) (o : Outcome) (w : Work) → i.work ≡ w → has_acts w ≡ true → o ≡ outcome_by_work start start.world (before ++ h) i w →
      (o ≡ Failed → ⊥) → Acted_there i (work_added start h (recorded_in h) [] (suc (actuations_in (before ++ h))) i w)
  acted_by before i o (Acts acts) is e ended fine =
      acted_fine start.marks start.moment (suc (actuations_in (before ++ h))) i start.world (recorded_in h || has_record []) (λ failed. fine (ended ∙ failed))
  acted_by before i o (Call name given) is e ended fine = absurd (cc)
  acted_by before i o (Report content) is e ended fine = absurd (cc)

  -- one was, between quiet events
  acting_step : (raised before : List Event) (i : Instance) (o : Outcome) → Quiet raised → Quiet before → has_acts i.work ≡ true →
      o ≡ outcome_by_work start (world_since start h (recorded_in h) (events_since h (before ++ h))) (before ++ h) i i.work →
      StepIs start h ((raised ++ (Told i (o ∷ []) ∷ before)) ++ h)
  acting_step raised before i o quiet quiet' acts ended =
      let events : List Event = raised ++ (Told i (o ∷ []) ∷ before) in
      let split : events ++ h ≡ raised ++ (Told i (o ∷ []) ∷ (before ++ h)) = append_assoc raised (Told i (o ∷ []) ∷ before) h in
      let added = log_told start unlocked h (recorded_in h) raised before i o quiet quiet' in
      acting i
      (ap actuations split ∙ quiet_actuations raised (Told i (o ∷ []) ∷ (before ++ h)) quiet ∙ with_one i.work i (actuations (before ++ h)) acts
      ∙ ap (λ others. i ∷ others) (quiet_actuations before h quiet'))
      (λ none. subst (Acted_there i) (sym (entries_are events ∙ added))
      (acted_by before i o i.work refl acts (ended ∙ ap (λ w. outcome_by_work start w (before ++ h) i i.work) (world_is before quiet'))
      (told_unfailed raised (before ++ h) i o (subst (λ (k : History). (tally_in k).failed ≡ 0) split none))))

  abbrev told_by : Teller
  told_by = stepper start h (recorded_in h)

  has_acted : (k : History) → HasActuated told_by h k → StepIs start h k
  has_acted k acted = go acted.grows.0 acted.before acted.grows.1 acted.quiet acted.so
    where
      go : (since : List Event) (before : History) → before ≡ since ++ h → acted_in before ≡ acted_in h → k ≡ told acted.instance (told_by.tells before acted.instance) acted.status before → StepIs start h k
      go since before is quiet so =
          let i : Instance = acted.instance in
          let there : History = since ++ h in
          let o : Outcome = outcome_by_work start (world_since start h (recorded_in h) (events_since h there)) there i i.work in
          let raised = told_is i (o ∷ []) acted.status there in
          let so_there : k ≡ told i (o ∷ []) acted.status there = so ∙ ap (λ (b : History). told i (told_by.tells b i) acted.status b) is in
          subst (StepIs start h) (sym (so_there ∙ raised.1 ∙ sym (append_assoc raised.0 (Told i (o ∷ []) ∷ since) h)))
          (acting_step raised.0 since i o raised.2 (quiet_since since h (sym (ap acted_in is) ∙ quiet)) acted.acts refl)

  has_rested : (k : History) → Grows h k → IsQuiet h k → StepIs start h k
  has_rested k grows quiet =
      subst (StepIs start h) (sym grows.1) (quiet_step grows.0 (quiet_since grows.0 h (sym (ap acted_in grows.1) ∙ quiet)))

  step_is : (next : Next) → NextGrows h next → IsWhole told_by h next → StepIs start h (history_at next)
  step_is (goes_on st k) grows (inl acted) = has_acted k acted.1
  step_is (goes_on st k) grows (inr rested) = has_rested k grows rested.1
  step_is (is_too_large k) grows quiet = has_rested k grows quiet

-- the laws of steps
pub record StepLaws : Type 0 where
  pub whole : (s : Setting) (t : Teller) (st : Stack) (h : History) → IsWhole t h (step s t st h)
  pub grows : (s : Setting) (t : Teller) (st : Stack) (h : History) → NextGrows h (step s t st h)

same_step : (start : Start) (unlocked : start.has_locks ≡ false) (h : History) → StepIs start h h
same_step start unlocked h = quiet_step start unlocked h [] tt

pub turn_is : StepLaws → (s : Setting) (start : Start) → start.has_locks ≡ false → (x : Next) → StepIs start (history_at x) (history_at (next_by s start x))
turn_is laws s start unlocked (goes_on st h) =
    step_is start unlocked h (step s (stepper start h (recorded_in h)) st h) (laws.grows s (stepper start h (recorded_in h)) st h) (laws.whole s (stepper start h (recorded_in h)) st h)
turn_is laws s start unlocked (is_too_large h) = same_step start unlocked h

-- what failed before stays so
grown_none : (h : History) (next : Next) → NextGrows h next → (tally_in (history_at next)).failed ≡ 0 → (tally_in h).failed ≡ 0
grown_none h (goes_on st k) grows none = none_before grows.0 h (subst (λ (k : History). (tally_in k).failed ≡ 0) grows.1 none)
grown_none h (is_too_large k) grows none = none_before grows.0 h (subst (λ (k : History). (tally_in k).failed ≡ 0) grows.1 none)

pub turn_none : StepLaws → (s : Setting) (start : Start) (x : Next) → (tally_in (history_at (next_by s start x))).failed ≡ 0 → (tally_in (history_at x)).failed ≡ 0
turn_none laws s start (goes_on st h) none =
    grown_none h (step s (stepper start h (recorded_in h)) st h) (laws.grows s (stepper start h (recorded_in h)) st h) none
turn_none laws s start (is_too_large h) none = none
