-- What a step adds to a history, and what steps come to, each with its own teller.
use Rattle.std.proofs.Common.{◌==◌, ◌≡◌, ◌∙◌, inl, inr, ℕ, zero, suc, ◌+◌, ◌<◌, ◌≤◌, Bool, IsTrue, true, false, List, [], ◌∷◌, ◌++◌, length, get_or, replicate, All, refl, ap, sym, subst, arith}
use Rattle.cfa_outcomes.specs.declared.outcomes.Outcome.{Outcome}
use Rattle.cfa_resolve.specs.Laws.{InstancesAreFew}
use Rattle.cfa_resolve.specs.declared.instances.Instance.{Instance}
use Rattle.cfa_resolve.specs.declared.instances.Work.{Work}
use Rattle.cfa_resolve.specs.declared.instances.Work.TheVariants.{Acts, Call, Report}
use Rattle.cfa_states.specs.History.{History, Event, Told}
use Rattle.cfa_states.specs.Levels.{is_quiet, outcomes_of}
use Rattle.cfa_states.specs.Passes.{Course, goes, too_large, told, run}
use Rattle.cfa_states.specs.Tellers.{Teller}
use Rattle.cfa_states.specs.Views.{Setting}
use Rattle.cfa_statuses.specs.declared.levels.Status.{Status}
use Rattle.cfa_frames.specs.Frames.{Ahead, Doing, Frame, Stack, asked, idle, running, beginning, rest}
use Rattle.cfa_frames.specs.Growing.{Grows, CourseGrows, NextGrows}
use Rattle.cfa_frames.specs.Moves.{Meets, Next, goes_on, is_too_large, Need, nothing, skipping, ending, over, doing_need, frames_need, need_of, moved, doing_ended, frames_ended, ended, asked_next, answered}
use Rattle.cfa_frames.specs.Steps.{has_acts, awaits_actuation, is_actuation, actuations_in, unless_last, step_within, step, IsQuiet, HasActuated, IsWhole, StepAlike, after_steps, begun, IsOver, course_at, EndsAs, history_at, AlwaysTells, by_turns, Turn, stepped_if, interleaved, handed_if, handed_to}
use Rattle.cfa_frames.specs.Weights.{weight, IsLighter}
use Rattle.cfa_frames.proofs.AddLemmas.{NextHas, quiet_is_none, moved_has, skipped_has, entered_has, ended_has, told_raises}
use Rattle.cfa_frames.proofs.AlikeLemmas.{answered_alike}
use Rattle.cfa_frames.proofs.AnswerLemmas.{ending_is, over_is}
use Rattle.cfa_frames.proofs.GrowLemmas.{answered_grows, grows_then, stays_same, rest_grows}
use Rattle.cfa_frames.proofs.LightLemmas.{moved_lighter, ended_lighter, ahead_ends_not}
use Rattle.cfa_frames.proofs.MoveLemmas.{begins}
use Rattle.cfa_frames.proofs.RunLemmas.{lighter_yet}
use Rattle.cfa_frames.proofs.StepLemmas.{asked_lighter, step_meets, step_over, within_over}

-- ---- actuations

quiet_same : (h : History) → IsQuiet h h
quiet_same h = refl

quiet_then : (h k m : History) → IsQuiet h k → IsQuiet k m → IsQuiet h m
quiet_then h k m first next = next ∙ first

quiet_came : (event : Event) (h : History) → is_actuation event ≡ false → IsQuiet h (event ∷ h)
quiet_came event h is = ap (λ (b : Bool). elim b [ true ↦ suc (actuations_in h) | false ↦ actuations_in h ]) is

came_quietly : (event : Event) (h : History) → IsTrue (is_quiet event) → IsQuiet h (event ∷ h)
came_quietly event h quiet = quiet_came event h (quiet_is_none event quiet)

counted : (event : Event) (h : History) → is_actuation event ≡ true → actuations_in (event ∷ h) ≡ suc (actuations_in h)
counted event h is = ap (λ (b : Bool). elim b [ true ↦ suc (actuations_in h) | false ↦ actuations_in h ]) is

told_quiet : (i : Instance) (os : List Outcome) → has_acts i.work ≡ false → is_actuation (Told i os) ≡ false
told_quiet i [] is = refl
told_quiet i (o ∷ os) is = is

told_counts_one : (i : Instance) (os : List Outcome) → has_acts i.work ≡ true → (os ≡ [] → ⊥) → is_actuation (Told i os) ≡ true
told_counts_one i [] is some = absurd (some refl)
told_counts_one i (o ∷ os) is some = is

told_one : (i : Instance) (os : List Outcome) (status : Status) (h : History) → has_acts i.work ≡ true → (os ≡ [] → ⊥) → actuations_in (told i os status h) ≡ suc (actuations_in h)
told_one i os status h is some =
    told_raises IsQuiet quiet_same quiet_then came_quietly i os status h ∙ counted (Told i os) h (told_counts_one i os is some)

one_more_counts : (b : Bool) (n : ℕ) → n ≤ elim b [ true ↦ suc n | false ↦ n ]
one_more_counts true n = omega arith
one_more_counts false n = omega arith

since_counts : (since : List Event) (h : History) → actuations_in h ≤ actuations_in (since ++ h)
since_counts [] h = omega arith
since_counts (event ∷ since) h =
    let less = since_counts since h in
    let more = one_more_counts (is_actuation event) (actuations_in (since ++ h)) in omega (arith, less, more)

grown_counts : (h k : History) → Grows h k → actuations_in h ≤ actuations_in k
grown_counts h k grows = subst (λ (k : History). actuations_in h ≤ actuations_in k) (sym grows.1) (since_counts grows.0 h)

-- ---- an actuation

-- the stack has told it, and goes on
abbrev HasEnded : Instance → Status → List Outcome → History → Next → Type 0
HasEnded i status os h (goes_on st k) = (need_of st ≡ nothing) × (k ≡ told i os status h)
HasEnded i status os h (is_too_large k) = ⊥

doing_so_ended : (os : List Outcome) (d : Doing) (f : Frame) (frames : List Frame) (a : Ahead) (h : History) (i : Instance) (status : Status) → doing_need d ≡ ending i status →
    HasEnded i status os h (doing_ended os d f frames a h)
doing_so_ended os idle f frames a h i status need = absurd (cc)
doing_so_ended os (asked j other) f frames a h i status need = absurd (cc)
doing_so_ended os (running j other) f frames a h i status need = (refl, cc)

frames_so_ended : (os : List Outcome) (frames : List Frame) (a : Ahead) (h : History) (i : Instance) (status : Status) → frames_need frames a ≡ ending i status →
    HasEnded i status os h (frames_ended os frames a h)
frames_so_ended os [] a h i status need = absurd (ahead_ends_not a.commons a.rounds a.sequence i status need)
frames_so_ended os (f ∷ frames) a h i status need = doing_so_ended os f.doing f frames a h i status need

outcomes_are : (t : Teller) (h : History) (i : Instance) (w : Work) → has_acts w ≡ true → outcomes_of t h i w ≡ t.tells h i
outcomes_are t h i (Acts acts) is = refl
outcomes_are t h i (Call name given) is = refl
outcomes_are t h i (Report content) is = absurd (cc)

module _ (s : Setting) (t : Teller) where
  -- ---- what comes before it

  asked_quiet : (b : Bool) (st : Stack) (h : History) → NextHas IsQuiet h (asked_next s t b st h)
  asked_quiet true st h = skipped_has IsQuiet quiet_same quiet_then came_quietly quiet_came st h
  asked_quiet false st h = entered_has IsQuiet quiet_same quiet_then came_quietly quiet_came s st h

  answered_quiet : (x : Need) (st : Stack) (h : History) → need_of st ≡ x → awaits_actuation x ≡ false → NextHas IsQuiet h (answered s t x st h)
  answered_quiet nothing st h need is = moved_has IsQuiet quiet_same quiet_then came_quietly s st h
  answered_quiet (skipping i status) st h need is = asked_quiet (t.skips h i) st h
  answered_quiet (ending i status) st h need is =
      ended_has IsQuiet quiet_same quiet_then came_quietly quiet_came (outcomes_of t h i i.work) st h (λ (j : Instance) (other : Status) so.
      quiet_came (Told j (outcomes_of t h i i.work)) h (told_quiet j (outcomes_of t h i i.work)
      (ap (λ (i : Instance). has_acts i.work) (ending_is j i other status (sym so ∙ need)) ∙ is)))
  answered_quiet over st h need is = refl

  actuation_whole : (x : Next) (h : History) (i : Instance) (status : Status) → has_acts i.work ≡ true → HasEnded i status (outcomes_of t h i i.work) h x → IsWhole t h x
  actuation_whole (goes_on st k) h i status is so =
      inl (
        so.0,
        record {
          before = h;
          grows = stays_same h;
          quiet = refl;
          instance = i;
          status = status;
          acts = is;
          so = so.1 ∙ ap (λ (os : List Outcome). told i os status h) (outcomes_are t h i i.work is);
        },
      )
  actuation_whole (is_too_large k) h i status is so = absurd so

  -- ---- a step is whole

  module _ (few : InstancesAreFew) where
    later_whole : (h k : History) (x : Next) → Grows h k → IsQuiet h k → IsWhole t k x → IsWhole t h x
    later_whole h k (goes_on st m) grows quiet (inl (need, so)) =
        inl (
          need,
          record {
            before = so.before;
            grows = grows_then h k so.before grows so.grows;
            quiet = so.quiet ∙ quiet;
            instance = so.instance;
            status = so.status;
            acts = so.acts;
            so = so.so;
          },
        )
    later_whole h k (goes_on st m) grows quiet (inr (need, same)) = inr (need, same ∙ quiet)
    later_whole h k (is_too_large m) grows quiet same = same ∙ quiet

    abbrev AreWhole : ℕ → Type 0
    AreWhole n = (st : Stack) (h : History) → weight s st h < n → IsWhole t h (step_within s t n st h)

    next_whole : (n : ℕ) → AreWhole n → (x : Next) (h : History) (w : ℕ) → IsLighter s x w → w ≤ n → NextGrows h x → NextHas IsQuiet h x →
        IsWhole t h (unless_last s t false x (step_within s t n))
    next_whole n whole (goes_on st k) h w less most grows quiet =
        later_whole h k (step_within s t n st k) grows quiet (whole st k (lighter_yet (weight s st k) w n less most))
    next_whole n whole (is_too_large k) h w less most grows quiet = quiet

    ending_whole : (n : ℕ) → AreWhole n → (b : Bool) (i : Instance) (status : Status) (st : Stack) (h : History) → need_of st ≡ ending i status → has_acts i.work ≡ b → weight s st h ≤ n →
        IsWhole t h (unless_last s t b (ended (outcomes_of t h i i.work) st h) (step_within s t n))
    ending_whole n whole true i status st h need is most =
        actuation_whole (ended (outcomes_of t h i i.work) st h) h i status is (frames_so_ended (outcomes_of t h i i.work) st.frames st.ahead h i status need)
    ending_whole n whole false i status st h need is most =
        next_whole n whole (ended (outcomes_of t h i i.work) st h) h (weight s st h) (ended_lighter s (outcomes_of t h i i.work) st h i status need) most
        (answered_grows s t (ending i status) st h) (answered_quiet (ending i status) st h need is)

    need_whole : (n : ℕ) → AreWhole n → (x : Need) (st : Stack) (h : History) → need_of st ≡ x → weight s st h ≤ n →
        IsWhole t h (unless_last s t (awaits_actuation x) (answered s t x st h) (step_within s t n))
    need_whole n whole nothing st h need most =
        next_whole n whole (moved s st h) h (weight s st h) (moved_lighter s few st h need) most (answered_grows s t nothing st h) (answered_quiet nothing st h need refl)
    need_whole n whole (skipping i status) st h need most =
        next_whole n whole (asked_next s t (t.skips h i) st h) h (weight s st h) (asked_lighter s t few (t.skips h i) st h i status need) most
        (answered_grows s t (skipping i status) st h) (answered_quiet (skipping i status) st h need refl)
    need_whole n whole (ending i status) st h need most = ending_whole n whole (has_acts i.work) i status st h need refl most
    need_whole n whole over st h need most = subst (IsWhole t h) (sym (within_over s t n st h need)) (inr (need, refl))

    within_whole : (n : ℕ) → AreWhole n
    within_whole zero st h less = absurd (omega (arith, less))
    within_whole (suc n) st h less = need_whole n (within_whole n) (need_of st) st h refl (omega (arith, less))

    pub step_whole : (st : Stack) (h : History) → IsWhole t h (step s t st h)
    unfolding step
    step_whole st h = within_whole (suc (weight s st h)) st h (omega arith)

pub actuated_counts : (t : Teller) (h k : History) → AlwaysTells t → HasActuated t h k → actuations_in k ≡ suc (actuations_in h)
actuated_counts t h k tells so =
    ap actuations_in so.so
    ∙ (told_one so.instance (t.tells so.before so.instance) so.status so.before so.acts (tells so.before so.instance) ∙ ap suc so.quiet)

-- ---- what a step does hangs on the answers up to its actuation

module _ (s : Setting) (t u : Teller) where
  alike_then : (h k : History) → Grows h k → IsQuiet h k → StepAlike h t u → StepAlike k t u
  alike_then h k grows quiet alike m i more same = alike m i (grows_then h k m grows more) (same ∙ quiet)

  abbrev AreAlike : ℕ → Type 0
  AreAlike n = (st : Stack) (h : History) → StepAlike h t u → step_within s t n st h ≡ step_within s u n st h

  next_alike : (n : ℕ) → AreAlike n → (x : Next) (h : History) → NextGrows h x → NextHas IsQuiet h x → StepAlike h t u →
      unless_last s t false x (step_within s t n) ≡ unless_last s u false x (step_within s u n)
  next_alike n same (goes_on st k) h grows quiet alike = same st k (alike_then h k grows quiet alike)
  next_alike n same (is_too_large k) h grows quiet alike = refl

  need_alike : (n : ℕ) → AreAlike n → (b : Bool) (x : Need) (st : Stack) (h : History) → need_of st ≡ x → awaits_actuation x ≡ b → StepAlike h t u →
      unless_last s t b (answered s t x st h) (step_within s t n) ≡ unless_last s u b (answered s t x st h) (step_within s u n)
  need_alike n same true x st h need is alike = refl
  need_alike n same false x st h need is alike =
      next_alike n same (answered s t x st h) h (answered_grows s t x st h) (answered_quiet s t x st h need is) alike

  within_alike : (n : ℕ) → AreAlike n
  within_alike zero st h alike = refl
  within_alike (suc n) st h alike =
      need_alike n (within_alike n) (awaits_actuation (need_of st)) (need_of st) st h refl refl alike
      ∙ ap (λ (x : Next). unless_last s u (awaits_actuation (need_of st)) x (step_within s u n))
      (answered_alike s t u (need_of st) st h (λ (i : Instance). alike h i (stays_same h) refl))

  pub step_alike : (st : Stack) (h : History) → StepAlike h t u → step s t st h ≡ step s u st h
  unfolding step
  step_alike st h alike = within_alike (suc (weight s st h)) st h alike

-- ---- many steps

module _ (s : Setting) where
  pub steps_over : (tellers : List Teller) (x : Next) → IsOver x → after_steps s tellers x ≡ x
  steps_over [] x is = refl
  steps_over (t ∷ tellers) (is_too_large h) is = steps_over tellers (is_too_large h) is
  steps_over (t ∷ tellers) (goes_on st h) is =
      ap (after_steps s tellers) (step_over s t st h is) ∙ steps_over tellers (goes_on st h) is

  -- the teller answers as each in its turn, where so many were actuated before
  abbrev AnswersInTurn : (v last : Teller) → List Teller → ℕ → Type 0
  AnswersInTurn v last tellers n =
      (m : ℕ) → m < length tellers → (k : History) (i : Instance) → actuations_in k ≡ m + n →
      ((get_or tellers m last).skips k i ≡ v.skips k i) × ((get_or tellers m last).tells k i ≡ v.tells k i)

  module _ (few : InstancesAreFew) (v last : Teller) where
    abbrev Kept : List Teller → Type 0
    Kept tellers = (st : Stack) (h : History) → All AlwaysTells tellers → AnswersInTurn v last tellers (actuations_in h) → Meets s v (after_steps s tellers (goes_on st h)) (rest s v st h)

    meets_over : (tellers : List Teller) (x : Next) (c : Course) → IsOver x → Meets s v x c → Meets s v (after_steps s tellers x) c
    meets_over tellers x c is meets = subst (λ (x : Next). Meets s v x c) (sym (steps_over tellers x is)) meets

    step_kept : (t : Teller) (tellers : List Teller) → Kept tellers → (x : Next) (h : History) (c : Course) → IsWhole t h x → Meets s v x c →
        All AlwaysTells (t ∷ tellers) → AnswersInTurn v last (t ∷ tellers) (actuations_in h) → Meets s v (after_steps s tellers x) c
    step_kept t tellers kept (goes_on st k) h c (inl (need, so)) meets tell turns =
        subst (Meets s v (after_steps s tellers (goes_on st k))) meets
        (kept st k (λ (m : ℕ) (d : Teller) less. tell (suc m) d (omega (arith, less)))
        (λ (m : ℕ) less (k' : History) (i : Instance) is.
        turns (suc m) (omega (arith, less)) k' i (is ∙ (ap (λ (n : ℕ). m + n) (actuated_counts t h k (tell 0 t (omega arith)) so) ∙ omega arith))))
    step_kept t tellers kept (goes_on st k) h c (inr (need, same)) meets tell turns = meets_over tellers (goes_on st k) c need meets
    step_kept t tellers kept (is_too_large k) h c same meets tell turns = meets_over tellers (is_too_large k) c tt meets

    pub steps_kept : (tellers : List Teller) → Kept tellers
    steps_kept [] st h tell turns = refl
    steps_kept (t ∷ tellers) st h tell turns =
        step_kept t tellers (steps_kept tellers) (step s t st h) h (rest s v st h) (step_whole s t few st h)
        (subst (λ (x : Next). Meets s v x (rest s v st h))
        (sym (step_alike s t v st h (λ (k : History) (i : Instance) grows quiet. turns 0 (omega arith) k i (quiet ∙ omega arith))))
        (step_meets s v st h)) tell turns

  pub turns_kept : InstancesAreFew → (tellers : List Teller) (last : Teller) → All AlwaysTells tellers →
      Meets s (by_turns tellers last) (after_steps s tellers (begun s)) (run s (by_turns tellers last))
  turns_kept few tellers last tell =
      let v : Teller = by_turns tellers last in
      subst (Meets s v (after_steps s tellers (begun s))) (begins s v)
      (steps_kept few v last tellers (beginning s) [] tell (λ (m : ℕ) less (k : History) (i : Instance) is.
      let at : actuations_in k ≡ m = is ∙ omega arith in
      (ap (λ (n : ℕ). (get_or tellers n last).skips k i) (sym at), ap (λ (n : ℕ). (get_or tellers n last).tells k i) (sym at))))

  over_course : (v : Teller) (x : Next) (c : Course) → IsOver x → Meets s v x c → course_at x ≡ c
  over_course v (goes_on st k) c need meets = sym (over_is s v st k need) ∙ meets
  over_course v (is_too_large k) c is meets = meets

  pub turns_end : InstancesAreFew → (tellers : List Teller) (last : Teller) → All AlwaysTells tellers → IsOver (after_steps s tellers (begun s)) →
      course_at (after_steps s tellers (begun s)) ≡ run s (by_turns tellers last)
  turns_end few tellers last tell is =
      over_course (by_turns tellers last) (after_steps s tellers (begun s)) (run s (by_turns tellers last)) is (turns_kept few tellers last tell)

  -- ---- one teller

  module _ (few : InstancesAreFew) (t : Teller) (tells : AlwaysTells t) where
    course_counts : (h : History) (c : Course) → CourseGrows h c → actuations_in h ≤ actuations_in (history_at c)
    course_counts h (goes k) grows = grown_counts h k grows
    course_counts h (too_large k) grows = grown_counts h k grows

    abbrev End : ℕ → Type 0
    End n = (st : Stack) (h : History) → actuations_in (history_at (rest s t st h)) < n + actuations_in h →
        EndsAs (rest s t st h) (after_steps s (replicate n t) (goes_on st h))

    ends_over : (n : ℕ) (x : Next) (c : Course) → IsOver x → course_at x ≡ c → EndsAs c (after_steps s (replicate n t) x)
    ends_over n x c is so = subst (EndsAs c) (sym (steps_over (replicate n t) x is)) (is, so)

    step_ends : (n : ℕ) → End n → (x : Next) (h : History) (c : Course) → IsWhole t h x → Meets s t x c → actuations_in (history_at c) < suc n + actuations_in h →
        EndsAs c (after_steps s (replicate n t) x)
    step_ends n ends (goes_on st k) h c (inl (need, so)) meets less =
        let one = actuated_counts t h k tells so in
        let fewer : actuations_in (history_at (rest s t st k)) < n + actuations_in k =
        subst (λ (c : Course). actuations_in (history_at c) < n + actuations_in k) (sym meets) (omega (arith, less, one)) in
        subst (λ (c : Course). EndsAs c (after_steps s (replicate n t) (goes_on st k))) meets (ends st k fewer)
    step_ends n ends (goes_on st k) h c (inr (need, same)) meets less = ends_over n (goes_on st k) c need (over_course t (goes_on st k) c need meets)
    step_ends n ends (is_too_large k) h c same meets less = ends_over n (is_too_large k) c tt meets

    pub steps_end : (n : ℕ) → End n
    steps_end zero st h less =
        let most = course_counts h (rest s t st h) (rest_grows s t few st h) in absurd (omega (arith, less, most))
    steps_end (suc n) st h less = step_ends n (steps_end n) (step s t st h) h (rest s t st h) (step_whole s t few st h) (step_meets s t st h) less

  pub run_by_steps : InstancesAreFew → (t : Teller) (n : ℕ) → AlwaysTells t → actuations_in (history_at (run s t)) < n →
      EndsAs (run s t) (after_steps s (replicate n t) (begun s))
  run_by_steps few t n tells less =
      let fewer : actuations_in (history_at (rest s t (beginning s) [])) < n + 0 =
      subst (λ (c : Course). actuations_in (history_at c) < n + 0) (sym (begins s t)) (omega (arith, less)) in
      subst (λ (c : Course). EndsAs c (after_steps s (replicate n t) (begun s))) (begins s t) (steps_end few t tells n (beginning s) [] fewer)

  -- ---- several runs

  step_handed : (b : Bool) (t : Teller) (tellers : List Teller) (x : Next) → after_steps s tellers (stepped_if s b t x) ≡ after_steps s (handed_if b t tellers) x
  step_handed true t tellers x = refl
  step_handed false t tellers x = refl

  pub each_alone : (turns : List Turn) (runs : ℕ → Next) (number : ℕ) → interleaved s turns runs number ≡ after_steps s (handed_to number turns) (runs number)
  each_alone [] runs number = refl
  each_alone (next ∷ turns) runs number =
      each_alone turns (λ (k : ℕ). stepped_if s (next.number == k) next.teller (runs k)) number
      ∙ step_handed (next.number == number) next.teller (handed_to number turns) (runs number)

  pub each_made : InstancesAreFew → (turns : List Turn) (last : Teller) (number : ℕ) → All AlwaysTells (handed_to number turns) →
      Meets s (by_turns (handed_to number turns) last) (interleaved s turns (λ (k : ℕ). begun s) number) (run s (by_turns (handed_to number turns) last))
  each_made few turns last number tell =
      let v : Teller = by_turns (handed_to number turns) last in
      subst (λ (x : Next). Meets s v x (run s v)) (sym (each_alone turns (λ (k : ℕ). begun s) number)) (turns_kept few (handed_to number turns) last tell)

  pub each_ended : InstancesAreFew → (turns : List Turn) (last : Teller) (number : ℕ) → All AlwaysTells (handed_to number turns) →
      IsOver (interleaved s turns (λ (k : ℕ). begun s) number) →
      course_at (interleaved s turns (λ (k : ℕ). begun s) number) ≡ run s (by_turns (handed_to number turns) last)
  each_ended few turns last number tell is =
      let v : Teller = by_turns (handed_to number turns) last in
      over_course v (interleaved s turns (λ (k : ℕ). begun s) number) (run s v) is (each_made few turns last number tell)
