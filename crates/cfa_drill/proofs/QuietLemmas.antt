-- Events with no actuation among them add nothing to a log, and nothing to the actuations of a history.
use Rattle.std.proofs.Common.{◌≡◌, ◌∙◌, ℕ, suc, ◌-◌, ◌≤◌, Bool, true, false, List, [], ◌∷◌, ◌++◌, length, take, Some, refl, sym, ap, arith, append-nil, append_assoc, length-append}
use Rattle.std.proofs.Math.Seq.{take-append_seam}
use Rattle.cfa_outside.specs.declared.sites.Entry.{Entry}
use Rattle.cfa_outcomes.specs.declared.outcomes.Outcome.{Outcome}
use Rattle.cfa_outcomes.specs.declared.outcomes.Outcome.TheVariants.{Kept, Repaired, Failed}
use Rattle.cfa_resolve.specs.declared.instances.Instance.{Instance}
use Rattle.cfa_resolve.specs.declared.instances.Work.{Work}
use Rattle.cfa_resolve.specs.declared.instances.Work.TheVariants.{Acts, Call, Report}
use Rattle.cfa_states.specs.History.{History, Event, Begun, Set, Raised, Reached, Listed, Told, everywhere}
use Rattle.cfa_states.specs.Passes.{told, raise_each, raise_lists, classes_for, raised_to, in_every_list}
use Rattle.cfa_statuses.specs.declared.levels.Status.{Status}
use Rattle.cfa_frames.specs.Steps.{has_acts, is_actuation, actuations_in as acted_in}
use Rattle.cfa_agent.specs.Locking.{lock_entries}
use Rattle.cfa_agent.specs.Runs.{Start, Counts, actuations_in, counted, tally_in}
use Rattle.cfa_agent.specs.Stepping.{events_since, instance_added, log_since, work_added}
use Rattle.cfa_convergence.specs.Contained.{actuations, with_acts}

-- ---- the events behind an earlier history

pub since_is : (base : History) (events : List Event) → events_since base (events ++ base) ≡ events
since_is base events =
    let counted : length (events ++ base) - length base ≡ length events = omega (arith, length-append events base) in
    ap (λ n. take n (events ++ base)) counted ∙ take-append_seam events base

-- ---- quiet events

abbrev pub Quiet : List Event → Type 0
Quiet [] = Unit {0}
Quiet (event ∷ events) = (is_actuation event ≡ false) × Quiet events

pub quiet_both : (events more : List Event) → Quiet events → Quiet more → Quiet (events ++ more)
quiet_both [] more first second = second
quiet_both (event ∷ events) more first second = (first.0, quiet_both events more first.1 second)

one_more_counts : (b : Bool) (n : ℕ) → n ≤ elim b [ true ↦ suc n | false ↦ n ]
one_more_counts true n = omega arith
one_more_counts false n = omega arith

counts_grow : (events : List Event) (h : History) → acted_in h ≤ acted_in (events ++ h)
counts_grow [] h = omega arith
counts_grow (event ∷ events) h =
    let less = counts_grow events h in
    let more = one_more_counts (is_actuation event) (acted_in (events ++ h)) in omega (arith, less, more)

pub quiet_since : (events : List Event) (h : History) → acted_in (events ++ h) ≡ acted_in h → Quiet events
quiet_since [] h e = tt
quiet_since (event ∷ events) h e = go (quiet_since events h) (counts_grow events h) (is_actuation event) refl e
  where
    go : (acted_in (events ++ h) ≡ acted_in h → Quiet events) → acted_in h ≤ acted_in (events ++ h) → (b : Bool) → is_actuation event ≡ b →
        ◌≡◌ {A = ℕ} (elim b [ true ↦ suc (acted_in (events ++ h)) | false ↦ acted_in (events ++ h) ]) (acted_in h) → (is_actuation event ≡ false) × Quiet events
    go later less true is e = absurd (omega (arith, less, e))
    go later less false is e = (is, later e)

without_acts : (w : Work) (i : Instance) (others : List Instance) → has_acts w ≡ false → with_acts w i others ≡ others
without_acts (Acts acts) i others e = absurd (cc)
without_acts (Call name given) i others e = refl
without_acts (Report content) i others e = refl

pub quiet_actuations : (events : List Event) (h : History) → Quiet events → actuations (events ++ h) ≡ actuations h
quiet_actuations [] h quiet = refl
quiet_actuations (Told i [] ∷ events) h quiet = quiet_actuations events h quiet.1
quiet_actuations (Told i (o ∷ os) ∷ events) h quiet = without_acts i.work i (actuations (events ++ h)) quiet.0 ∙ quiet_actuations events h quiet.1
quiet_actuations (Begun path given ∷ events) h quiet = quiet_actuations events h quiet.1
quiet_actuations (Set path name datum ∷ events) h quiet = quiet_actuations events h quiet.1
quiet_actuations (Raised place class status source ∷ events) h quiet = quiet_actuations events h quiet.1
quiet_actuations (Reached home promise guard sets visits ∷ events) h quiet = quiet_actuations events h quiet.1
quiet_actuations (Listed i status ∷ events) h quiet = quiet_actuations events h quiet.1

module _ (s : Start) (unlocked : s.has_locks ≡ false) (base : History) (had : Bool) where
  no_lock : (i : Instance) → lock_entries s.moment s.has_locks i ≡ []
  no_lock i = ap (λ b. lock_entries s.moment b i) unlocked

  work_alone : (log : List Entry) (n : ℕ) (i : Instance) → instance_added s base had log n i ≡ work_added s base had log n i i.work
  work_alone log n i = ap (λ entries. work_added s base had log n i i.work ++ entries) (no_lock i) ∙ append-nil (work_added s base had log n i i.work)

  no_work : (log : List Entry) (n : ℕ) (i : Instance) (w : Work) → has_acts w ≡ false → work_added s base had log n i w ≡ []
  no_work log n i (Acts acts) e = absurd (cc)
  no_work log n i (Call name given) e = refl
  no_work log n i (Report content) e = refl

  nothing_added : (log : List Entry) (n : ℕ) (i : Instance) → has_acts i.work ≡ false → instance_added s base had log n i ≡ []
  nothing_added log n i e = work_alone log n i ∙ no_work log n i i.work e

  told_nothing : (log : List Entry) (n : ℕ) (i : Instance) → has_acts i.work ≡ false → log ++ instance_added s base had log n i ≡ log
  told_nothing log n i e = ap (λ entries. log ++ entries) (nothing_added log n i e) ∙ append-nil log

  log_quiet : (events more : List Event) → Quiet events → log_since s base had (events ++ more) ≡ log_since s base had more
  log_quiet [] more quiet = refl
  log_quiet (Told i [] ∷ events) more quiet = log_quiet events more quiet.1
  log_quiet (Told i (o ∷ os) ∷ events) more quiet = told_nothing (log_since s base had (events ++ more)) _ i quiet.0 ∙ log_quiet events more quiet.1
  log_quiet (Begun path given ∷ events) more quiet = log_quiet events more quiet.1
  log_quiet (Set path name datum ∷ events) more quiet = log_quiet events more quiet.1
  log_quiet (Raised place class status source ∷ events) more quiet = log_quiet events more quiet.1
  log_quiet (Reached home promise guard sets visits ∷ events) more quiet = log_quiet events more quiet.1
  log_quiet (Listed i status ∷ events) more quiet = log_quiet events more quiet.1

  pub quiet_log : (events : List Event) → Quiet events → log_since s base had events ≡ []
  quiet_log events quiet = ap (log_since s base had) (sym (append-nil events)) ∙ log_quiet events [] quiet

  -- an instance that was told between quiet events
  pub log_told : (raised before : List Event) (i : Instance) (o : Outcome) → Quiet raised → Quiet before →
      log_since s base had (raised ++ (Told i (o ∷ []) ∷ before)) ≡ work_added s base had [] (suc (actuations_in (before ++ base))) i i.work
  log_told raised before i o quiet quiet' =
      log_quiet raised (Told i (o ∷ []) ∷ before) quiet
      ∙ ap (λ log. log ++ instance_added s base had log (suc (actuations_in (before ++ base))) i) (quiet_log before quiet')
      ∙ work_alone [] (suc (actuations_in (before ++ base))) i

-- ---- what is told

-- classes are raised behind it
module _ (i : Instance) (os : List Outcome) (status : Status) where
  each_is : (classes : List (List ℕ)) (h : History) → (events : List Event) × (raise_each i os status classes h ≡ events ++ h) × Quiet events
  each_is [] h = ([], refl, tt)
  each_is (class ∷ classes) h =
      let raised : Event = Raised everywhere class (raised_to status (in_every_list i os class)) (Some i.source) in
      let rest = each_is classes (raised ∷ h) in
      (rest.0 ++ (raised ∷ []), rest.1 ∙ sym (append_assoc rest.0 (raised ∷ []) h), quiet_both rest.0 (raised ∷ []) rest.2 (refl, tt))

  lists_are : (outcomes : List Outcome) (h : History) → (events : List Event) × (raise_lists i os outcomes status h ≡ events ++ h) × Quiet events
  lists_are [] h = ([], refl, tt)
  lists_are (outcome ∷ outcomes) h =
      let each = each_is (classes_for i outcome) h in
      let rest = lists_are outcomes (raise_each i os status (classes_for i outcome) h) in (
        rest.0 ++ each.0,
        rest.1 ∙ ap (λ k. rest.0 ++ k) each.1 ∙ sym (append_assoc rest.0 each.0 h),
        quiet_both rest.0 each.0 rest.2 each.2,
      )

pub told_is : (i : Instance) (os : List Outcome) (status : Status) (h : History) → (events : List Event) × (told i os status h ≡ events ++ (Told i os ∷ h)) × Quiet events
unfolding told
told_is i os status h = lists_are i os status os (Told i os ∷ h)

-- ---- failures

counts_failed : (os : List Outcome) (c : Counts) → c.failed ≤ (counted os c).failed
counts_failed [] c = omega arith
counts_failed (Kept ∷ os) c = omega arith
counts_failed (Repaired ∷ os) c = omega arith
counts_failed (Failed ∷ os) c = omega arith

failed_grow : (events : List Event) (h : History) → (tally_in h).failed ≤ (tally_in (events ++ h)).failed
failed_grow [] h = omega arith
failed_grow (Told i os ∷ events) h =
    let less = failed_grow events h in
    let more = counts_failed os (tally_in (events ++ h)) in omega (arith, less, more)
failed_grow (Begun path given ∷ events) h = failed_grow events h
failed_grow (Set path name datum ∷ events) h = failed_grow events h
failed_grow (Raised place class status source ∷ events) h = failed_grow events h
failed_grow (Reached home promise guard sets visits ∷ events) h = failed_grow events h
failed_grow (Listed i status ∷ events) h = failed_grow events h

-- where nothing has failed, nothing had before
pub none_before : (events : List Event) (h : History) → (tally_in (events ++ h)).failed ≡ 0 → (tally_in h).failed ≡ 0
none_before events h none = let less = failed_grow events h in omega (arith, less, none)

none_failed : (os : List Outcome) (o : Outcome) (c : Counts) → os ≡ o ∷ [] → (counted os c).failed ≡ 0 → (o ≡ Failed → ⊥)
none_failed [] o c e none is = absurd (cc)
none_failed (Kept ∷ os) o c e none is = absurd (cc)
none_failed (Repaired ∷ os) o c e none is = absurd (cc)
none_failed (Failed ∷ os) o c e none is = absurd (omega (arith, none))

-- nor the instance that was told behind it
pub told_unfailed : (events before : List Event) (i : Instance) (o : Outcome) → (tally_in (events ++ (Told i (o ∷ []) ∷ before))).failed ≡ 0 → (o ≡ Failed → ⊥)
told_unfailed events before i o none =
    none_failed (o ∷ []) o (tally_in before) refl (none_before events (Told i (o ∷ []) ∷ before) none)
