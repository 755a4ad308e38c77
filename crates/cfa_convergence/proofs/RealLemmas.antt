-- What a run on a world does, where none of its instances failed: its instances end as its acts do, and the world that it leaves is what the
-- changes of its actuations make of the first, but for the journal.
use Rattle.std.proofs.Common.{◌≡◌, ℕ, suc, Bool, true, false, List, [], ◌∷◌, ◌++◌, map, length, Option, Some, None, refl, sym, ap, subst, ◌∙◌, append-nil, arith}
use Rattle.std.specs.Prelude.{take}
use Rattle.cfa_outside.specs.declared.worlds.World.{World}
use Rattle.cfa_outside.specs.declared.sites.Change.{Change}
use Rattle.cfa_outside.specs.declared.sites.Entry.{Entry}
use Rattle.cfa_outside.specs.Sites.{after}
use Rattle.cfa_acts.specs.declared.acts.Reason.{Reason}
use Rattle.cfa_acts.specs.declared.acts.Reason.TheVariants.{Fault}
use Rattle.cfa_journal.specs.declared.records.Record.TheVariants as records
use Rattle.cfa_locks.specs.Locks.{key_of}
use Rattle.cfa_outcomes.specs.declared.outcomes.Outcome.{Outcome}
use Rattle.cfa_outcomes.specs.declared.outcomes.Outcome.TheVariants.{Kept, Repaired, Failed}
use Rattle.cfa_resolve.specs.declared.instances.Instance.{Instance}
use Rattle.cfa_resolve.specs.declared.instances.Work.{Work}
use Rattle.cfa_resolve.specs.declared.instances.Work.TheVariants.{Acts, Call, Report}
use Rattle.cfa_states.specs.History.{History, Begun, Set, Raised, Reached, Listed, Told}
use Rattle.cfa_states.specs.Tellers.{Actuated, actuated, after_all, acts_of, outcome_by}
use Rattle.cfa_agent.specs.Actuations.{Mark, mark_of, done_by, done_on, outcome_done, appended, changed, run_record, closing_record, entries_of}
use Rattle.cfa_agent.specs.Hosts.{SameHost}
use Rattle.cfa_agent.specs.lemmas.Hosts.{after_both, same_trans, same_recorded, same_run, same_changed}
use Rattle.cfa_agent.specs.Runs.{Start, actuations_in, has_record, done_behind, work_entries, log_in, world_in, done_next, outcome_by_work, tally_in}
use Rattle.cfa_convergence.specs.Contained.{kept_or_repaired, unfailing, with_acts, actuations}
use Rattle.cfa_convergence.specs.Lasting.{Trace, Becomes, unchanged, actuates}
use Rattle.cfa_convergence.specs.Told.{Telling, TellAlike, outcomes_by, IsToldBy}

-- ---- hosts

pub same_world : (w : World) → SameHost w w
same_world w = record { nodes = refl; services = refl }

-- ---- an instance that didn't fail

abbrev NoneFailed : Outcome → Type 0
NoneFailed Kept = Unit {0}
NoneFailed Repaired = Unit {0}
NoneFailed Failed = ⊥

by_failure : (changes : List Change) (failure : Option Reason) → NoneFailed (outcome_by changes failure) → failure ≡ None
by_failure changes None fine = refl
by_failure [] (Some reason) fine = absurd fine
by_failure (change ∷ changes) (Some reason) fine = absurd fine

unmarked : (planned : Actuated) (mark : Option Mark) → NoneFailed (outcome_done (done_by planned mark)) → (planned.failure ≡ None) × (done_by planned mark ≡ done_by planned None)
unmarked planned None fine = (by_failure planned.changes planned.failure fine, refl)
unmarked planned (Some mark) fine = absurd (failing (take mark.changes planned.changes) fine)
  where
    failing : (changes : List Change) → NoneFailed (outcome_by changes (Some Fault)) → ⊥
    failing [] f = f
    failing (c ∷ cs) f = f

-- what the entries of such an instance do to the host
entries_same : (moment number : ℕ) (i : Instance) (has : Bool) (changes : List Change) (failure : Option Reason) → failure ≡ None → (w : World) →
    SameHost (after (entries_of moment number i w (done_by (record { changes = changes; failure = failure }) None) has) w) (after_all changes w)
unfolding entries_of
entries_same moment number i has changes (Some reason) none w = absurd (cc)
entries_same moment number i has [] None none w = same_world w
entries_same moment number i has (c ∷ cs) None none w =
    let first = run_record moment has in
    let opening = records.Open number i.source (key_of i.text) in
    let closing = closing_record number (length (c ∷ cs)) None in
    let w1 : World = after first w in
    let w2 : World = after (appended opening ∷ []) w1 in
    let w3 : World = after (changed number w (c ∷ cs)) w2 in
    let same : after (first ++ appended opening ∷ (changed number w (c ∷ cs) ++ appended closing ∷ [])) w ≡ after (appended closing ∷ []) w3 =
    after_both first (appended opening ∷ (changed number w (c ∷ cs) ++ appended closing ∷ [])) w ∙ after_both (changed number w (c ∷ cs)) (appended closing ∷ []) w2 in
    subst (λ x. SameHost x (after_all (c ∷ cs) w)) (sym same)
    (same_trans (after (appended closing ∷ []) w3) w3 (after_all (c ∷ cs) w) (same_recorded closing w3)
    (same_changed number (c ∷ cs) w w2 (same_trans w2 w1 w (same_recorded opening w1) (same_run moment has w))))

-- ---- a run without failures

abbrev pub Unfailed : History → Type 0
Unfailed [] = Unit {0}
Unfailed (Told i [] ∷ h) = Unfailed h
Unfailed (Told i (o ∷ os) ∷ h) = NoneFailed o × Unfailed h
Unfailed (Begun path arguments ∷ h) = Unfailed h
Unfailed (Set path name datum ∷ h) = Unfailed h
Unfailed (Raised place class status source ∷ h) = Unfailed h
Unfailed (Reached home promise guard sets visits ∷ h) = Unfailed h
Unfailed (Listed i status ∷ h) = Unfailed h

pub tally_unfailed : (h : History) → (tally_in h).failed ≡ 0 → Unfailed h
tally_unfailed [] e = tt
tally_unfailed (Told i [] ∷ h) e = tally_unfailed h e
tally_unfailed (Told i (Kept ∷ os) ∷ h) e = (tt, tally_unfailed h e)
tally_unfailed (Told i (Repaired ∷ os) ∷ h) e = (tt, tally_unfailed h e)
tally_unfailed (Told i (Failed ∷ os) ∷ h) e = absurd (omega (arith, e))
tally_unfailed (Begun path arguments ∷ h) e = tally_unfailed h e
tally_unfailed (Set path name datum ∷ h) e = tally_unfailed h e
tally_unfailed (Raised place class status source ∷ h) e = tally_unfailed h e
tally_unfailed (Reached home promise guard sets visits ∷ h) e = tally_unfailed h e
tally_unfailed (Listed i status ∷ h) e = tally_unfailed h e

-- who tells a run that skips none
abbrev pub real_tells : Start → Telling
real_tells start = λ h i. outcome_by_work start (world_in start h) h i i.work ∷ []

abbrev repaired_by : Outcome → Bool
repaired_by Kept = false
repaired_by Repaired = true
repaired_by Failed = false

-- the same as a run in which none may fail
abbrev pub repairs_of : Start → History → Instance → Bool
repairs_of start h i = repaired_by (outcome_by_work start (world_in start h) h i i.work)

same_outcome : (o : Outcome) → NoneFailed o → o ≡ kept_or_repaired (repaired_by o)
same_outcome Kept fine = refl
same_outcome Repaired fine = refl
same_outcome Failed fine = absurd fine

module _ (start : Start) where
  real_outcomes : (h : History) (i : Instance) (w : Work) → i.work ≡ w → outcomes_by (real_tells start) h i w ≡ outcome_by_work start (world_in start h) h i w ∷ []
  real_outcomes h i (Acts acts) is = ap (λ v. outcome_by_work start (world_in start h) h i v ∷ []) is
  real_outcomes h i (Call name given) is = ap (λ v. outcome_by_work start (world_in start h) h i v ∷ []) is
  real_outcomes h i (Report content) is = refl

  -- what was told is how the work ends
  ended_so : (h : History) (i : Instance) (o : Outcome) (os : List Outcome) → o ∷ os ≡ outcomes_by (real_tells start) h i i.work → o ≡ outcome_by_work start (world_in start h) h i i.work
  ended_so h i o os e = let all : o ∷ os ≡ outcome_by_work start (world_in start h) h i i.work ∷ [] = e ∙ real_outcomes h i i.work refl in cc

  pub tells_alike : (h : History) → IsToldBy (real_tells start) h → Unfailed h → TellAlike (real_tells start) (unfailing (repairs_of start)) h
  tells_alike [] told fine = tt
  tells_alike (Told i [] ∷ h) told fine = let all : [] ≡ outcome_by_work start (world_in start h) h i i.work ∷ [] = told.0 ∙ real_outcomes h i i.work refl in absurd (cc)
  tells_alike (Told i (o ∷ os) ∷ h) told fine =
      let ended = ended_so h i o os told.0 in
      (ap (λ x. x ∷ []) (same_outcome (outcome_by_work start (world_in start h) h i i.work) (subst NoneFailed ended fine.0)), tells_alike h told.1 fine.1)
  tells_alike (Begun path arguments ∷ h) told fine = tells_alike h told fine
  tells_alike (Set path name datum ∷ h) told fine = tells_alike h told fine
  tells_alike (Raised place class status source ∷ h) told fine = tells_alike h told fine
  tells_alike (Reached home promise guard sets visits ∷ h) told fine = tells_alike h told fine
  tells_alike (Listed i status ∷ h) told fine = tells_alike h told fine

abbrev pub first_agent : List Instance → Trace
first_agent is = map (λ i. (0, i)) is

-- without locks
abbrev pub unlocked : Start → Start
unlocked start = record start { has_locks = false }

module _ (start : Start) where
  abbrev quiet : Start
  quiet = unlocked start

  acted_same : (h : History) (i : Instance) (o : Outcome) → o ≡ outcome_done (done_next quiet (world_in quiet h) h i) → NoneFailed o →
      ((actuated (acts_of i.work) (world_in quiet h)).failure ≡ None)
      × SameHost (after (log_in quiet h ++ (entries_of start.moment (suc (actuations_in h)) i (world_in quiet h) (done_behind quiet (log_in quiet h) (suc (actuations_in h)) i) (has_record (log_in quiet h)) ++ [])) start.world)
      (after_all (actuated (acts_of i.work) (world_in quiet h)).changes (world_in quiet h))
  unfolding done_on
  acted_same h i o ended fine =
      let planned : Actuated = actuated (acts_of i.work) (world_in quiet h) in
      let mark = mark_of start.marks (suc (actuations_in h)) in
      let plain = unmarked planned mark (subst NoneFailed ended fine) in
      let entries : List Entry = entries_of start.moment (suc (actuations_in h)) i (world_in quiet h) (done_by planned mark) (has_record (log_in quiet h)) in
      let same : after (log_in quiet h ++ (entries ++ [])) start.world ≡ after (entries_of start.moment (suc (actuations_in h)) i (world_in quiet h) (done_by planned None) (has_record (log_in quiet h))) (world_in quiet h) =
      after_both (log_in quiet h) (entries ++ []) start.world ∙ ap (λ es. after es (world_in quiet h)) (append-nil entries)
      ∙ ap (λ d. after (entries_of start.moment (suc (actuations_in h)) i (world_in quiet h) d (has_record (log_in quiet h))) (world_in quiet h)) plain.1 in (
        plain.0,
        subst (λ x. SameHost x (after_all planned.changes (world_in quiet h))) (sym same)
            (entries_same start.moment (suc (actuations_in h)) i (has_record (log_in quiet h)) planned.changes planned.failure plain.0 (world_in quiet h)),
      )

  -- the world that the run leaves
  pub run_becomes : (h : History) → IsToldBy (real_tells quiet) h → Unfailed h → Becomes start.world (first_agent (actuations h)) (world_in quiet h)
  run_becomes [] told fine = unchanged
  run_becomes (Told i [] ∷ h) told fine = run_becomes h told.1 fine
  run_becomes (Told i (o ∷ os) ∷ h) told fine = go (run_becomes h told.1 fine.1) i.work refl
    where
      nothing_more : after (log_in quiet h ++ ([] ++ [])) start.world ≡ world_in quiet h
      nothing_more = ap (λ es. after es start.world) (append-nil (log_in quiet h))

      go : Becomes start.world (first_agent (actuations h)) (world_in quiet h) → (w : Work) → i.work ≡ w →
          Becomes start.world (first_agent (with_acts w i (actuations h))) (after (log_in quiet h ++ (work_entries quiet (log_in quiet h) (suc (actuations_in h)) i w ++ [])) start.world)
      go before (Acts acts) is =
          let ended : o ≡ outcome_done (done_next quiet (world_in quiet h) h i) = ended_so quiet h i o os told.0 ∙ ap (outcome_by_work quiet (world_in quiet h) h i) is in
          let both = acted_same h i o ended fine.0 in
          actuates before both.0 both.1
      go before (Call name given) is = subst (λ x. Becomes start.world (first_agent (actuations h)) x) (sym nothing_more) before
      go before (Report content) is = subst (λ x. Becomes start.world (first_agent (actuations h)) x) (sym nothing_more) before
  run_becomes (Begun path arguments ∷ h) told fine = run_becomes h told fine
  run_becomes (Set path name datum ∷ h) told fine = run_becomes h told fine
  run_becomes (Raised place class status source ∷ h) told fine = run_becomes h told fine
  run_becomes (Reached home promise guard sets visits ∷ h) told fine = run_becomes h told fine
  run_becomes (Listed i status ∷ h) told fine = run_becomes h told fine
