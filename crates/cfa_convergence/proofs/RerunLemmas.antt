-- A run in which every post holds is the walk in which all is kept, and adds nothing to the log.
use Rattle.std.proofs.Common.{◌≡◌, ℕ, suc, Bool, true, false, List, [], ◌∷◌, ◌++◌, None, refl, sym, ap, ◌∙◌, append-nil}
use Rattle.std.specs.Str.{bytes_eq}
use Rattle.cfa_outside.specs.declared.worlds.World.{World}
use Rattle.cfa_outside.specs.Sites.{after}
use Rattle.cfa_acts.specs.Laws.{KeptWherePostHolds}
use Rattle.cfa_outcomes.specs.declared.outcomes.Outcome.{Outcome}
use Rattle.cfa_outcomes.specs.declared.outcomes.Outcome.TheVariants.{Kept}
use Rattle.cfa_resolve.specs.declared.instances.Instance.{Instance}
use Rattle.cfa_resolve.specs.declared.instances.Work.{Work}
use Rattle.cfa_resolve.specs.declared.instances.Work.TheVariants.{Acts, Call, Report}
use Rattle.cfa_states.specs.History.{History, Begun, Set, Raised, Reached, Listed, Told}
use Rattle.cfa_states.specs.Passes.{goes, run}
use Rattle.cfa_states.specs.Tellers.{no_more, actuated, acts_of, worse, worst, worst_in, inner_path}
use Rattle.cfa_agent.specs.Actuations.{done_by, done_on, outcome_done, entries_of}
use Rattle.cfa_agent.specs.Runs.{Start, actuations_in, has_record, work_entries, log_in, world_in, outcome_by_work, real, history_of, run_of, log_of, quiet_start}
use Rattle.cfa_convergence.specs.Conflicts.{HasActs, was_visited, is_same}
use Rattle.cfa_convergence.specs.Lasting.{PostsHold}
use Rattle.cfa_convergence.specs.Reruns.{RerunsAreKept}
use Rattle.cfa_convergence.specs.Told.{Telling, TellAlike, outcomes_by, IsToldBy, RunsAreDetermined, RunsAreTold}
use Rattle.cfa_laws.specs.Keys.{IsKeyed, InstancesAreKeyed}
use Rattle.cfa_convergence.proofs.ActuationLemmas.{kept_acts}
use Rattle.cfa_convergence.proofs.KnownLemmas.{AreKnown, runs_known}
use Rattle.cfa_convergence.proofs.OrderLemmas.{visited_more}
use Rattle.cfa_convergence.proofs.RealLemmas.{real_tells}

-- every instance is kept
abbrev pub kept_tells : Telling
kept_tells = λ h i. Kept ∷ []

kept_told : (h : History) (i : Instance) (w : Work) → outcomes_by kept_tells h i w ≡ Kept ∷ []
kept_told h i (Acts acts) = refl
kept_told h i (Call name given) = refl
kept_told h i (Report content) = refl

-- what was told is that all was kept
worst_kept : (h : History) → IsToldBy kept_tells h → (path : List ℕ) → worst_in h path ≡ Kept
worst_kept [] told path = refl
worst_kept (Told i os ∷ h) told path = go (bytes_eq i.path path) (worst_kept h told.1 path)
  where
    all : os ≡ Kept ∷ []
    all = told.0 ∙ kept_told h i i.work

    go : (b : Bool) → worst_in h path ≡ Kept → ◌≡◌ {A = Outcome} (elim b [ true ↦ worse (worst os) (worst_in h path) | false ↦ worst_in h path ]) Kept
    go true before = ap (λ x. worse (worst x) (worst_in h path)) all ∙ before
    go false before = before
worst_kept (Begun p given ∷ h) told path = go (bytes_eq p path) (worst_kept h told path)
  where
    go : (b : Bool) → worst_in h path ≡ Kept → ◌≡◌ {A = Outcome} (elim b [ true ↦ Kept | false ↦ worst_in h path ]) Kept
    go true before = refl
    go false before = before
worst_kept (Set p name datum ∷ h) told path = worst_kept h told path
worst_kept (Raised place class status source ∷ h) told path = worst_kept h told path
worst_kept (Reached home promise guard sets visits ∷ h) told path = worst_kept h told path
worst_kept (Listed i status ∷ h) told path = worst_kept h told path

module _ (keeps : KeptWherePostHolds) (world : World) (moment : ℕ) (kept : History)
    (posts : (i : Instance) → IsKeyed i → HasActs i.work → was_visited kept i ≡ true → PostsHold world (acts_of i.work)) where
  abbrev again : Start
  again = quiet_start world moment

  -- an instance whose posts hold does nothing
  done_nothing : (number : ℕ) (i : Instance) (w : World) → w ≡ world → PostsHold world (acts_of i.work) → done_on [] number i w ≡ done_by no_more None
  unfolding done_on
  done_nothing number i w same p = ap (λ v. done_by (actuated (acts_of i.work) v) None) same ∙ ap (λ d. done_by d None) (kept_acts keeps (acts_of i.work) world p)

  ends_kept : (h : History) (i : Instance) (w : Work) → i.work ≡ w → log_in again h ≡ [] → IsToldBy kept_tells h → (HasActs w → PostsHold world (acts_of i.work)) →
      outcome_by_work again (world_in again h) h i w ≡ Kept
  ends_kept h i (Acts acts) is none told p = ap outcome_done (done_nothing (suc (actuations_in h)) i (world_in again h) (ap (λ es. after es world) none) (p tt))
  ends_kept h i (Call name given) is none told p = worst_kept h told (inner_path i)
  ends_kept h i (Report content) is none told p = refl

  nothing_written : (number : ℕ) (i : Instance) (w : World) (has : Bool) → entries_of moment number i w (done_by no_more None) has ≡ []
  unfolding entries_of
  nothing_written number i w has = refl

  writes_nothing : (h : History) (i : Instance) (w : Work) → log_in again h ≡ [] → (HasActs w → PostsHold world (acts_of i.work)) →
      work_entries again (log_in again h) (suc (actuations_in h)) i w ≡ []
  writes_nothing h i (Acts acts) none p =
      ap (λ d. entries_of moment (suc (actuations_in h)) i (world_in again h) d (has_record (log_in again h))) (done_nothing (suc (actuations_in h)) i (world_in again h) (ap (λ es. after es world) none) (p tt))
      ∙ nothing_written (suc (actuations_in h)) i (world_in again h) (has_record (log_in again h))
  writes_nothing h i (Call name given) none p = refl
  writes_nothing h i (Report content) none p = refl

  -- both tell that all is kept, and nothing is written
  rerun_alike : (h : History) → ((i : Instance) → was_visited h i ≡ true → was_visited kept i ≡ true) → IsToldBy kept_tells h → AreKnown h →
      TellAlike kept_tells (real_tells again) h × (log_in again h ≡ [])
  rerun_alike [] up told known = (tt, refl)
  rerun_alike (Told i [] ∷ h) up told known = let all : [] ≡ Kept ∷ [] = told.0 ∙ kept_told h i i.work in absurd (cc)
  rerun_alike (Told i (o ∷ os) ∷ h) up told known =
      let rest = rerun_alike h up told.1 known.2 in
      let p : HasActs i.work → PostsHold world (acts_of i.work) = λ has. posts i known.0 has (up i (known.1 has)) in (
        (ap (λ x. x ∷ []) (sym (ends_kept h i i.work refl rest.1 told.1 p)), rest.0),
        ap (λ es. log_in again h ++ (es ++ [])) (writes_nothing h i i.work rest.1 p) ∙ append-nil (log_in again h) ∙ rest.1,
      )
  rerun_alike (Listed i status ∷ h) up told known = rerun_alike h (λ j e. up j (visited_more (is_same j i) e)) told known.2
  rerun_alike (Begun path given ∷ h) up told known = rerun_alike h up told known
  rerun_alike (Set path name datum ∷ h) up told known = rerun_alike h up told known
  rerun_alike (Raised place class status source ∷ h) up told known = rerun_alike h up told known
  rerun_alike (Reached home promise guard sets visits ∷ h) up told known = rerun_alike h up told known

-- the rerun is the walk in which all is kept
pub reruns_kept : KeptWherePostHolds → RunsAreTold → RunsAreDetermined → InstancesAreKeyed → RerunsAreKept
unfolding run_of log_of
reruns_kept keeps told determined keyed s kept world moment known is_kept posts =
    let start : Start = quiet_start world moment in
    let alike = rerun_alike keeps world moment kept (λ i key has visited. posts i key (record { acts = has; visited = visited })) kept (λ i e. e)
    (told s kept_tells kept is_kept) (runs_known s kept_tells keyed known kept is_kept) in
    let same : run s (real start) ≡ goes kept = determined s kept_tells (real_tells start) kept is_kept alike.0 in
    (same, ap (λ c. log_in start (history_of c)) same ∙ alike.1)
