-- Where a policy is free of conflicts, a run without a failure actuates each live instance, leaves its posts, and settles.
use Rattle.std.proofs.Common.{◌≡◌, ℕ, zero, suc, Bool, true, false, List, [], ◌∷◌, refl, sym, ap, subst}
use Rattle.std.specs.List.{AllByRecursion as Each}
use Rattle.cfa_outside.specs.Worlds.{HasParents}
use Rattle.cfa_statuses.specs.declared.levels.Status.{Status}
use Rattle.cfa_statuses.specs.declared.levels.Status.TheVariants.{No, Maybe, Yes}
use Rattle.cfa_statuses.specs.Status.{greater}
use Rattle.cfa_resolve.specs.declared.instances.Instance.{Instance}
use Rattle.cfa_states.specs.History.{History, Begun, Set, Raised, Reached, Listed, Told, mark_in}
use Rattle.cfa_states.specs.Passes.{goes, run}
use Rattle.cfa_states.specs.Tellers.{acts_of}
use Rattle.cfa_states.specs.Views.{Setting}
use Rattle.cfa_agent.specs.Runs.{Start, real, world_in, run_of}
use Rattle.cfa_convergence.specs.Conflicts.{was_visited, is_same, IsLive, IsAfter, first_status}
use Rattle.cfa_convergence.specs.Contained.{unfailing, actuations, LiesWithin, UnfailingRunsAreContained}
use Rattle.cfa_laws.specs.Keys.{IsKeyed, InstancesAreKeyed}
use Rattle.cfa_convergence.specs.Lasting.{PostsHold, by_agent, IsAmong, Follow, PostsLast}
use Rattle.cfa_convergence.specs.Policies.{HasKnown}
use Rattle.cfa_convergence.specs.Reruns.{RerunsAreKept}
use Rattle.cfa_convergence.specs.Settling.{IsFreeOfConflicts, LivePostsHold, FreeRunsSettle}
use Rattle.cfa_convergence.specs.Told.{teller_of, RunsAreDetermined, RunsAreTold}
use Rattle.cfa_convergence.proofs.KnownLemmas.{runs_known, actuations_keyed}
use Rattle.cfa_convergence.proofs.RealLemmas.{Unfailed, tally_unfailed, real_tells, repairs_of, tells_alike, first_agent, unlocked, run_becomes}

greater_yes : (s m : Status) → m ≡ Yes → greater s m ≡ Yes
greater_yes No m e = e
greater_yes Maybe m e = ap (greater Maybe) e
greater_yes Yes m e = refl

-- what first comes for sure is marked so
sure_marked : (h : History) (i : Instance) → first_status h i ≡ Yes → mark_in h i.path i.text ≡ Yes
sure_marked [] i e = absurd (cc)
sure_marked (Listed j status ∷ h) i e = go (sure_marked h i) (was_visited h i) (is_same i j) e
  where
    go : (first_status h i ≡ Yes → mark_in h i.path i.text ≡ Yes) → (b c : Bool) →
        ◌≡◌ {A = Status} (elim b [ true ↦ first_status h i | false ↦ elim c [ true ↦ status | false ↦ No ] ]) Yes →
        ◌≡◌ {A = Status} (elim c [ true ↦ greater status (mark_in h i.path i.text) | false ↦ mark_in h i.path i.text ]) Yes
    go before true true f = greater_yes status (mark_in h i.path i.text) (before f)
    go before true false f = before f
    go before false true f = ap (λ x. greater x (mark_in h i.path i.text)) f
    go before false false f = absurd (cc)
sure_marked (Begun path given ∷ h) i e = sure_marked h i e
sure_marked (Set path name datum ∷ h) i e = sure_marked h i e
sure_marked (Raised place class status source ∷ h) i e = sure_marked h i e
sure_marked (Reached home promise guard sets visits ∷ h) i e = sure_marked h i e
sure_marked (Told j outcomes ∷ h) i e = sure_marked h i e

abbrev is_first : ℕ → Bool
is_first zero = true
is_first (suc k) = false

first_is : (k : ℕ) → is_first k ≡ true → k ≡ 0
first_is zero e = refl
first_is (suc k) e = absurd (cc)

-- one agent's trace is its own
own_list : (is : List Instance) → by_agent 0 (first_agent is) ≡ is
own_list [] = refl
own_list (i ∷ is) = ap (λ js. i ∷ js) (own_list is)

own_keyed : (is : List Instance) → Each IsKeyed is → Each (λ (step : ℕ × Instance). (is_first step.0 ≡ true) × IsKeyed step.1) (first_agent is)
own_keyed [] keyed = tt
own_keyed (i ∷ is) keyed = ((refl, keyed.0), own_keyed is keyed.1)

module _ (told : RunsAreTold) (determined : RunsAreDetermined) (contained : UnfailingRunsAreContained) (last : PostsLast) (keyed : InstancesAreKeyed) where
  -- live instances were actuated, and their posts hold in the end
  unlocked_posts : (s : Setting) (start : Start) (kept walk h : History) → HasKnown s.policy → IsFreeOfConflicts s kept walk → HasParents start.world.nodes →
      run s (teller_of (real_tells (unlocked start))) ≡ goes h → Unfailed h → (i : Instance) → IsKeyed i → IsLive kept i →
      IsAmong i (actuations h) × PostsHold (world_in (unlocked start) h) (acts_of i.work)
  unlocked_posts s start kept walk h known free valid is fine i key live =
      let heard = told s (real_tells (unlocked start)) h is in
      let unfailed = determined s (real_tells (unlocked start)) (unfailing (repairs_of (unlocked start))) h is (tells_alike (unlocked start) h heard fine) in
      let placed : LiesWithin h walk = contained s (repairs_of (unlocked start)) h walk known unfailed free.is_open free.settled in
      let acted : IsAmong i (actuations h) = placed.sure i key live.acts (sure_marked walk i (free.free.sure i key live)) in (
        acted,
        last kept walk is_first 0 start.world (world_in (unlocked start) h) (first_agent (actuations h)) free.free refl valid (run_becomes start h heard fine)
            (own_keyed (actuations h) (actuations_keyed h (runs_known s (real_tells (unlocked start)) keyed known h is)))
            (λ k at. let e = first_is k at in subst (λ n. Follow (IsAfter walk) (by_agent n (first_agent (actuations h)))) (sym e) (subst (Follow (IsAfter walk)) (sym (own_list (actuations h))) placed.order))
            i key live
            (λ k at. let e = first_is k at in subst (λ n. IsAmong i (by_agent n (first_agent (actuations h)))) (sym e) (subst (IsAmong i) (sym (own_list (actuations h))) acted)),
      )

pub live_posts : RunsAreTold → RunsAreDetermined → UnfailingRunsAreContained → PostsLast → InstancesAreKeyed → LivePostsHold
unfolding run_of
live_posts told determined contained last keyed s start kept walk h known free valid no_locks is none i key live =
    let same : start ≡ unlocked start = ap (λ b. record start { has_locks = b }) no_locks in
    subst (λ x. IsAmong i (actuations h) × PostsHold (world_in x h) (acts_of i.work)) (sym same)
    (unlocked_posts told determined contained last keyed s start kept walk h known free valid (subst (λ x. run s (real x) ≡ goes h) same is) (tally_unfailed h none) i key live)

-- the posts of what is live hold, so that a rerun is the walk in which all is kept
pub free_settle : LivePostsHold → RerunsAreKept → FreeRunsSettle
free_settle posts reruns s start kept walk h known free valid no_locks is none = λ moment.
    (reruns s kept (world_in start h) moment known free.is_kept (λ i key live. (posts s start kept walk h known free valid no_locks is none i key live).1)).1
