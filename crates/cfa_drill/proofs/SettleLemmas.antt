-- Where the walks of a policy are in no conflict, agents that all end, with none of their promises failed, leave a world on which it settles.
use Rattle.std.proofs.Common.{◌≡◌, ◌∙◌, ◌⊎◌, ◌<◌, ◌≤◌, inl, inr, ℕ, zero, suc, Bool, true, false, List, [], ◌∷◌, refl, sym, ap, subst, eq-eqb, arith}
use Rattle.std.specs.Prelude.{◌==◌, nat_le, ◌&&◌}
use Rattle.std.specs.List.{AllByRecursion as Each}
use Rattle.std.proofs.lemmas.Bool.Decides.{leb_tells}
use Rattle.cfa_conflict.specs.declared.verdicts.Verdict.TheVariants.{Accepted}
use Rattle.cfa_outside.specs.declared.worlds.World.{World}
use Rattle.cfa_outside.specs.Sites.{after}
use Rattle.cfa_outside.specs.Worlds.{HasParents}
use Rattle.cfa_tree.specs.Tree.{PolicyTree}
use Rattle.cfa_statuses.specs.declared.levels.Status.{Status}
use Rattle.cfa_statuses.specs.declared.levels.Status.TheVariants.{No, Maybe, Yes}
use Rattle.cfa_statuses.specs.Status.{greater}
use Rattle.cfa_outcomes.specs.declared.outcomes.Outcome.{Outcome}
use Rattle.cfa_outcomes.specs.declared.outcomes.Outcome.TheVariants.{Kept, Repaired, Failed}
use Rattle.cfa_resolve.specs.declared.instances.Instance.{Instance}
use Rattle.cfa_resolve.specs.declared.instances.Work.{Work}
use Rattle.cfa_resolve.specs.declared.instances.Work.TheVariants.{Acts, Call, Report}
use Rattle.cfa_states.specs.History.{History, Begun, Set, Raised, Reached, Listed, Told, mark_in}
use Rattle.cfa_states.specs.Passes.{goes, run}
use Rattle.cfa_states.specs.Tellers.{acts_of}
use Rattle.cfa_states.specs.Views.{Setting}
use Rattle.cfa_agent.specs.Agents.{history_at}
use Rattle.cfa_agent.specs.Runs.{log_of, quiet_start, tally_in}
use Rattle.cfa_laws.specs.Keys.{IsKeyed}
use Rattle.cfa_convergence.specs.Conflicts.{was_visited, is_same, IsLive, IsAfter, first_status}
use Rattle.cfa_convergence.specs.Contained.{actuations, kept_or_repaired, unfailing, LiesWithin, UnfailingRunsAreContained}
use Rattle.cfa_convergence.specs.Keyed.{ActuationsAreKeyed}
use Rattle.cfa_convergence.specs.Lasting.{Trace, PostsHold, by_agent, IsAmong, Follow, PostsLast}
use Rattle.cfa_convergence.specs.Policies.{HasKnown}
use Rattle.cfa_convergence.specs.Reruns.{RerunsAreKept}
use Rattle.cfa_convergence.specs.Settling.{IsFreeOfConflicts}
use Rattle.cfa_convergence.specs.Told.{Telling, TellAlike, IsToldBy, outcomes_by, teller_of, RunsAreDetermined, RunsAreTold}
use Rattle.cfa_convergence.specs.Verdicts.{AcceptedAreFree}
use Rattle.cfa_drill.specs.Ends.{AllEnd, is_number}
use Rattle.cfa_drill.specs.Interleaving.{Together, TurnMark, interleave}
use Rattle.cfa_drill.specs.Settling.{FreeAgentsSettle, AcceptedAgentsSettle}
use Rattle.cfa_drill.specs.Traces.{HasRun, IsTraced, StepsAreInterleaved, TellsOne}
use Rattle.cfa_drill.proofs.QuietLemmas.{none_before}

-- ---- what comes for sure

greater_yes : (s m : Status) → m ≡ Yes → greater s m ≡ Yes
greater_yes No m e = e
greater_yes Maybe m e = ap (greater Maybe) e
greater_yes Yes m e = refl

-- what first comes for sure is marked so
sure_marked : (h : History) (i : Instance) → first_status h i ≡ Yes → mark_in h i.path i.text ≡ Yes
sure_marked [] i e = absurd (cc)
sure_marked (Listed j status ∷ h) i e = go (sure_marked h i) (was_visited h i) (is_same i j) e
  where
    go : (first_status h i ≡ Yes → mark_in h i.path i.text ≡ Yes) → (b c : Bool) →
        ◌≡◌ {A = Status} (elim b [ true ↦ first_status h i | false ↦ elim c [ true ↦ status | false ↦ No ] ]) Yes →
        ◌≡◌ {A = Status} (elim c [ true ↦ greater status (mark_in h i.path i.text) | false ↦ mark_in h i.path i.text ]) Yes
    go before true true f = greater_yes status (mark_in h i.path i.text) (before f)
    go before true false f = before f
    go before false true f = ap (λ x. greater x (mark_in h i.path i.text)) f
    go before false false f = absurd (cc)
sure_marked (Begun path given ∷ h) i e = sure_marked h i e
sure_marked (Set path name datum ∷ h) i e = sure_marked h i e
sure_marked (Raised place class status source ∷ h) i e = sure_marked h i e
sure_marked (Reached home promise guard sets visits ∷ h) i e = sure_marked h i e
sure_marked (Told j outcomes ∷ h) i e = sure_marked h i e

-- ---- a run in which none failed

abbrev first_told : List Outcome → Outcome
first_told [] = Kept
first_told (outcome ∷ others) = outcome

abbrev repaired_by : Outcome → Bool
repaired_by Kept = false
repaired_by Repaired = true
repaired_by Failed = false

-- the same as a run in which none may fail
abbrev repairs_by : Telling → History → Instance → Bool
repairs_by tells h i = repaired_by (first_told (tells h i))

unfailed : (os : List Outcome) (o : Outcome) → os ≡ o ∷ [] → (o ≡ Failed → ⊥) → os ≡ kept_or_repaired (repaired_by (first_told os)) ∷ []
unfailed [] o e fine = absurd (cc)
unfailed (Kept ∷ os) o e fine = cc
unfailed (Repaired ∷ os) o e fine = cc
unfailed (Failed ∷ os) o e fine = absurd (fine (cc))

told_fine : (i : Instance) (os : List Outcome) (h : History) (o : Outcome) → os ≡ o ∷ [] → (tally_in (Told i os ∷ h)).failed ≡ 0 → (o ≡ Failed → ⊥)
told_fine i [] h o e none is = absurd (cc)
told_fine i (Kept ∷ os) h o e none is = absurd (cc)
told_fine i (Repaired ∷ os) h o e none is = absurd (cc)
told_fine i (Failed ∷ os) h o e none is = absurd (omega (arith, none))

module _ (tells : Telling) (one : TellsOne tells) where
  -- what was told of work that isn't a report is what the teller tells
  as_told : (h : History) (i : Instance) (os : List Outcome) (w : Work) → i.work ≡ w → os ≡ outcomes_by tells h i w → os ≡ tells h i
  as_told h i os (Acts acts) is e = e
  as_told h i os (Call name given) is e = e
  as_told h i os (Report content) is e = e ∙ sym (one.reports h i content is)

  tells_alike : (h : History) → IsToldBy tells h → (tally_in h).failed ≡ 0 → TellAlike tells (unfailing (repairs_by tells)) h
  tells_alike [] told none = tt
  tells_alike (Told i os ∷ h) told none =
      let same : os ≡ tells h i = as_told h i os i.work refl told.0 in
      let o = one.one h i in (
        unfailed (tells h i) o.0 o.1 (told_fine i os h o.0 (same ∙ o.1) none),
        tells_alike h told.1 (none_before (Told i os ∷ []) h none),
      )
  tells_alike (Begun path given ∷ h) told none = tells_alike h told none
  tells_alike (Set path name datum ∷ h) told none = tells_alike h told none
  tells_alike (Raised place class status source ∷ h) told none = tells_alike h told none
  tells_alike (Reached home promise guard sets visits ∷ h) told none = tells_alike h told none
  tells_alike (Listed i status ∷ h) told none = tells_alike h told none

-- ---- traces

-- what holds of each agent's own actuations holds of the trace
own_each : (P : Instance → Type 0) (agent : ℕ) (i : Instance) (trace : Trace) → Each P (by_agent agent ((agent, i) ∷ trace)) → P i
own_each P agent i trace all =
    (subst (λ b. Each P (elim b [ true ↦ i ∷ by_agent agent trace | false ↦ by_agent agent trace ])) (eq-eqb agent agent refl) all).0

later_each : (P : Instance → Type 0) (number : ℕ) (step : ℕ × Instance) (trace : Trace) → Each P (by_agent number (step ∷ trace)) → Each P (by_agent number trace)
later_each P number step trace = go (step.0 == number)
  where
    go : (b : Bool) → Each P (elim b [ true ↦ step.1 ∷ by_agent number trace | false ↦ by_agent number trace ]) → Each P (by_agent number trace)
    go true all = all.1
    go false all = all

each_of : (P : Instance → Type 0) (is_agent : ℕ → Bool) (trace : Trace) → Each (λ (step : ℕ × Instance). is_agent step.0 ≡ true) trace →
    ((number : ℕ) → is_agent number ≡ true → Each P (by_agent number trace)) → Each (λ (step : ℕ × Instance). (is_agent step.0 ≡ true) × P step.1) trace
each_of P is_agent [] are all = tt
each_of P is_agent (step ∷ trace) are all =
    ((are.0, own_each P step.0 step.1 trace (all step.0 are.0)), each_of P is_agent trace are.1 (λ number is. later_each P number step trace (all number is)))

first_number : (agents : ℕ) → 0 < agents → is_number agents 1 ≡ true
first_number agents some = go (leb_tells 1 agents)
  where
    go : ((nat_le 1 agents ≡ true) × (1 ≤ agents)) ⊎ ((nat_le 1 agents ≡ false) × (agents < 1)) → is_number agents 1 ≡ true
    go (inl most) = most.0
    go (inr less) = let few = less.1 in absurd (omega (arith, few, some))

-- ---- settled

-- the laws of convergence
pub record SettleLaws : Type 0 where
  pub traced : StepsAreInterleaved
  pub told : RunsAreTold
  pub determined : RunsAreDetermined
  pub contained : UnfailingRunsAreContained
  pub keyed : ActuationsAreKeyed
  pub last : PostsLast
  pub reruns : RerunsAreKept

module _ (laws : SettleLaws) (s : Setting) (kept walk : History) (known : HasKnown s.policy) (free : IsFreeOfConflicts s kept walk) where
  -- a run that ended so lies within the open walk
  within : (h : History) → (tells : Telling) → TellsOne tells → run s (teller_of tells) ≡ goes h → (tally_in h).failed ≡ 0 → LiesWithin h walk
  within h tells one is none =
      laws.contained s (repairs_by tells) h walk known
      (laws.determined s tells (unfailing (repairs_by tells)) h is (tells_alike tells one h (laws.told s tells h is) none)) free.is_open free.settled

  module _ (agents : ℕ) (world : World) (all : Together) (valid : HasParents world.nodes) (some : 0 < agents) (ended : AllEnd agents all) (traced : IsTraced s agents world all) where
    runs : (number : ℕ) → is_number agents number ≡ true → HasRun s (history_at (all.stands number))
    runs number is = traced.runs number (ended number is).0

    placed : (number : ℕ) → is_number agents number ≡ true → LiesWithin (history_at (all.stands number)) walk
    placed number is =
        let ran = runs number is in within (history_at (all.stands number)) ran.0 ran.1.0 ran.1.1 (ended number is).1

    keyed_own : (number : ℕ) → is_number agents number ≡ true → Each IsKeyed (by_agent number traced.trace)
    keyed_own number is =
        let ran = runs number is in
        subst (Each IsKeyed) (sym (traced.own number)) (laws.keyed s ran.0 (history_at (all.stands number)) known ran.1.1)

    -- the posts of what is live hold
    live_posts : (i : Instance) → IsKeyed i → IsLive kept i → PostsHold (after all.log world) (acts_of i.work)
    live_posts i key live =
        laws.last kept walk (is_number agents) 1 world (after all.log world) traced.trace free.free (first_number agents some) valid
        (traced.becomes (λ number is. (ended number is).1)) (each_of IsKeyed (is_number agents) traced.trace traced.numbered keyed_own)
        (λ number is. subst (Follow (IsAfter walk)) (sym (traced.own number)) (placed number is).order)
        i key live
        (λ number is. subst (IsAmong i) (sym (traced.own number)) ((placed number is).sure i key live.acts (sure_marked walk i (free.free.sure i key live))))

    settled : (moment : ℕ) → log_of s (quiet_start (after all.log world) moment) ≡ []
    settled moment = (laws.reruns s kept (after all.log world) moment known free.is_kept live_posts).1

pub free_settle : SettleLaws → FreeAgentsSettle
free_settle laws s kept walk moment agents marks world numbers known free valid some are ended = λ at.
    settled laws s kept walk known free agents world (interleave s moment marks world numbers) valid some ended (laws.traced s moment agents marks world numbers are) at

pub accepted_settle : (policy : PolicyTree) → HasKnown policy → AcceptedAreFree policy → FreeAgentsSettle → AcceptedAgentsSettle policy
accepted_settle policy known are_free settle s live moment agents marks world numbers same e valid some are ended =
    let free = are_free s live same e in
    settle s free.0 free.1 moment agents marks world numbers (subst HasKnown (sym same) known) free.2 valid some are ended
