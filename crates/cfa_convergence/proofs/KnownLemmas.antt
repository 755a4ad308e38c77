-- Each instance that a run visits has a key text and comes with a status, and one with acts is told where it was visited.
use Rattle.std.proofs.Common.{◌≡◌, true, false, List, [], ◌∷◌, refl, ap, subst, ◌⊎◌, inl, inr}
use Rattle.std.specs.List.{AllByRecursion as Each}
use Rattle.cfa_statuses.specs.declared.levels.Status.{Status}
use Rattle.cfa_statuses.specs.declared.levels.Status.TheVariants.{No, Maybe, Yes}
use Rattle.cfa_kinds.specs.declared.kinds.PromiseType.{PromiseType}
use Rattle.cfa_resolve.specs.declared.instances.Instance.{Instance}
use Rattle.cfa_resolve.specs.declared.instances.Work.{Work}
use Rattle.cfa_resolve.specs.declared.instances.Work.TheVariants.{Acts, Call, Report}
use Rattle.cfa_served.specs.Control.{sequence_of}
use Rattle.cfa_served.specs.Served.{common_bundles_of}
use Rattle.cfa_tree.specs.Tree.{BlockTree}
use Rattle.cfa_states.specs.History.{History, Begun, Set, Raised, Reached, Listed, Told}
use Rattle.cfa_states.specs.Numbered.{numbered_in, name_of, common_types, of_type}
use Rattle.cfa_states.specs.Passes.{goes, visit_status, run}
use Rattle.cfa_states.specs.Views.{Setting, reached_in_history}
use Rattle.cfa_convergence.specs.Conflicts.{HasActs, was_visited}
use Rattle.cfa_convergence.specs.Contained.{with_acts, actuations}
use Rattle.cfa_laws.specs.Keys.{IsKeyed, IsResolved, InstancesAreKeyed}
use Rattle.cfa_convergence.specs.Policies.{IsKnown, HasKnown}
use Rattle.cfa_convergence.specs.Told.{Telling, teller_of}
use Rattle.cfa_convergence.proofs.AlwaysLemmas.{Any, Always, each_made, Kept_along, steps_along}
use Rattle.cfa_convergence.proofs.LevelLemmas.{IsCall, IsReport, run_level}
use Rattle.cfa_convergence.proofs.NameLemmas.{is_itself}
use Rattle.cfa_convergence.proofs.PlainLemmas.{Known_at, Known_common, known_commons}

-- a visit that comes
abbrev pub IsReal : Status → Type 0
IsReal status = status ≡ No → ⊥

no_or_real : (status : Status) → (status ≡ No) ⊎ IsReal status
no_or_real No = inl refl
no_or_real Maybe = inr (λ e. cc)
no_or_real Yes = inr (λ e. cc)

abbrev pub AreKnown : History → Type 0
AreKnown [] = Unit {0}
AreKnown (Listed i status ∷ h) = IsKeyed i × IsReal status × AreKnown h
AreKnown (Told i outcomes ∷ h) = IsKeyed i × (HasActs i.work → was_visited h i ≡ true) × AreKnown h
AreKnown (Begun path arguments ∷ h) = AreKnown h
AreKnown (Set path name datum ∷ h) = AreKnown h
AreKnown (Raised place class status source ∷ h) = AreKnown h
AreKnown (Reached home promise guard sets visits ∷ h) = AreKnown h

no_acts_in_call : (w : Work) → IsCall w → HasActs w → ⊥
no_acts_in_call (Acts acts) is has = is
no_acts_in_call (Call name given) is has = has
no_acts_in_call (Report content) is has = has

no_acts_in_report : (w : Work) → IsReport w → HasActs w → ⊥
no_acts_in_report (Acts acts) is has = is
no_acts_in_report (Call name given) is has = has
no_acts_in_report (Report content) is has = has

pub just_visited : (i : Instance) (status : Status) (h : History) → was_visited (Listed i status ∷ h) i ≡ true
just_visited i status h = ap (λ b. elim b [ true ↦ true | false ↦ was_visited h i ]) (is_itself i)

module _ (s : Setting) (tells : Telling) (keyed : InstancesAreKeyed) (known : HasKnown s.policy) where
  abbrev Stays_known : History → History → Type 0
  Stays_known h k = AreKnown h → AreKnown k

  run_known : Always (run s (teller_of tells)) (Stays_known [])
  run_known =
      run_level s tells tells (Kept_along Stays_known (λ h t. t) (λ a b c r q t. q (r t))) Any Any IsReal IsResolved Known_at
      (steps_along Stays_known (λ h t. t) (λ a b c r q t. q (r t)) s tells Any Any IsReal IsResolved Known_at
      (λ path at. tt) (λ path i fit at. tt) (λ guard act mark ok. no_or_real (visit_status guard act mark))
      (λ home p type h fine. keyed (reached_in_history s h home type p) fine.plain)
      (λ e. cc) (λ path given h at t. t) (λ path name datum h at t. t) (λ place class status source h ok t. t) (λ class status source h ok t. t)
      (λ home p guard is visits h fine t. t) (λ path i status h fit ok t. (fit.key, ok, t))
      (λ path i status h fit has t. (fit.key, (λ acts. just_visited i status h), t))
      (λ path i h fit is t. (fit.key, (λ acts. absurd (no_acts_in_report i.work is acts)), t))
      (λ path i h fit is t. (fit.key, (λ acts. absurd (no_acts_in_call i.work is acts)), t)))
      (λ path name block at is. known.bundles name block is) tt (λ e. cc) (commons (common_bundles_of s.policy) (known_commons (common_bundles_of s.policy) known.commons)) (each_made Any (λ name. tt) (sequence_of s.policy))
    where
      commons : (blocks : List BlockTree) → Each Known_common blocks →
          Each (λ (block : BlockTree). Any (name_of block) × Each (λ (type : PromiseType). Each IsKnown (of_type type (numbered_in block))) common_types) blocks
      commons [] ok = tt
      commons (block ∷ blocks) ok = ((tt, ok.0.1), commons blocks ok.1)

  pub runs_known : (h : History) → run s (teller_of tells) ≡ goes h → AreKnown h
  runs_known h is = subst (λ c. Always c (Stays_known [])) is run_known tt

-- those that are actuated have key texts
pub actuations_keyed : (h : History) → AreKnown h → Each IsKeyed (actuations h)
actuations_keyed [] known = tt
actuations_keyed (Told i [] ∷ h) known = actuations_keyed h known.2
actuations_keyed (Told i (o ∷ os) ∷ h) known = go i.work (actuations_keyed h known.2)
  where
    go : (w : Work) → Each IsKeyed (actuations h) → Each IsKeyed (with_acts w i (actuations h))
    go (Acts acts) rest = (known.0, rest)
    go (Call name given) rest = rest
    go (Report content) rest = rest
actuations_keyed (Listed i status ∷ h) known = actuations_keyed h known.2
actuations_keyed (Begun path arguments ∷ h) known = actuations_keyed h known
actuations_keyed (Set path name datum ∷ h) known = actuations_keyed h known
actuations_keyed (Raised place class status source ∷ h) known = actuations_keyed h known
actuations_keyed (Reached home promise guard sets visits ∷ h) known = actuations_keyed h known
