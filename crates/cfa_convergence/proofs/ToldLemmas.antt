-- A run is determined by what is told of its instances, and what was told is what its teller tells.
use Rattle.std.proofs.Common.{◌≡◌, ℕ, List, [], ◌∷◌, Some, refl, sym, ap, subst, ◌∙◌, inr}
use Rattle.std.specs.List.{AllByRecursion as Each}
use Rattle.cfa_statuses.specs.declared.levels.Status.{Status}
use Rattle.cfa_kinds.specs.declared.kinds.PromiseType.{PromiseType}
use Rattle.cfa_outcomes.specs.declared.outcomes.Outcome.{Outcome}
use Rattle.cfa_outcomes.specs.declared.outcomes.Outcome.TheVariants.{Kept}
use Rattle.cfa_resolve.specs.declared.instances.Instance.{Instance}
use Rattle.cfa_resolve.specs.declared.instances.Work.{Work}
use Rattle.cfa_resolve.specs.declared.instances.Work.TheVariants.{Acts, Call, Report}
use Rattle.cfa_resolve.specs.Resolution.{resolution}
use Rattle.cfa_served.specs.Control.{sequence_of}
use Rattle.cfa_served.specs.Served.{common_bundles_of}
use Rattle.cfa_tree.specs.Tree.{BlockTree}
use Rattle.cfa_states.specs.History.{History, everywhere, Raised, Listed, Told}
use Rattle.cfa_states.specs.Numbered.{numbered_in, name_of, common_types, of_type}
use Rattle.cfa_states.specs.Passes.{Course, goes, too_large, then_on, told, raised_to, in_every_list, classes_for, raise_each, raise_lists, run}
use Rattle.cfa_states.specs.Views.{Setting, Home, reached_in_history}
use Rattle.cfa_convergence.specs.Conflicts.{HasActs}
use Rattle.cfa_convergence.specs.Told.{Telling, teller_of, TellAlike, outcomes_by, IsToldBy, RunsAreDetermined, RunsAreTold}
use Rattle.cfa_convergence.proofs.LevelLemmas.{IsCall, IsReport, Steps, run_level}
use Rattle.cfa_convergence.proofs.AlwaysLemmas.{Any, Any_at, Any_home, Always, each_made, Kept_along, steps_along}

abbrev home_of : BlockTree → Home
home_of block = record { path = name_of block; bundle = name_of block }

abbrev Of_type : BlockTree → PromiseType → Type 0
Of_type block type = Each (Any_home (home_of block)) (of_type type (numbered_in block))

abbrev Common : BlockTree → Type 0
Common block = Any (name_of block) × Each (Of_type block) common_types

-- ---- determined

module _ (s : Setting) (tells others : Telling) where
  -- one course is the other, if both tell the same along it
  abbrev Matches : History → Course → Course → Type 0
  Matches h (goes k) d = TellAlike tells others k → TellAlike tells others h × (d ≡ goes k)
  Matches h (too_large k) d = Unit {0}

  matches_next : (h : History) (c d : Course) (f g : History → Course) → Matches h c d → ((k : History) → Matches k (f k) (g k)) → Matches h (then_on c f) (then_on d g)
  matches_next h (too_large k) d f g p q = tt
  matches_next h (goes k) d f g p q = go (f k) (q k)
    where
      go : (c : Course) → Matches k c (g k) → Matches h c (then_on d g)
      go (goes m) r = λ alike.
          let second = r alike in
          let first = p second.0 in
          (first.0, ap (λ e. then_on e g) first.1 ∙ second.1)
      go (too_large m) r = tt

  each_alike : (i : Instance) (os : List Outcome) (status : Status) (classes : List (List ℕ)) (h : History) → TellAlike tells others (raise_each i os status classes h) → TellAlike tells others h
  each_alike i os status [] h alike = alike
  each_alike i os status (class ∷ classes) h alike =
      each_alike i os status classes (Raised everywhere class (raised_to status (in_every_list i os class)) (Some i.source) ∷ h) alike

  lists_alike : (i : Instance) (os ps : List Outcome) (status : Status) (h : History) → TellAlike tells others (raise_lists i os ps status h) → TellAlike tells others h
  lists_alike i os [] status h alike = alike
  lists_alike i os (o ∷ ps) status h alike = each_alike i os status (classes_for i o) h (lists_alike i os ps status (raise_each i os status (classes_for i o) h) alike)

  told_alike : (i : Instance) (os : List Outcome) (status : Status) (h : History) → TellAlike tells others (told i os status h) → TellAlike tells others (Told i os ∷ h)
  unfolding told
  told_alike i os status h alike = lists_alike i os os status (Told i os ∷ h) alike

  steps_match : Steps s tells others Matches Any Any Any Any_at Any_home
  steps_match = record {
    stays = λ h alike. (alike, refl);
    past = λ h. tt;
    next = matches_next;
    placed = λ path at. tt;
    inner = λ path i fit at. tt;
    visit_is = λ guard act mark ok. inr tt;
    fits = λ home p type h fine. each_made Any (λ i. tt) (resolution (reached_in_history s h home type p)).instances;
    begins = λ path given h at alike. (alike, refl);
    sets = λ path name datum h at alike. (alike, refl);
    raises = λ place class status source h ok alike. (alike, refl);
    reaches = λ home p guard is visits h fine alike. (alike, refl);
    acts = λ path i status h fit has ok alike.
        let k : History = Listed i status ∷ h in
        let same = told_alike i (tells k i) status k alike in
        (same.1, ap (λ os. goes (told i os status k)) (sym same.0));
    reports = λ path i status h fit is ok alike. ((told_alike i (Kept ∷ []) status (Listed i status ∷ h) alike).1, refl);
    lists = λ path i status h fit is ok alike. (alike, refl);
    ends = λ path i status h fit is ok alike.
        let same = told_alike i (tells h i) status h alike in
        (same.1, ap (λ os. goes (told i os status h)) (sym same.0));
  }

  run_matches : Matches [] (run s (teller_of tells)) (run s (teller_of others))
  run_matches =
      run_level s tells others Matches Any Any Any Any_at Any_home steps_match
      (λ path name block at is. each_made (Any_home (record { path = path; bundle = name_of block })) (λ p. tt) (numbered_in block)) tt tt
      (each_made Common (λ block. (tt, each_made (Of_type block) (λ type. each_made (Any_home (home_of block)) (λ p. tt) (of_type type (numbered_in block))) common_types)) (common_bundles_of s.policy))
      (each_made Any (λ name. tt) (sequence_of s.policy))

pub runs_determined : RunsAreDetermined
runs_determined s tells others h is alike =
    (subst (λ c. Matches s tells others [] c (run s (teller_of others))) is (run_matches s tells others) alike).1

-- ---- told

module _ (s : Setting) (tells : Telling) where
  abbrev Stays_told : History → History → Type 0
  Stays_told h k = IsToldBy tells h → IsToldBy tells k

  of_acts : (h : History) (i : Instance) (w : Work) → HasActs w → tells h i ≡ outcomes_by tells h i w
  of_acts h i (Acts acts) has = refl
  of_acts h i (Call name given) has = absurd has
  of_acts h i (Report content) has = absurd has

  of_call : (h : History) (i : Instance) (w : Work) → IsCall w → tells h i ≡ outcomes_by tells h i w
  of_call h i (Acts acts) is = absurd is
  of_call h i (Call name given) is = refl
  of_call h i (Report content) is = absurd is

  of_report : (h : History) (i : Instance) (w : Work) → IsReport w → Kept ∷ [] ≡ outcomes_by tells h i w
  of_report h i (Acts acts) is = absurd is
  of_report h i (Call name given) is = absurd is
  of_report h i (Report content) is = refl

  run_told : Always (run s (teller_of tells)) (Stays_told [])
  run_told =
      run_level s tells tells (Kept_along Stays_told (λ h t. t) (λ a b c r q t. q (r t))) Any Any Any Any_at Any_home
      (steps_along Stays_told (λ h t. t) (λ a b c r q t. q (r t)) s tells Any Any Any Any_at Any_home
      (λ path at. tt) (λ path i fit at. tt) (λ guard act mark ok. inr tt)
      (λ home p type h fine. each_made Any (λ i. tt) (resolution (reached_in_history s h home type p)).instances)
      tt (λ path given h at t. t) (λ path name datum h at t. t) (λ place class status source h ok t. t) (λ class status source h ok t. t)
      (λ home p guard is visits h fine t. t) (λ path i status h fit ok t. t)
      (λ path i status h fit has t. (of_acts (Listed i status ∷ h) i i.work has, t))
      (λ path i h fit is t. (of_report h i i.work is, t))
      (λ path i h fit is t. (of_call h i i.work is, t)))
      (λ path name block at is. each_made (Any_home (record { path = path; bundle = name_of block })) (λ p. tt) (numbered_in block)) tt tt
      (each_made Common (λ block. (tt, each_made (Of_type block) (λ type. each_made (Any_home (home_of block)) (λ p. tt) (of_type type (numbered_in block))) common_types)) (common_bundles_of s.policy))
      (each_made Any (λ name. tt) (sequence_of s.policy))

pub runs_told : RunsAreTold
runs_told s tells h is = subst (λ c. Always c (Stays_told s tells [])) is (run_told s tells) tt
