-- A relation of histories that each event keeps is kept by a run.
use Rattle.std.proofs.Common.{◌≡◌, ℕ, Bool, true, false, List, [], ◌∷◌, Option, Some, ◌⊎◌}
use Rattle.std.specs.List.{AllByRecursion as Each}
use Rattle.cfa_base.specs.declared.places.PromiseId.{PromiseId}
use Rattle.cfa_statuses.specs.declared.levels.Status.{Status}
use Rattle.cfa_statuses.specs.declared.levels.Status.TheVariants.{No, Maybe}
use Rattle.cfa_kinds.specs.declared.kinds.PromiseType.{PromiseType}
use Rattle.cfa_outcomes.specs.declared.outcomes.Outcome.{Outcome}
use Rattle.cfa_outcomes.specs.declared.outcomes.Outcome.TheVariants.{Kept}
use Rattle.cfa_resolve.specs.declared.instances.Instance.{Instance}
use Rattle.cfa_resolve.specs.Resolution.{resolution}
use Rattle.cfa_vars.specs.declared.scoping.Datum.{Datum}
use Rattle.cfa_states.specs.History.{History, Where, everywhere, within, Begun, Set, Raised, Reached, Listed, Told}
use Rattle.cfa_states.specs.Numbered.{Numbered}
use Rattle.cfa_states.specs.Passes.{Course, goes, too_large, then_on, told, visit_status, raised_to, in_every_list, classes_for, raise_each, raise_lists}
use Rattle.cfa_states.specs.Tellers.{inner_path}
use Rattle.cfa_states.specs.Views.{Setting, Home, reached_in_history}
use Rattle.cfa_convergence.specs.Conflicts.{HasActs}
use Rattle.cfa_convergence.specs.Told.{Telling}
use Rattle.cfa_convergence.proofs.LevelLemmas.{IsCall, IsReport, Steps}

-- what is asked of nothing
abbrev pub Any : {X : Type 0} → X → Type 0
Any x = Unit {0}

abbrev pub Any_at : List ℕ → Instance → Type 0
Any_at path i = Unit {0}

abbrev pub Any_home : Home → Numbered → Type 0
Any_home home p = Unit {0}

-- a fact of the history at which a course stands
abbrev pub Always : Course → (History → Type 0) → Type 0
Always (goes h) P = P h
Always (too_large h) P = P h

pub always_weaker : (c : Course) (P Q : History → Type 0) → ((h : History) → P h → Q h) → Always c P → Always c Q
always_weaker (goes h) P Q f p = f h p
always_weaker (too_large h) P Q f p = f h p

pub each_made : {X : Type 0} (P : X → Type 0) → ((x : X) → P x) → (xs : List X) → Each P xs
each_made P f [] = tt
each_made P f (x ∷ xs) = (f x, each_made P f xs)

module _ (R : History → History → Type 0) (same_R : (h : History) → R h h) (then_R : (a b c : History) → R a b → R b c → R a c) where
  abbrev pub Kept_along : History → Course → Course → Type 0
  Kept_along h c d = Always c (R h)

  pub always_then : (h : History) (c d : Course) (f g : History → Course) → Always c (R h) → ((k : History) → Always (f k) (R k)) → Always (then_on c f) (R h)
  always_then h (goes k) d f g p q = always_weaker (f k) (R k) (R h) (λ m r. then_R h k m p r) (q k)
  always_then h (too_large k) d f g p q = p

  -- outcomes raise classes
  module _ (S : Status → Type 0) (maybe_S : S Maybe)
      (global_R : (class : List ℕ) (status : Status) (source : PromiseId) (h : History) → S status → R h (Raised everywhere class status (Some source) ∷ h)) where
    raised_ok : (status : Status) (b : Bool) → S status → S (raised_to status b)
    raised_ok status true ok = ok
    raised_ok status false ok = maybe_S

    each_along : (i : Instance) (os : List Outcome) (status : Status) → S status → (classes : List (List ℕ)) (a h : History) → R a h → R a (raise_each i os status classes h)
    each_along i os status ok [] a h r = r
    each_along i os status ok (class ∷ classes) a h r =
        let to = raised_to status (in_every_list i os class) in
        let k : History = Raised everywhere class to (Some i.source) ∷ h in
        each_along i os status ok classes a k (then_R a h k r (global_R class to i.source h (raised_ok status (in_every_list i os class) ok)))

    lists_along : (i : Instance) (os ps : List Outcome) (status : Status) → S status → (a h : History) → R a h → R a (raise_lists i os ps status h)
    lists_along i os [] status ok a h r = r
    lists_along i os (o ∷ ps) status ok a h r =
        lists_along i os ps status ok a (raise_each i os status (classes_for i o) h) (each_along i os status ok (classes_for i o) a h r)

    pub told_along : (i : Instance) (os : List Outcome) (status : Status) (h : History) → S status → R h (Told i os ∷ h) → R h (told i os status h)
    unfolding told
    told_along i os status h ok r = lists_along i os os status ok h (Told i os ∷ h) r

  module _ (s : Setting) (tells : Telling)
      (At : List ℕ → Type 0) (Place : Where → Type 0) (S : Status → Type 0) (Fit : List ℕ → Instance → Type 0) (Fine : Home → Numbered → Type 0)
      (placed : (path : List ℕ) → At path → Place (within path))
      (inner : (path : List ℕ) (i : Instance) → Fit path i → At path → At (inner_path i))
      (visit_is : (guard act mark : Status) → S act → (visit_status guard act mark ≡ No) ⊎ S (visit_status guard act mark))
      (fits : (home : Home) (p : Numbered) (type : PromiseType) (h : History) → Fine home p →
      Each (Fit home.path) (resolution (reached_in_history s h home type p)).instances)
      (maybe_S : S Maybe)
      (begun_R : (path : List ℕ) (given : List Datum) (h : History) → At path → R h (Begun path given ∷ h))
      (set_R : (path name : List ℕ) (datum : Datum) (h : History) → At path → R h (Set path name datum ∷ h))
      (raised_R : (place : Where) (class : List ℕ) (status : Status) (source : Option PromiseId) (h : History) → Place place → R h (Raised place class status source ∷ h))
      (global_R : (class : List ℕ) (status : Status) (source : PromiseId) (h : History) → S status → R h (Raised everywhere class status (Some source) ∷ h))
      (reached_R : (home : Home) (p : Numbered) (guard : Status) (is : Bool) (visits : ℕ) (h : History) → Fine home p → R h (Reached home p guard is visits ∷ h))
      (listed_R : (path : List ℕ) (i : Instance) (status : Status) (h : History) → Fit path i → S status → R h (Listed i status ∷ h))
      (acted_R : (path : List ℕ) (i : Instance) (status : Status) (h : History) → Fit path i → HasActs i.work →
      R (Listed i status ∷ h) (Told i (tells (Listed i status ∷ h) i) ∷ Listed i status ∷ h))
      (report_R : (path : List ℕ) (i : Instance) (h : History) → Fit path i → IsReport i.work → R h (Told i (Kept ∷ []) ∷ h))
      (ended_R : (path : List ℕ) (i : Instance) (h : History) → Fit path i → IsCall i.work → R h (Told i (tells h i) ∷ h)) where
    -- the steps that keep it
    pub steps_along : Steps s tells tells Kept_along At Place S Fit Fine
    steps_along = record {
      stays = same_R;
      past = same_R;
      next = always_then;
      placed = placed;
      inner = inner;
      visit_is = visit_is;
      fits = fits;
      begins = begun_R;
      sets = set_R;
      raises = raised_R;
      reaches = reached_R;
      acts = λ path i status h fit has ok.
          let k : History = Listed i status ∷ h in
          then_R h k (told i (tells k i) status k) (listed_R path i status h fit ok) (told_along S maybe_S global_R i (tells k i) status k ok (acted_R path i status h fit has));
      reports = λ path i status h fit is ok.
          let k : History = Listed i status ∷ h in
          then_R h k (told i (Kept ∷ []) status k) (listed_R path i status h fit ok) (told_along S maybe_S global_R i (Kept ∷ []) status k ok (report_R path i k fit is));
      lists = λ path i status h fit is ok. listed_R path i status h fit ok;
      ends = λ path i status h fit is ok. told_along S maybe_S global_R i (tells h i) status h ok (ended_R path i h fit is);
    }
