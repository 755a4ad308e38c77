-- Calls that do the same for the instances of a bundle make the same of it.
use Rattle.std.proofs.Common.{◌≡◌, ◌∙◌, ℕ, zero, suc, ◌+◌, Bool, true, false, List, [], ◌∷◌, codes, Some, refl, ap, cond, nat_le}
use Rattle.std.specs.List.{AllByRecursion as Each}
use Rattle.cfa_kinds.specs.declared.kinds.PromiseType.{PromiseType}
use Rattle.cfa_kinds.specs.declared.kinds.PromiseType.TheVariants as promises
use Rattle.cfa_resolve.specs.Instances.{Reached, call_by}
use Rattle.cfa_resolve.specs.Resolution.{resolution}
use Rattle.cfa_resolve.specs.declared.instances.Instance.{Instance}
use Rattle.cfa_resolve.specs.declared.instances.Work.{Work}
use Rattle.cfa_resolve.specs.declared.instances.Work.TheVariants.{Acts, Call, Report}
use Rattle.cfa_states.specs.History.{History, Home, Where, within, Begun, Listed, Reached as ReachedEvent, mark_in, visits_in}
use Rattle.cfa_states.specs.Numbered.{Numbered, is_type, of_type, agent_types, params_of, name_of, numbered_in}
use Rattle.cfa_states.specs.Passes.{Calls, Course, goes, too_large, then_on, each, most_visits, visit_status, tell, worked, unless_skipped, visited, visit, instances_from, within_limit, reached, acting_reached, kept_by, guarded, reach, promises_from, types_from, passes, activation, bind}
use Rattle.cfa_states.specs.Tellers.{Teller}
use Rattle.cfa_states.specs.Views.{Setting, guard_status, reached_in_history}
use Rattle.cfa_statuses.specs.declared.levels.Status.{Status}
use Rattle.cfa_statuses.specs.declared.levels.Status.TheVariants.{No, Maybe, Yes}
use Rattle.cfa_tree.specs.Tree.{BlockTree}
use Rattle.cfa_values.specs.Attributes.{value_of}
use Rattle.cfa_vars.specs.Expansion.{Chosen}
use Rattle.cfa_vars.specs.declared.scoping.Datum.{Datum}
use Rattle.cfa_frames.proofs.WorkLemmas.{MayCall, InstanceMayCall, instances_may}

-- ---- one level after the other

pub then_same : (c : Course) (f g : History → Course) → ((h : History) → f h ≡ g h) → then_on c f ≡ then_on c g
then_same (goes h) f g same = same h
then_same (too_large h) f g same = refl

pub both_same : (c d : Course) (f g : History → Course) → c ≡ d → ((h : History) → f h ≡ g h) → then_on c f ≡ then_on d g
both_same c d f g is same = ap (λ (c : Course). then_on c f) is ∙ then_same d f g same

pub each_same : {X : Type 0} (P : X → Type 0) (f g : X → History → Course) → ((x : X) → P x → (h : History) → f x h ≡ g x h) →
    (xs : List X) → Each P xs → (h : History) → each f xs h ≡ each g xs h
each_same P f g same [] all h = refl
each_same P f g same (x ∷ xs) all h =
    both_same (f x h) (g x h) (each f xs) (each g xs) (same x all.0 h) (each_same P f g same xs all.1)

pub all_same : {X : Type 0} (f g : X → History → Course) → ((x : X) (h : History) → f x h ≡ g x h) → (xs : List X) (h : History) → each f xs h ≡ each g xs h
all_same f g same [] h = refl
all_same f g same (x ∷ xs) h = both_same (f x h) (g x h) (each f xs) (each g xs) (same x h) (all_same f g same xs)

-- for instances that call what is such
abbrev pub SameFor : (List ℕ → Type 0) → Calls → Calls → Type 0
SameFor P a b =
    (i : Instance) (status : Status) (h : History) (name : List ℕ) (given : List Datum) → i.work ≡ Call name given → P name → a i status h ≡ b i status h

-- a methods promise calls what is such
abbrev pub PromiseMayCall : (List ℕ → Type 0) → Numbered → Type 0
PromiseMayCall P p = p.type ≡ promises.Methods → (r : Reached) (choice : Chosen) → MayCall P (call_by r choice (value_of (codes "usebundle") p.promise.attributes))

module _ (s : Setting) (t : Teller) (a b : Calls) (P : List ℕ → Type 0) (same : SameFor P a b) where
  -- ---- visits

  worked_same : (i : Instance) (w : Work) (status : Status) (h : History) → i.work ≡ w → MayCall P w → worked t a i w status h ≡ worked t b i w status h
  worked_same i (Acts acts) status h is may = refl
  worked_same i (Report content) status h is may = refl
  worked_same i (Call name given) status h is may = ap (λ (c : Course). then_on c (tell t i status)) (same i status h name given is may)

  skipped_same : (i : Instance) (status : Status) (skips : Bool) (h : History) → MayCall P i.work → unless_skipped t a i status skips h ≡ unless_skipped t b i status skips h
  skipped_same i status true h may = refl
  skipped_same i status false h may = worked_same i i.work status h refl may

  visited_same : (i : Instance) (status : Status) (h : History) → MayCall P i.work → visited t a i status h ≡ visited t b i status h
  visited_same i No h may = refl
  visited_same i Maybe h may = skipped_same i Maybe (t.skips h i) (Listed i Maybe ∷ h) may
  visited_same i Yes h may = skipped_same i Yes (t.skips h i) (Listed i Yes ∷ h) may

  visit_same : (guard status : Status) (i : Instance) → InstanceMayCall P i → (h : History) → visit t a guard status i h ≡ visit t b guard status i h
  unfolding visit
  visit_same guard status i may h = visited_same i (visit_status guard status (mark_in h i.path i.text)) h may

  -- ---- promises

  limited_same : (fits : Bool) (c d : Course) (h : History) → c ≡ d → within_limit fits c h ≡ within_limit fits d h
  limited_same true c d h is = is
  limited_same false c d h is = refl

  reached_same : (home : Home) (p : Numbered) (guard : Status) (sets : Bool) (visits : ℕ) (f g : History → Course) → ((h : History) → f h ≡ g h) → (h : History) →
      reached home p guard sets visits f h ≡ reached home p guard sets visits g h
  reached_same home p guard sets visits f g is h =
      let k : History = ReachedEvent home p guard sets visits ∷ h in
      limited_same (nat_le (visits + visits_in h) most_visits) (f k) (g k) k (is k)

  module _ (place : Where) (home : Home) (status : Status) where
    acting_same : (p : Numbered) (type : PromiseType) (guard : Status) (h : History) → p.type ≡ type → PromiseMayCall P p →
        acting_reached s t a home status p type guard h ≡ acting_reached s t b home status p type guard h
    acting_same p type guard h is may =
        let r : Reached = reached_in_history s h home type p in
        reached_same home p guard false (resolution r).visits (instances_from t a guard status (resolution r).instances) (instances_from t b guard status (resolution r).instances)
        (each_same (InstanceMayCall P) (visit t a guard status) (visit t b guard status) (visit_same guard status) (resolution r).instances
        (instances_may P r (λ methods choice. may (is ∙ methods) r choice))) h

    kept_same : (p : Numbered) (type : PromiseType) (guard : Status) (h : History) → p.type ≡ type → PromiseMayCall P p →
        kept_by s t a place home status p type guard h ≡ kept_by s t b place home status p type guard h
    kept_same p promises.Vars guard h is may = refl
    kept_same p promises.Classes guard h is may = refl
    kept_same p promises.Files guard h is may = acting_same p promises.Files guard h is may
    kept_same p promises.Methods guard h is may = acting_same p promises.Methods guard h is may
    kept_same p promises.Services guard h is may = acting_same p promises.Services guard h is may
    kept_same p promises.Reports guard h is may = acting_same p promises.Reports guard h is may
    kept_same p type guard h is may = refl

    guarded_same : (p : Numbered) (guard : Status) (h : History) → PromiseMayCall P p → guarded s t a place home status p guard h ≡ guarded s t b place home status p guard h
    guarded_same p No h may = refl
    guarded_same p Maybe h may = kept_same p p.type Maybe h refl may
    guarded_same p Yes h may = kept_same p p.type Yes h refl may

    reach_same : (p : Numbered) → PromiseMayCall P p → (h : History) → reach s t a place home status p h ≡ reach s t b place home status p h
    unfolding reach
    reach_same p may h = guarded_same p (guard_status s h home.path p.promise.guard) h may

    -- ---- passes

    more_of_type : (is : Bool) (p : Numbered) (ps : List Numbered) → PromiseMayCall P p → Each (PromiseMayCall P) ps → Each (PromiseMayCall P) (cond is (p ∷ ps) ps)
    more_of_type true p ps may all = (may, all)
    more_of_type false p ps may all = all

    type_may : (type : PromiseType) (ps : List Numbered) → Each (PromiseMayCall P) ps → Each (PromiseMayCall P) (of_type type ps)
    type_may type [] all = tt
    type_may type (p ∷ ps) all = more_of_type (is_type type p.type) p (of_type type ps) all.0 (type_may type ps all.1)

    module _ (ps : List Numbered) (may : Each (PromiseMayCall P) ps) where
      type_same : (type : PromiseType) (h : History) → promises_from s t a place home status (of_type type ps) h ≡ promises_from s t b place home status (of_type type ps) h
      type_same type h =
          each_same (PromiseMayCall P) (reach s t a place home status) (reach s t b place home status) reach_same (of_type type ps) (type_may type ps may) h

      pub types_same : (types : List PromiseType) (h : History) → types_from s t a place home status ps types h ≡ types_from s t b place home status ps types h
      types_same types h =
          all_same (λ type. promises_from s t a place home status (of_type type ps)) (λ type. promises_from s t b place home status (of_type type ps)) type_same types h

      passes_same : (n : ℕ) (h : History) → passes s t a place home status ps n h ≡ passes s t b place home status ps n h
      unfolding passes
      passes_same zero h = refl
      passes_same (suc n) h =
          both_same (types_from s t a place home status ps agent_types h) (types_from s t b place home status ps agent_types h)
          (passes s t a place home status ps n) (passes s t b place home status ps n) (types_same agent_types h) (passes_same n)

  -- ---- a bundle

  pub activation_same : (path : List ℕ) (status : Status) (given : List Datum) (block : BlockTree) (h : History) → Each (PromiseMayCall P) (numbered_in block) →
      activation s t a path status given (Some block) h ≡ activation s t b path status given (Some block) h
  activation_same path status given block h may =
      passes_same (within path) (record { path = path; bundle = name_of block }) status (numbered_in block) may 3 (bind path (params_of block) given (Begun path given ∷ h))
