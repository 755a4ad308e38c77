-- What a history builds, each level that goes on from it builds.
use Rattle.std.proofs.Common.{◌≡◌, ℕ, zero, suc, Bool, true, false, List, [], ◌∷◌, Option, Some, None, refl, subst, inl, inr}
use Rattle.cfa_base.specs.Patterns.{SizeRefusal}
use Rattle.cfa_base.specs.Shown.{Shown}
use Rattle.cfa_statuses.specs.declared.levels.Status.{Status}
use Rattle.cfa_statuses.specs.declared.levels.Status.TheVariants.{No, Maybe, Yes}
use Rattle.cfa_kinds.specs.declared.kinds.PromiseType.{PromiseType}
use Rattle.cfa_kinds.specs.declared.kinds.PromiseType.TheVariants as promises
use Rattle.cfa_tree.specs.Tree.{NamedTree, BlockTree}
use Rattle.cfa_vars.specs.declared.scoping.Datum.{Datum}
use Rattle.cfa_vars.specs.Expansion.{Chosen}
use Rattle.std.specs.Prelude.{◌+◌, nat_le}
use Rattle.cfa_defines.specs.ClassPromises.{Raise, raises_of}
use Rattle.cfa_defines.specs.FirstMaybe.{first_maybe_of_guard}
use Rattle.cfa_defines.specs.VarsPromises.{setting_choices, count_choices, data_set}
use Rattle.cfa_resolve.specs.Resolution.{resolution}
use Rattle.cfa_outcomes.specs.declared.outcomes.Outcome.{Outcome}
use Rattle.cfa_outcomes.specs.declared.outcomes.Outcome.TheVariants.{Kept}
use Rattle.cfa_resolve.specs.declared.instances.Instance.{Instance}
use Rattle.cfa_resolve.specs.declared.instances.Resolved.{Resolved}
use Rattle.cfa_resolve.specs.declared.instances.Work.{Work}
use Rattle.cfa_resolve.specs.declared.instances.Work.TheVariants.{Acts, Call, Report}
use Rattle.cfa_served.specs.Served.{bundle_of}
use Rattle.cfa_states.specs.Builds.{BuiltAt, BuiltWhere, BuiltIn, BuiltOn}
use Rattle.cfa_states.specs.History.{History, Where, Begun, Reached, Listed, Told, mark_in, visits_in}
use Rattle.cfa_states.specs.Numbered.{Numbered, numbered_in, params_of, agent_types, of_type}
use Rattle.cfa_states.specs.Passes.{most_visits, Course, goes, too_large, then_on, each, classes_for, raise_each, raise_lists, told, Calls, tell, worked, unless_skipped, visited, visit, visit_status, set_each, raise_all, within_limit, reached, vars_reached, classes_reached, bind, acting_reached, kept_by, guarded, reach, promises_from, types_from, passes, through, activation, called_by, calls_of}
use Rattle.cfa_states.specs.Tellers.{Teller, inner_path}
use Rattle.cfa_states.specs.Views.{Setting, Home, scopes_in, status_in, guard_status, reached_in_history}

-- a text that was refused for its size is one that the call builds
pub size_refused : (Builds : List ℕ → Type 0) (refused : Option (List ℕ)) (text : List ℕ) (pats pats' : Shown (List (List ℕ))) → refused ≡ Some text → SizeRefusal Builds refused pats pats' → Builds text
size_refused Builds refused text pats pats' is refusal = (subst (λ (r : Option (List ℕ)). SizeRefusal Builds r pats pats') is refusal).0

module _ (s : Setting) (content : List ℕ) where
  abbrev Has : History → Type 0
  Has h = BuiltIn s h content

  abbrev On : Course → Type 0
  On c = BuiltOn s c content

  -- what goes on from a history keeps what it builds
  abbrev pub KeepsBuilt : (History → Course) → Type 0
  KeepsBuilt next = (h : History) → Has h → On (next h)

  abbrev CallsKeep : Calls → Type 0
  CallsKeep activate = (i : Instance) (status : Status) → KeepsBuilt (activate i status)

  pub then_kept : (c : Course) (next : History → Course) → On c → KeepsBuilt next → On (then_on c next)
  then_kept (goes h) next built keeps = keeps h built
  then_kept (too_large h) next built keeps = built

  pub each_kept : {X : Type 0} (does : X → History → Course) → ((x : X) → KeepsBuilt (does x)) → (xs : List X) → KeepsBuilt (each does xs)
  each_kept does keeps [] h built = built
  each_kept does keeps (x ∷ xs) h built = then_kept (does x h) (each does xs) (keeps x h built) (each_kept does keeps xs)

  raise_each_kept : (i : Instance) (os : List Outcome) (status : Status) (classes : List (List ℕ)) (h : History) → Has h → Has (raise_each i os status classes h)
  raise_each_kept i os status [] h built = built
  raise_each_kept i os status (class ∷ classes) h built = raise_each_kept i os status classes _ built

  raise_lists_kept : (i : Instance) (os ps : List Outcome) (status : Status) (h : History) → Has h → Has (raise_lists i os ps status h)
  raise_lists_kept i os [] status h built = built
  raise_lists_kept i os (o ∷ ps) status h built = raise_lists_kept i os ps status _ (raise_each_kept i os status (classes_for i o) h built)

  pub told_kept : (i : Instance) (os : List Outcome) (status : Status) (h : History) → Has h → Has (told i os status h)
  unfolding told
  told_kept i os status h built = raise_lists_kept i os os status (Told i os ∷ h) built

  set_each_kept : (path name : List ℕ) (data' : List Datum) (h : History) → Has h → Has (set_each path name data' h)
  set_each_kept path name [] h built = built
  set_each_kept path name (datum ∷ more) h built = set_each_kept path name more _ built

  raise_all_kept : (before : History) (place : Where) (path : List ℕ) (guard : Status) (in_guard : Option (List ℕ)) (raises : List Raise) (h : History) → Has h → Has (raise_all before place path guard in_guard raises h)
  raise_all_kept before place path guard in_guard [] h built = built
  raise_all_kept before place path guard in_guard ((class, (status, first)) ∷ more) h built = raise_all_kept before place path guard in_guard more _ built

  bind_kept : (path : List ℕ) (params : List NamedTree) (given : List Datum) (h : History) → Has h → Has (bind path params given h)
  bind_kept path [] given h built = built
  bind_kept path (p ∷ params) [] h built = built
  bind_kept path (p ∷ params) (datum ∷ given) h built = bind_kept path params given _ built

  -- ---- visits

  module _ (t : Teller) (activate : Calls) (keeps : CallsKeep activate) where
    worked_kept : (i : Instance) (w : Work) (status : Status) → KeepsBuilt (worked t activate i w status)
    worked_kept i (Acts acts) status h built = told_kept i (t.tells h i) status h built
    worked_kept i (Report line) status h built = told_kept i (Kept ∷ []) status h built
    worked_kept i (Call name given) status h built =
        then_kept (activate i status h) (tell t i status) (keeps i status h built) (λ k has. told_kept i (t.tells k i) status k has)

    unless_kept : (i : Instance) (status : Status) (b : Bool) → KeepsBuilt (unless_skipped t activate i status b)
    unless_kept i status true h built = built
    unless_kept i status false h built = worked_kept i i.work status h built

    visited_kept : (i : Instance) (status : Status) → KeepsBuilt (visited t activate i status)
    visited_kept i No h built = built
    visited_kept i Maybe h built = unless_kept i Maybe (t.skips h i) (Listed i Maybe ∷ h) built
    visited_kept i Yes h built = unless_kept i Yes (t.skips h i) (Listed i Yes ∷ h) built

    pub visit_kept : (guard act : Status) (i : Instance) → KeepsBuilt (visit t activate guard act i)
    unfolding visit
    visit_kept guard act i h built = visited_kept i (visit_status guard act (mark_in h i.path i.text)) h built

  -- ---- promises

  pub limited_kept : (b : Bool) (c : Course) (h : History) → On c → Has h → On (within_limit b c h)
  limited_kept true c h on has = on
  limited_kept false c h on has = has

  reached_kept : (home : Home) (p : Numbered) (guard : Status) (sets : Bool) (visits : ℕ) (next : History → Course) → KeepsBuilt next → KeepsBuilt (reached home p guard sets visits next)
  reached_kept home p guard sets visits next keeps h built =
      let k : History = Reached home p guard sets visits ∷ h in
      limited_kept (nat_le (visits + visits_in h) most_visits) (next k) k (keeps k (inr built)) (inr built)

  vars_kept : (home : Home) (p : Numbered) (guard : Status) (choices : Option (List Chosen)) → KeepsBuilt (vars_reached s home p guard choices)
  vars_kept home p guard choices h built =
      let held : List Datum = data_set (scopes_in s h home) p.promise choices in
      reached_kept home p guard true (count_choices choices) (λ k. goes (set_each home.path p.promise.promiser held k))
      (λ k has. set_each_kept home.path p.promise.promiser held k has) h built

  classes_kept : (place : Where) (home : Home) (p : Numbered) (guard : Status) (choices : Option (List Chosen)) → KeepsBuilt (classes_reached s place home p guard choices)
  classes_kept place home p guard choices h built =
      let in_guard : Option (List ℕ) = first_maybe_of_guard p.promise.guard (status_in s h home.path) in
      let raises : List Raise = raises_of (status_in s h home.path) (scopes_in s h home) p.promise choices in
      reached_kept home p guard false (count_choices choices) (λ k. goes (raise_all h place home.path guard in_guard raises k))
      (λ k has. raise_all_kept h place home.path guard in_guard raises k has) h built

  -- what a promise builds itself
  pub built_where : (guard : Status) (h : History) (home : Home) (p : Numbered) → (guard ≡ No → ⊥) → BuiltAt s h home p content → BuiltWhere s guard h home p content
  built_where No h home p set built = absurd (set refl)
  built_where Maybe h home p set built = built
  built_where Yes h home p set built = built

  pub classes_built : (place : Where) (home : Home) (p : Numbered) (guard : Status) (choices : Option (List Chosen)) (h : History) → BuiltWhere s guard h home p content →
      On (classes_reached s place home p guard choices h)
  classes_built place home p guard choices h built =
      let k : History = Reached home p guard false (count_choices choices) ∷ h in
      let in_guard : Option (List ℕ) = first_maybe_of_guard p.promise.guard (status_in s h home.path) in
      let raises : List Raise = raises_of (status_in s h home.path) (scopes_in s h home) p.promise choices in
      limited_kept (nat_le (count_choices choices + visits_in h) most_visits) (goes (raise_all h place home.path guard in_guard raises k)) k
      (raise_all_kept h place home.path guard in_guard raises k (inl built)) (inl built)

  module _ (t : Teller) (activate : Calls) (keeps : CallsKeep activate) (place : Where) (home : Home) (act : Status) where
    pub instances_kept : (guard : Status) (is : List Instance) → KeepsBuilt (each (visit t activate guard act) is)
    instances_kept guard is = each_kept (visit t activate guard act) (visit_kept t activate keeps guard act) is

    pub acting_kept : (p : Numbered) (type : PromiseType) (guard : Status) → KeepsBuilt (acting_reached s t activate home act p type guard)
    acting_kept p type guard h built =
        let r : Resolved = resolution (reached_in_history s h home type p) in
        reached_kept home p guard false r.visits (each (visit t activate guard act) r.instances) (instances_kept guard r.instances) h built

    kept_by_kept : (p : Numbered) (type : PromiseType) (guard : Status) → KeepsBuilt (kept_by s t activate place home act p type guard)
    kept_by_kept p promises.Vars guard h built = vars_kept home p guard (setting_choices (scopes_in s h home) promises.Vars p.promise) h built
    kept_by_kept p promises.Classes guard h built = classes_kept place home p guard (setting_choices (scopes_in s h home) promises.Classes p.promise) h built
    kept_by_kept p promises.Files guard h built = acting_kept p promises.Files guard h built
    kept_by_kept p promises.Methods guard h built = acting_kept p promises.Methods guard h built
    kept_by_kept p promises.Services guard h built = acting_kept p promises.Services guard h built
    kept_by_kept p promises.Reports guard h built = acting_kept p promises.Reports guard h built
    kept_by_kept p type guard h built = built

    guarded_kept : (p : Numbered) (guard : Status) → KeepsBuilt (guarded s t activate place home act p guard)
    guarded_kept p No h built = reached_kept home p No _ 1 goes (λ k has. has) h built
    guarded_kept p Maybe h built = kept_by_kept p p.type Maybe h built
    guarded_kept p Yes h built = kept_by_kept p p.type Yes h built

    pub reach_kept : (p : Numbered) → KeepsBuilt (reach s t activate place home act p)
    unfolding reach
    reach_kept p h built = guarded_kept p (guard_status s h home.path p.promise.guard) h built

    pub promises_kept : (ps : List Numbered) → KeepsBuilt (promises_from s t activate place home act ps)
    promises_kept ps = each_kept (reach s t activate place home act) reach_kept ps

    pub types_kept : (ps : List Numbered) (types : List PromiseType) → KeepsBuilt (types_from s t activate place home act ps types)
    types_kept ps types = each_kept (λ type. promises_from s t activate place home act (of_type type ps)) (λ type. promises_kept (of_type type ps)) types

    pub passes_kept : (ps : List Numbered) (n : ℕ) → KeepsBuilt (passes s t activate place home act ps n)
    unfolding passes
    passes_kept ps zero h built = built
    passes_kept ps (suc n) h built =
        then_kept (types_from s t activate place home act ps agent_types h) (passes s t activate place home act ps n) (types_kept ps agent_types h built) (passes_kept ps n)

  -- ---- calls

  module _ (t : Teller) where
    through_kept : (activate : Calls) → CallsKeep activate → (path : List ℕ) (status : Status) (given : List Datum) (found : Option BlockTree) → KeepsBuilt (through s t activate path status given found)
    through_kept activate keeps path status given None h built = built
    through_kept activate keeps path status given (Some block) h built =
        passes_kept t activate keeps _ _ status (numbered_in block) 3 (bind path (params_of block) given h) (bind_kept path (params_of block) given h built)

    pub activation_kept : (activate : Calls) → CallsKeep activate → (path : List ℕ) (status : Status) (given : List Datum) (found : Option BlockTree) → KeepsBuilt (activation s t activate path status given found)
    activation_kept activate keeps path status given found h built = through_kept activate keeps path status given found (Begun path given ∷ h) built

    called_kept : (activate : Calls) → CallsKeep activate → (path : List ℕ) (w : Work) (status : Status) → KeepsBuilt (called_by s t activate path w status)
    called_kept activate keeps path (Acts acts) status h built = built
    called_kept activate keeps path (Report line) status h built = built
    called_kept activate keeps path (Call name given) status h built = through_kept activate keeps path status given (bundle_of s.policy name) (Begun path given ∷ h) built

    pub calls_kept : (n : ℕ) → CallsKeep (calls_of s t n)
    unfolding calls_of
    calls_kept zero i status h built = built
    calls_kept (suc n) i status h built = called_kept (calls_of s t n) (calls_kept n) (inner_path i) i.work status h built
