-- What each step of a run keeps, each level of the run keeps, and so does the whole. It is said of two runs at once, which differ in
-- their tellers and begin at one history.
use Rattle.std.proofs.Common.{◌≡◌, ℕ, zero, suc, ◌+◌, Bool, true, false, List, [], ◌∷◌, length, Option, Some, None, nat_le, refl, sym, subst, ◌⊎◌, inl, inr}
use Rattle.std.specs.Prelude.{cond}
use Rattle.std.specs.List.{AllByRecursion as Each}
use Rattle.cfa_base.specs.declared.places.PromiseId.{PromiseId}
use Rattle.cfa_statuses.specs.declared.levels.Status.{Status}
use Rattle.cfa_statuses.specs.declared.levels.Status.TheVariants.{No, Maybe, Yes}
use Rattle.cfa_statuses.specs.Status.{lesser}
use Rattle.cfa_defines.specs.ClassPromises.{Raise, raises_of}
use Rattle.cfa_defines.specs.FirstMaybe.{first_maybe_of_guard}
use Rattle.cfa_defines.specs.VarsPromises.{setting_choices, count_choices, data_set}
use Rattle.cfa_kinds.specs.declared.kinds.BundleType.{BundleType}
use Rattle.cfa_kinds.specs.declared.kinds.BundleType.TheVariants as bundles
use Rattle.cfa_kinds.specs.declared.kinds.PromiseType.{PromiseType}
use Rattle.cfa_kinds.specs.declared.kinds.PromiseType.TheVariants as promises
use Rattle.cfa_outcomes.specs.declared.outcomes.Outcome.TheVariants.{Kept}
use Rattle.cfa_resolve.specs.declared.instances.Instance.{Instance}
use Rattle.cfa_resolve.specs.declared.instances.Resolved.{Resolved}
use Rattle.cfa_resolve.specs.declared.instances.Work.{Work}
use Rattle.cfa_resolve.specs.declared.instances.Work.TheVariants.{Acts, Call, Report}
use Rattle.cfa_resolve.specs.Resolution.{resolution}
use Rattle.cfa_served.specs.Control.{sequence_of}
use Rattle.cfa_served.specs.Served.{bundle_of, common_bundles_of}
use Rattle.cfa_tree.specs.Tree.{NamedTree, BlockTree}
use Rattle.cfa_vars.specs.declared.scoping.Datum.{Datum}
use Rattle.cfa_vars.specs.Expansion.{Chosen}
use Rattle.cfa_states.specs.History.{History, Where, everywhere, within, Begun, Set, Raised, Reached, Listed, mark_in, visits_in}
use Rattle.cfa_states.specs.Numbered.{Numbered, numbered_in, params_of, name_of, agent_types, common_types, is_type, of_type}
use Rattle.cfa_states.specs.Passes.{Course, goes, too_large, then_on, each, told, Calls, tell, worked, visited, visit_status, visit, instances_from, set_each, handed, raise_all, most_visits, within_limit, reached, vars_reached, classes_reached, sets_variable, bind, acting_reached, kept_by, guarded, reach, promises_from, types_from, passes, through, activation, called_by, calls_of, all_calls, through_common, commons_from, common_passes, by_type, type_of_block, in_sequence, sequence_from, run}
use Rattle.cfa_states.specs.Tellers.{inner_path}
use Rattle.cfa_states.specs.Views.{Setting, Home, scopes_in, status_in, guard_status, reached_in_history}
use Rattle.cfa_convergence.specs.Conflicts.{HasActs}
use Rattle.cfa_convergence.specs.Told.{Telling, teller_of}

-- a call, and a report
abbrev pub IsCall : Work → Type 0
IsCall (Acts acts) = ⊥
IsCall (Call name arguments) = Unit {0}
IsCall (Report content) = ⊥

abbrev pub IsReport : Work → Type 0
IsReport (Acts acts) = ⊥
IsReport (Call name arguments) = ⊥
IsReport (Report content) = Unit {0}

-- what each step keeps, in a setting and by two tellers: at the paths of activations, at the places where classes are raised, at the
-- statuses of visits, of the instances that are visited, and of the promises that are reached
pub record Steps
    (s : Setting) (tells others : Telling) (Q : History → Course → Course → Type 0)
    (At : List ℕ → Type 0) (Place : Where → Type 0) (S : Status → Type 0) (Fit : List ℕ → Instance → Type 0) (Fine : Home → Numbered → Type 0) : Type 0 where
  pub stays : (h : History) → Q h (goes h) (goes h)
  pub past : (h : History) → Q h (too_large h) (too_large h)
  pub next : (h : History) (c d : Course) (f g : History → Course) → Q h c d → ((k : History) → Q k (f k) (g k)) → Q h (then_on c f) (then_on d g)
  pub placed : (path : List ℕ) → At path → Place (within path)
  pub inner : (path : List ℕ) (i : Instance) → Fit path i → At path → At (inner_path i)
  pub visit_is : (guard act mark : Status) → S act → (visit_status guard act mark ≡ No) ⊎ S (visit_status guard act mark)
  pub fits : (home : Home) (p : Numbered) (type : PromiseType) (h : History) → Fine home p →
      Each (Fit home.path) (resolution (reached_in_history s h home type p)).instances
  pub begins : (path : List ℕ) (given : List Datum) (h : History) → At path → Q h (goes (Begun path given ∷ h)) (goes (Begun path given ∷ h))
  pub sets : (path name : List ℕ) (datum : Datum) (h : History) → At path → Q h (goes (Set path name datum ∷ h)) (goes (Set path name datum ∷ h))
  pub raises : (place : Where) (class : List ℕ) (status : Status) (source : Option PromiseId) (h : History) → Place place →
      Q h (goes (Raised place class status source ∷ h)) (goes (Raised place class status source ∷ h))
  pub reaches : (home : Home) (p : Numbered) (guard : Status) (is : Bool) (visits : ℕ) (h : History) → Fine home p →
      Q h (goes (Reached home p guard is visits ∷ h)) (goes (Reached home p guard is visits ∷ h))
  -- an instance with acts is visited and told, and so is a report; a call is visited, and told when its bundle has ended
  pub acts : (path : List ℕ) (i : Instance) (status : Status) (h : History) → Fit path i → HasActs i.work → S status →
      Q h (goes (told i (tells (Listed i status ∷ h) i) status (Listed i status ∷ h))) (goes (told i (others (Listed i status ∷ h) i) status (Listed i status ∷ h)))
  pub reports : (path : List ℕ) (i : Instance) (status : Status) (h : History) → Fit path i → IsReport i.work → S status →
      Q h (goes (told i (Kept ∷ []) status (Listed i status ∷ h))) (goes (told i (Kept ∷ []) status (Listed i status ∷ h)))
  pub lists : (path : List ℕ) (i : Instance) (status : Status) (h : History) → Fit path i → IsCall i.work → S status →
      Q h (goes (Listed i status ∷ h)) (goes (Listed i status ∷ h))
  pub ends : (path : List ℕ) (i : Instance) (status : Status) (h : History) → Fit path i → IsCall i.work → S status →
      Q h (goes (told i (tells h i) status h)) (goes (told i (others h i) status h))

-- a call that both make
abbrev pub CallsKeep : (Q : History → Course → Course → Type 0) (At : List ℕ → Type 0) (S : Status → Type 0) → Calls → Calls → Type 0
CallsKeep Q At S activate other = (i : Instance) (status : Status) (h : History) → At (inner_path i) → S status → Q h (activate i status h) (other i status h)

module _ (s : Setting) (tells others : Telling) (Q : History → Course → Course → Type 0)
    (At : List ℕ → Type 0) (Place : Where → Type 0) (S : Status → Type 0) (Fit : List ℕ → Instance → Type 0) (Fine : Home → Numbered → Type 0)
    (k : Steps s tells others Q At Place S Fit Fine) where
  -- one after the other
  pub each_level : {X : Type 0} (P : X → Type 0) (does other : X → History → Course) → ((x : X) (h : History) → P x → Q h (does x h) (other x h)) →
      (xs : List X) → Each P xs → (h : History) → Q h (each does xs h) (each other xs h)
  each_level P does other keeps [] all h = k.stays h
  each_level P does other keeps (x ∷ xs) all h =
      k.next h (does x h) (other x h) (each does xs) (each other xs) (keeps x h all.0) (λ m. each_level P does other keeps xs all.1 m)

  limit_level : (b : Bool) (c d : Course) (h m : History) → Q h c d → Q h (too_large m) (too_large m) → Q h (within_limit b c m) (within_limit b d m)
  limit_level true c d h m q past = q
  limit_level false c d h m q past = past

  reached_level : (home : Home) (p : Numbered) → Fine home p → (guard : Status) (is : Bool) (visits : ℕ) (f g : History → Course) →
      ((m : History) → Q m (f m) (g m)) → (h : History) → Q h (reached home p guard is visits f h) (reached home p guard is visits g h)
  reached_level home p fine guard is visits f g keeps h =
      let m : History = Reached home p guard is visits ∷ h in
      limit_level (nat_le (visits + visits_in h) most_visits) (f m) (g m) h m
      (k.next h (goes m) (goes m) f g (k.reaches home p guard is visits h fine) keeps)
      (k.next h (goes m) (goes m) too_large too_large (k.reaches home p guard is visits h fine) k.past)

  sets_level : (path name : List ℕ) → At path → (held : List Datum) (h : History) → Q h (goes (set_each path name held h)) (goes (set_each path name held h))
  sets_level path name at [] h = k.stays h
  sets_level path name at (datum ∷ more) h =
      k.next h (goes (Set path name datum ∷ h)) (goes (Set path name datum ∷ h)) (λ m. goes (set_each path name more m)) (λ m. goes (set_each path name more m))
      (k.sets path name datum h at) (sets_level path name at more)

  raises_level : (before : History) (place : Where) (path : List ℕ) (guard : Status) (in_guard : Option (List ℕ)) → Place place → (rs : List Raise) (h : History) →
      Q h (goes (raise_all before place path guard in_guard rs h)) (goes (raise_all before place path guard in_guard rs h))
  raises_level before place path guard in_guard ok [] h = k.stays h
  raises_level before place path guard in_guard ok (r ∷ more) h =
      let source = handed before path in_guard r.1.1 (lesser guard r.1.0) in
      k.next h (goes (Raised place r.0 (lesser guard r.1.0) source ∷ h)) (goes (Raised place r.0 (lesser guard r.1.0) source ∷ h))
      (λ m. goes (raise_all before place path guard in_guard more m)) (λ m. goes (raise_all before place path guard in_guard more m))
      (k.raises place r.0 (lesser guard r.1.0) source h ok) (raises_level before place path guard in_guard ok more)

  bind_level : (path : List ℕ) → At path → (params : List NamedTree) (given : List Datum) (h : History) → Q h (goes (bind path params given h)) (goes (bind path params given h))
  bind_level path at [] given h = k.stays h
  bind_level path at (p ∷ params) [] h = k.stays h
  bind_level path at (p ∷ params) (datum ∷ given) h =
      k.next h (goes (Set path p.name datum ∷ h)) (goes (Set path p.name datum ∷ h)) (λ m. goes (bind path params given m)) (λ m. goes (bind path params given m))
      (k.sets path p.name datum h at) (bind_level path at params given)

  module _ (activate other : Calls) (calls : CallsKeep Q At S activate other) where
    worked_level : (path : List ℕ) (i : Instance) (w : Work) → i.work ≡ w → (status : Status) → S status → Fit path i → At (inner_path i) → (h : History) →
        Q h (worked (teller_of tells) activate i w status (Listed i status ∷ h)) (worked (teller_of others) other i w status (Listed i status ∷ h))
    worked_level path i (Acts acts) is status ok fit at h = k.acts path i status h fit (subst HasActs (sym is) tt) ok
    worked_level path i (Report content) is status ok fit at h = k.reports path i status h fit (subst IsReport (sym is) tt) ok
    worked_level path i (Call name given) is status ok fit at h =
        let call : IsCall i.work = subst IsCall (sym is) tt in
        k.next h (goes (Listed i status ∷ h)) (goes (Listed i status ∷ h)) (λ m. then_on (activate i status m) (tell (teller_of tells) i status)) (λ m. then_on (other i status m) (tell (teller_of others) i status))
        (k.lists path i status h fit call ok)
        (λ m. k.next m (activate i status m) (other i status m) (tell (teller_of tells) i status) (tell (teller_of others) i status) (calls i status m at ok) (λ x. k.ends path i status x fit call ok))

    visited_level : (path : List ℕ) (i : Instance) (status : Status) → (status ≡ No) ⊎ S status → Fit path i → At (inner_path i) → (h : History) →
        Q h (visited (teller_of tells) activate i status h) (visited (teller_of others) other i status h)
    visited_level path i No ok fit at h = k.stays h
    visited_level path i Maybe (inl e) fit at h = absurd (cc)
    visited_level path i Maybe (inr ok) fit at h = worked_level path i i.work refl Maybe ok fit at h
    visited_level path i Yes (inl e) fit at h = absurd (cc)
    visited_level path i Yes (inr ok) fit at h = worked_level path i i.work refl Yes ok fit at h

    -- a visit, where it may come
    pub visit_level : (path : List ℕ) (guard act : Status) (i : Instance) (h : History) →
        (visit_status guard act (mark_in h i.path i.text) ≡ No) ⊎ S (visit_status guard act (mark_in h i.path i.text)) → Fit path i → At (inner_path i) →
        Q h (visit (teller_of tells) activate guard act i h) (visit (teller_of others) other guard act i h)
    unfolding visit
    visit_level path guard act i h ok fit at = visited_level path i (visit_status guard act (mark_in h i.path i.text)) ok fit at h

    module _ (home : Home) (at : At home.path) (place : Where) (there : Place place) (act : Status) (active : S act) where
      pub instances_level : (guard : Status) (is : List Instance) → Each (Fit home.path) is → (h : History) →
          Q h (instances_from (teller_of tells) activate guard act is h) (instances_from (teller_of others) other guard act is h)
      instances_level guard =
          each_level (Fit home.path) (visit (teller_of tells) activate guard act) (visit (teller_of others) other guard act)
          (λ i h fit. visit_level home.path guard act i h (k.visit_is guard act (mark_in h i.path i.text) active) fit (k.inner home.path i fit at))

      vars_level : (p : Numbered) → Fine home p → (guard : Status) (choices : Option (List Chosen)) (h : History) → Q h (vars_reached s home p guard choices h) (vars_reached s home p guard choices h)
      vars_level p fine guard choices h =
          let does : History → Course = λ m. goes (set_each home.path p.promise.promiser (data_set (scopes_in s h home) p.promise choices) m) in
          reached_level home p fine guard true (count_choices choices) does does (sets_level home.path p.promise.promiser at (data_set (scopes_in s h home) p.promise choices)) h

      classes_level : (p : Numbered) → Fine home p → (guard : Status) (choices : Option (List Chosen)) (h : History) →
          Q h (classes_reached s place home p guard choices h) (classes_reached s place home p guard choices h)
      classes_level p fine guard choices h =
          let first = first_maybe_of_guard p.promise.guard (status_in s h home.path) in
          let rs = raises_of (status_in s h home.path) (scopes_in s h home) p.promise choices in
          let does : History → Course = λ m. goes (raise_all h place home.path guard first rs m) in
          reached_level home p fine guard false (count_choices choices) does does (raises_level h place home.path guard first there rs) h

      acting_level : (p : Numbered) (type : PromiseType) (guard : Status) → Fine home p → (h : History) →
          Q h (acting_reached s (teller_of tells) activate home act p type guard h) (acting_reached s (teller_of others) other home act p type guard h)
      acting_level p type guard fine h =
          let r : Resolved = resolution (reached_in_history s h home type p) in
          reached_level home p fine guard false r.visits (instances_from (teller_of tells) activate guard act r.instances) (instances_from (teller_of others) other guard act r.instances)
          (instances_level guard r.instances (k.fits home p type h fine)) h

      kept_level : (p : Numbered) (type : PromiseType) (guard : Status) → Fine home p → (h : History) →
          Q h (kept_by s (teller_of tells) activate place home act p type guard h) (kept_by s (teller_of others) other place home act p type guard h)
      kept_level p promises.Vars guard fine h = vars_level p fine guard (setting_choices (scopes_in s h home) promises.Vars p.promise) h
      kept_level p promises.Classes guard fine h = classes_level p fine guard (setting_choices (scopes_in s h home) promises.Classes p.promise) h
      kept_level p promises.Files guard fine h = acting_level p promises.Files guard fine h
      kept_level p promises.Methods guard fine h = acting_level p promises.Methods guard fine h
      kept_level p promises.Services guard fine h = acting_level p promises.Services guard fine h
      kept_level p promises.Reports guard fine h = acting_level p promises.Reports guard fine h
      kept_level p type guard fine h = k.stays h

      guarded_level : (p : Numbered) (guard : Status) → Fine home p → (h : History) →
          Q h (guarded s (teller_of tells) activate place home act p guard h) (guarded s (teller_of others) other place home act p guard h)
      guarded_level p No fine h = reached_level home p fine No (sets_variable p.type) 1 goes goes k.stays h
      guarded_level p Maybe fine h = kept_level p p.type Maybe fine h
      guarded_level p Yes fine h = kept_level p p.type Yes fine h

      pub reach_level : (p : Numbered) (h : History) → Fine home p → Q h (reach s (teller_of tells) activate place home act p h) (reach s (teller_of others) other place home act p h)
      unfolding reach
      reach_level p h fine = guarded_level p (guard_status s h home.path p.promise.guard) fine h

      -- the promises of a type are among these
      of_type_each : (type : PromiseType) (ps : List Numbered) → Each (Fine home) ps → Each (Fine home) (of_type type ps)
      of_type_each type [] all = tt
      of_type_each type (p ∷ ps) all = go (is_type type p.type) (of_type_each type ps all.1)
        where
          go : (b : Bool) → Each (Fine home) (of_type type ps) → Each (Fine home) (cond b (p ∷ of_type type ps) (of_type type ps))
          go true rest = (all.0, rest)
          go false rest = rest

      pub promises_level : (ps : List Numbered) → Each (Fine home) ps → (h : History) →
          Q h (promises_from s (teller_of tells) activate place home act ps h) (promises_from s (teller_of others) other place home act ps h)
      promises_level ps all h =
          each_level (Fine home) (reach s (teller_of tells) activate place home act) (reach s (teller_of others) other place home act) (λ p m fine. reach_level p m fine) ps all h

      -- those of each of these types
      pub types_level : (ps : List Numbered) (types : List PromiseType) → Each (λ (type : PromiseType). Each (Fine home) (of_type type ps)) types → (h : History) →
          Q h (types_from s (teller_of tells) activate place home act ps types h) (types_from s (teller_of others) other place home act ps types h)
      types_level ps types all h =
          each_level (λ type. Each (Fine home) (of_type type ps)) (λ type. promises_from s (teller_of tells) activate place home act (of_type type ps))
          (λ type. promises_from s (teller_of others) other place home act (of_type type ps)) (λ type m fine. promises_level (of_type type ps) fine m) types all h

      each_type : (ps : List Numbered) → Each (Fine home) ps → (types : List PromiseType) → Each (λ (type : PromiseType). Each (Fine home) (of_type type ps)) types
      each_type ps all [] = tt
      each_type ps all (type ∷ types) = (of_type_each type ps all, each_type ps all types)

      pub passes_level : (ps : List Numbered) → Each (Fine home) ps → (n : ℕ) (h : History) →
          Q h (passes s (teller_of tells) activate place home act ps n h) (passes s (teller_of others) other place home act ps n h)
      unfolding passes
      passes_level ps all zero h = k.stays h
      passes_level ps all (suc n) h =
          k.next h (types_from s (teller_of tells) activate place home act ps agent_types h) (types_from s (teller_of others) other place home act ps agent_types h)
          (passes s (teller_of tells) activate place home act ps n) (passes s (teller_of others) other place home act ps n)
          (types_level ps agent_types (each_type ps all agent_types) h) (passes_level ps all n)

  -- ---- activations

  module _ (fine : (path name : List ℕ) (block : BlockTree) → At path → bundle_of s.policy name ≡ Some block → Each (Fine (record { path = path; bundle = name_of block })) (numbered_in block)) where
    pub activation_level : (activate other : Calls) → CallsKeep Q At S activate other → (path : List ℕ) → At path → (status : Status) → S status → (given : List Datum) (name : List ℕ)
        (found : Option BlockTree) → bundle_of s.policy name ≡ found → (h : History) →
        Q h (activation s (teller_of tells) activate path status given found h) (activation s (teller_of others) other path status given found h)
    activation_level activate other calls path at status ok given name None is h = k.begins path given h at
    activation_level activate other calls path at status ok given name (Some block) is h =
        k.next h (goes (Begun path given ∷ h)) (goes (Begun path given ∷ h)) (through s (teller_of tells) activate path status given (Some block)) (through s (teller_of others) other path status given (Some block))
        (k.begins path given h at)
        (λ m. k.next m (goes (bind path (params_of block) given m)) (goes (bind path (params_of block) given m))
        (passes s (teller_of tells) activate (within path) (record { path = path; bundle = name_of block }) status (numbered_in block) 3)
        (passes s (teller_of others) other (within path) (record { path = path; bundle = name_of block }) status (numbered_in block) 3)
        (bind_level path at (params_of block) given m)
        (passes_level activate other calls (record { path = path; bundle = name_of block }) at (within path) (k.placed path at) status ok (numbered_in block) (fine path name block at is) 3))

    called_level : (activate other : Calls) → CallsKeep Q At S activate other → (path : List ℕ) → At path → (w : Work) (status : Status) → S status → (h : History) →
        Q h (called_by s (teller_of tells) activate path w status h) (called_by s (teller_of others) other path w status h)
    called_level activate other calls path at (Acts acts) status ok h = k.stays h
    called_level activate other calls path at (Report content) status ok h = k.stays h
    called_level activate other calls path at (Call name given) status ok h =
        activation_level activate other calls path at status ok given name (bundle_of s.policy name) refl h

    pub calls_level : (n : ℕ) → CallsKeep Q At S (calls_of s (teller_of tells) n) (calls_of s (teller_of others) n)
    unfolding calls_of
    calls_level zero i status h at ok = k.begins (inner_path i) [] h at
    calls_level (suc n) i status h at ok =
        called_level (calls_of s (teller_of tells) n) (calls_of s (teller_of others) n) (calls_level n) (inner_path i) at i.work status ok h

    -- ---- the whole run

    module _ (everywhere_ok : Place everywhere) (yes_ok : S Yes)
        (commons_ok : Each (λ (block : BlockTree). At (name_of block) × Each (λ (type : PromiseType). Each (Fine (record { path = name_of block; bundle = name_of block })) (of_type type (numbered_in block))) common_types) (common_bundles_of s.policy))
        (sequence_ok : Each At (sequence_of s.policy)) where
      keep : CallsKeep Q At S (all_calls s (teller_of tells)) (all_calls s (teller_of others))
      keep = calls_level (length s.policy)

      pub commons_level : (h : History) → Q h (commons_from s (teller_of tells) (common_bundles_of s.policy) h) (commons_from s (teller_of others) (common_bundles_of s.policy) h)
      commons_level =
          each_level (λ block. At (name_of block) × Each (λ (type : PromiseType). Each (Fine (record { path = name_of block; bundle = name_of block })) (of_type type (numbered_in block))) common_types)
          (through_common s (teller_of tells)) (through_common s (teller_of others))
          (λ block h ok. types_level (all_calls s (teller_of tells)) (all_calls s (teller_of others)) keep
          (record { path = name_of block; bundle = name_of block }) ok.0 everywhere everywhere_ok Yes yes_ok (numbered_in block) common_types ok.1 h)
          (common_bundles_of s.policy) commons_ok

      pub common_level : (n : ℕ) (h : History) → Q h (common_passes s (teller_of tells) n h) (common_passes s (teller_of others) n h)
      unfolding common_passes
      common_level zero h = k.stays h
      common_level (suc n) h =
          k.next h (commons_from s (teller_of tells) (common_bundles_of s.policy) h) (commons_from s (teller_of others) (common_bundles_of s.policy) h)
          (common_passes s (teller_of tells) n) (common_passes s (teller_of others) n) (commons_level h) (common_level n)

      by_type_level : (name : List ℕ) → At name → (type : Option BundleType) (h : History) →
          Q h (by_type s (teller_of tells) name type (bundle_of s.policy name) h) (by_type s (teller_of others) name type (bundle_of s.policy name) h)
      by_type_level name at None h = k.stays h
      by_type_level name at (Some bundles.Agent) h =
          activation_level (all_calls s (teller_of tells)) (all_calls s (teller_of others)) keep name at Yes yes_ok [] name (bundle_of s.policy name) refl h
      by_type_level name at (Some bundles.Common) h = k.stays h
      by_type_level name at (Some bundles.EditLine) h = k.stays h

      pub run_level : Q [] (run s (teller_of tells)) (run s (teller_of others))
      unfolding run
      run_level =
          k.next [] (common_passes s (teller_of tells) 3 []) (common_passes s (teller_of others) 3 []) (sequence_from s (teller_of tells) (sequence_of s.policy)) (sequence_from s (teller_of others) (sequence_of s.policy))
          (common_level 3 [])
          (each_level At (λ name. in_sequence s (teller_of tells) name (bundle_of s.policy name)) (λ name. in_sequence s (teller_of others) name (bundle_of s.policy name))
          (λ name h at. by_type_level name at (type_of_block s (teller_of tells) (bundle_of s.policy name)) h) (sequence_of s.policy) sequence_ok)
