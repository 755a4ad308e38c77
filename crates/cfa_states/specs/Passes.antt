-- A run is a history that is made level by level; each level is handed what is left for it to go through. The common bundles are
-- gone through three times, each time in text order, and in each its vars come before its classes. Then each agent bundle of the
-- sequence is activated: a fresh scope, and three passes, in which the types stand in their order and the promises of a type in
-- text order. A promise's guard is read once, when it is reached; where it isn't set the promise does nothing. Its instances
-- are visited in the order of their combinations, and the call of a visit activates its bundle there and then.
--
-- A promise with which more than 1,000,000 visits are counted does nothing, and the history ends as too large where it is reached.
use Rattle.std.specs.Prelude.{ℕ, zero, suc, ◌+◌, Bool, true, false, List, [], ◌∷◌, length, nat_le, Option, Some, None}
use Rattle.cfa_base.specs.declared.places.PromiseId.{PromiseId}
use Rattle.cfa_tree.specs.Tree.{NamedTree, BlockTree, bundle, body}
use Rattle.cfa_kinds.specs.declared.kinds.BundleType.{BundleType}
use Rattle.cfa_kinds.specs.declared.kinds.BundleType.TheVariants as bundles
use Rattle.cfa_kinds.specs.declared.kinds.PromiseType.{PromiseType}
use Rattle.cfa_kinds.specs.declared.kinds.PromiseType.TheVariants as promises
use Rattle.cfa_kinds.specs.Kinds.{bundle_type}
use Rattle.cfa_statuses.specs.declared.levels.Status.{Status}
use Rattle.cfa_statuses.specs.declared.levels.Status.TheVariants.{No, Maybe, Yes}
use Rattle.cfa_statuses.specs.Status.{swapped, lesser}
use Rattle.cfa_served.specs.Control.{sequence_of}
use Rattle.cfa_served.specs.Served.{bundle_of, common_bundles_of}
use Rattle.cfa_vars.specs.declared.scoping.Datum.{Datum}
use Rattle.cfa_vars.specs.Expansion.{Chosen}
use Rattle.cfa_resolve.specs.declared.instances.Instance.{Instance}
use Rattle.cfa_resolve.specs.declared.instances.Resolved.{Resolved}
use Rattle.cfa_resolve.specs.declared.instances.Work.{Work}
use Rattle.cfa_resolve.specs.declared.instances.Work.TheVariants.{Acts, Call, Report}
use Rattle.cfa_base.specs.Index.{is_listed}
use Rattle.cfa_resolve.specs.Resolution.{resolution}
use Rattle.cfa_outcomes.specs.declared.outcomes.Outcome.{Outcome}
use Rattle.cfa_outcomes.specs.declared.outcomes.Outcome.TheVariants.{Kept, Repaired, Failed}
use Rattle.cfa_states.specs.declared.states.TheConstants.{MOST_VISITS}
use Rattle.cfa_states.specs.History.{History, Where, everywhere, within, Begun, Set, Raised, Reached, Listed, Told, mark_in, visits_in}
use Rattle.cfa_states.specs.Numbered.{Numbered, numbered_in, params_of, name_of, agent_types, common_types, of_type}
use Rattle.cfa_states.specs.Views.{Setting, Home, scopes_in, status_in, guard_status, source_of, reached_in_history}
use Rattle.cfa_defines.specs.FirstMaybe.{first_maybe_of_guard}
use Rattle.cfa_defines.specs.VarsPromises.{setting_choices, count_choices, data_set}
use Rattle.cfa_defines.specs.ClassPromises.{Raise, raises_of}
use Rattle.cfa_states.specs.Tellers.{Teller, inner_path}

-- a history that goes on, or one that ended as too large
pub data Course : Type 0 where
  goes : History → Course
  too_large : History → Course

abbrev pub then_on : Course → (History → Course) → Course
then_on (goes h) next = next h
then_on (too_large h) next = too_large h

-- one after the other, from one of them on
abbrev pub each : {X : Type 0} → (X → History → Course) → List X → History → Course
each does [] h = goes h
each does (x ∷ more) h = then_on (does x h) (each does more)

-- ---- outcome classes

abbrev pub classes_for : Instance → Outcome → List (List ℕ)
classes_for instance Kept = instance.kept
classes_for instance Repaired = instance.repaired
classes_for instance Failed = instance.failed

-- whether the list of every outcome has the class
abbrev pub in_every_list : Instance → List Outcome → List ℕ → Bool
in_every_list instance [] class = true
in_every_list instance (outcome ∷ others) class =
    elim (is_listed (classes_for instance outcome) class) [ true ↦ in_every_list instance others class | false ↦ false ]

-- to the visit's status where every outcome's list has the class, else to Maybe
abbrev pub raised_to : Status → (in_every : Bool) → Status
raised_to status true = status
raised_to status false = Maybe

abbrev pub raise_each : Instance → List Outcome → Status → List (List ℕ) → History → History
raise_each instance outcomes status [] h = h
raise_each instance outcomes status (class ∷ classes) h =
    raise_each instance outcomes status classes
    (Raised everywhere class (raised_to status (in_every_list instance outcomes class)) (Some instance.source) ∷ h)

-- the classes of each outcome's list, one after the other
abbrev pub raise_lists : Instance → List Outcome → List Outcome → Status → History → History
raise_lists instance outcomes [] status h = h
raise_lists instance outcomes (outcome ∷ others) status h =
    raise_lists instance outcomes others status (raise_each instance outcomes status (classes_for instance outcome) h)

-- an instance is told, and its classes are raised
unfoldable pub told : Instance → List Outcome → Status → History → History
told instance outcomes status h = raise_lists instance outcomes outcomes status (Told instance outcomes ∷ h)

-- ---- visits

-- what the activation of a call's bundle makes of a history, by the call and the status of its visit
abbrev pub Calls : Type 0
Calls = Instance → Status → History → Course

abbrev pub tell : Teller → Instance → Status → History → Course
tell teller instance status h = goes (told instance (teller.tells h instance) status h)

-- what follows a listing: acts are told, a report is kept, and a call's bundle is gone through before the call is told
abbrev pub worked : Teller → Calls → Instance → Work → Status → History → Course
worked teller activate instance (Acts acts) status h = tell teller instance status h
worked teller activate instance (Report content) status h = goes (told instance (Kept ∷ []) status h)
worked teller activate instance (Call name arguments) status h = then_on (activate instance status h) (tell teller instance status)

-- a skipped instance does nothing and has no outcome
abbrev pub unless_skipped : Teller → Calls → Instance → Status → (is_skipped : Bool) → History → Course
unless_skipped teller activate instance status true h = goes (Told instance [] ∷ h)
unless_skipped teller activate instance status false h = worked teller activate instance instance.work status h

abbrev pub visited : Teller → Calls → Instance → Status → History → Course
visited teller activate instance No h = goes h
visited teller activate instance Maybe h = unless_skipped teller activate instance Maybe (teller.skips h instance) (Listed instance Maybe ∷ h)
visited teller activate instance Yes h = unless_skipped teller activate instance Yes (teller.skips h instance) (Listed instance Yes ∷ h)

-- the least of what the guard, the activation and earlier visits allow: they allow Yes where the instance was never listed, Maybe
-- where it was with Maybe, No where it was with Yes
abbrev pub visit_status : (guard activation mark : Status) → Status
visit_status guard activation mark = lesser guard (lesser activation (swapped mark))

unfoldable pub visit : Teller → Calls → (guard activation : Status) → Instance → History → Course
visit teller activate guard activation instance h =
    visited teller activate instance (visit_status guard activation (mark_in h instance.path instance.text)) h

-- the instances of a promise, from one of them on
abbrev pub instances_from : Teller → Calls → (guard activation : Status) → List Instance → History → Course
instances_from teller activate guard activation = each (visit teller activate guard activation)

-- ---- promises

abbrev pub set_each : (path name : List ℕ) → List Datum → History → History
set_each path name [] h = h
set_each path name (datum ∷ more) h = set_each path name more (Set path name datum ∷ h)

-- the source that a class is handed where it is raised to Maybe: that of the first Maybe class in the guard, else in its
-- expressions
abbrev pub handed : History → (path : List ℕ) → (in_guard in_expressions : Option (List ℕ)) → Status → Option PromiseId
handed h path in_guard in_expressions No = None
handed h path in_guard in_expressions Yes = None
handed h path (Some class) in_expressions Maybe = source_of h path (Some class)
handed h path None in_expressions Maybe = source_of h path in_expressions

abbrev pub raise_event : (before : History) → Where → (path : List ℕ) → (guard : Status) → Option (List ℕ) → Raise → History → History
raise_event before place path guard in_guard (class, (status, first)) h =
    Raised place class (lesser guard status) (handed before path in_guard first (lesser guard status)) ∷ h

-- all by the state before the promise
abbrev pub raise_all : (before : History) → Where → (path : List ℕ) → (guard : Status) → Option (List ℕ) → List Raise → History → History
raise_all before place path guard in_guard [] h = h
raise_all before place path guard in_guard (r ∷ more) h =
    raise_all before place path guard in_guard more (raise_event before place path guard in_guard r h)

-- the most visits that a run counts
abbrev pub most_visits : ℕ
most_visits = MOST_VISITS

abbrev pub within_limit : Bool → Course → History → Course
within_limit true course h = course
within_limit false course h = too_large h

-- a promise is reached: it counts its visits, and does what it does, unless that would be too many
abbrev pub reached : Home → Numbered → (guard : Status) → (sets : Bool) → (visits : ℕ) → (History → Course) → History → Course
reached home p guard sets visits next h =
    within_limit (nat_le (visits + visits_in h) most_visits) (next (Reached home p guard sets visits ∷ h))
    (Reached home p guard sets visits ∷ h)

module _ (s : Setting) where
  abbrev pub vars_reached : Home → Numbered → Status → Option (List Chosen) → History → Course
  vars_reached home p guard choices h =
      reached home p guard true (count_choices choices)
      (λ k. goes (set_each home.path p.promise.promiser (data_set (scopes_in s h home) p.promise choices) k)) h

  abbrev pub classes_reached : Where → Home → Numbered → Status → Option (List Chosen) → History → Course
  classes_reached place home p guard choices h =
      reached home p guard false (count_choices choices)
      (λ k. goes (raise_all h place home.path guard (first_maybe_of_guard p.promise.guard (status_in s h home.path))
      (raises_of (status_in s h home.path) (scopes_in s h home) p.promise choices) k)) h

abbrev pub sets_variable : PromiseType → Bool
sets_variable promises.Vars = true
sets_variable type = false

-- the parameters with what the arguments give
abbrev pub bind : (path : List ℕ) → List NamedTree → List Datum → History → History
bind path [] given h = h
bind path (p ∷ params) [] h = h
bind path (p ∷ params) (datum ∷ given) h = bind path params given (Set path p.name datum ∷ h)

module _ (s : Setting) (teller : Teller) where
  abbrev pub instances_reached : Calls → Home → (activation : Status) → Numbered → Status → Resolved → History → Course
  instances_reached activate home activation p guard resolved h =
      reached home p guard false resolved.visits (instances_from teller activate guard activation resolved.instances) h

  abbrev pub acting_reached : Calls → Home → (activation : Status) → Numbered → PromiseType → Status → History → Course
  acting_reached activate home activation p type guard h =
      instances_reached activate home activation p guard
      (resolution (reached_in_history s h home type p)) h

  -- a promise whose guard may hold; no agent bundle has others
  abbrev pub kept_by : Calls → Where → Home → (activation : Status) → Numbered → PromiseType → Status → History → Course
  kept_by activate place home activation p promises.Vars guard h =
      vars_reached s home p guard (setting_choices (scopes_in s h home) promises.Vars p.promise) h
  kept_by activate place home activation p promises.Classes guard h =
      classes_reached s place home p guard (setting_choices (scopes_in s h home) promises.Classes p.promise) h
  kept_by activate place home activation p promises.Files guard h =
      acting_reached activate home activation p promises.Files guard h
  kept_by activate place home activation p promises.Methods guard h =
      acting_reached activate home activation p promises.Methods guard h
  kept_by activate place home activation p promises.Services guard h =
      acting_reached activate home activation p promises.Services guard h
  kept_by activate place home activation p promises.Reports guard h =
      acting_reached activate home activation p promises.Reports guard h
  kept_by activate place home activation p type guard h = goes h

  -- where the guard isn't set a promise counts once and does nothing
  abbrev pub guarded : Calls → Where → Home → (activation : Status) → Numbered → Status → History → Course
  guarded activate place home activation p No h = reached home p No (sets_variable p.type) 1 goes h
  guarded activate place home activation p Maybe h = kept_by activate place home activation p p.type Maybe h
  guarded activate place home activation p Yes h = kept_by activate place home activation p p.type Yes h

  unfoldable pub reach : Calls → Where → Home → (activation : Status) → Numbered → History → Course
  reach activate place home activation p h =
      guarded activate place home activation p (guard_status s h home.path p.promise.guard) h

  abbrev pub promises_from : Calls → Where → Home → (activation : Status) → List Numbered → History → Course
  promises_from activate place home activation = each (reach activate place home activation)

  -- ---- passes

  abbrev pub types_from : Calls → Where → Home → (activation : Status) → List Numbered → List PromiseType → History → Course
  types_from activate place home activation ps =
      each (λ type. promises_from activate place home activation (of_type type ps))

  -- so many passes
  unfoldable pub passes : Calls → Where → Home → (activation : Status) → List Numbered → ℕ → History → Course
  passes activate place home activation ps zero h = goes h
  passes activate place home activation ps (suc n) h =
      then_on (types_from activate place home activation ps agent_types h) (passes activate place home activation ps n)

  -- a bundle is gone through under a path, with arguments and a status
  abbrev pub through : Calls → (path : List ℕ) → Status → List Datum → Option BlockTree → History → Course
  through activate path status given None h = goes h
  through activate path status given (Some block) h =
      passes activate (within path) (record { path = path; bundle = name_of block }) status (numbered_in block) 3
      (bind path (params_of block) given h)

  -- an activation of a bundle
  abbrev pub activation : Calls → (path : List ℕ) → Status → List Datum → Option BlockTree → History → Course
  activation activate path status given found h = through activate path status given found (Begun path given ∷ h)

  abbrev pub called_by : Calls → (path : List ℕ) → Work → Status → History → Course
  called_by activate path (Acts acts) status h = goes h
  called_by activate path (Report content) status h = goes h
  called_by activate path (Call name given) status h = activation activate path status given (bundle_of s.policy name) h

  -- calls inside calls, so deep; one that would be deeper, which no valid policy has, begins and does nothing
  unfoldable pub calls_of : ℕ → Calls
  calls_of zero = λ instance status h. goes (Begun (inner_path instance) [] ∷ h)
  calls_of (suc n) = λ instance status h. called_by (calls_of n) (inner_path instance) instance.work status h

  -- no chain of calls is longer than there are blocks
  abbrev pub all_calls : Calls
  all_calls = calls_of (length s.policy)

  -- ---- common bundles

  abbrev pub through_common : BlockTree → History → Course
  through_common block =
      types_from all_calls everywhere (record { path = name_of block; bundle = name_of block }) Yes (numbered_in block) common_types

  abbrev pub commons_from : List BlockTree → History → Course
  commons_from = each through_common

  unfoldable pub common_passes : ℕ → History → Course
  common_passes zero h = goes h
  common_passes (suc n) h = then_on (commons_from (common_bundles_of s.policy) h) (common_passes n)

  -- ---- the sequence

  -- a common bundle isn't gone through again
  abbrev pub by_type : (name : List ℕ) → Option BundleType → Option BlockTree → History → Course
  by_type name None found h = goes h
  by_type name (Some bundles.Agent) found h = activation all_calls name Yes [] found h
  by_type name (Some bundles.Common) found h = goes h
  by_type name (Some bundles.EditLine) found h = goes h

  abbrev pub type_of_block : Option BlockTree → Option BundleType
  type_of_block None = None
  type_of_block (Some (bundle type_name named params sections place)) = bundle_type type_name.name
  type_of_block (Some (body type_name named params attributes place)) = None

  abbrev pub in_sequence : (name : List ℕ) → Option BlockTree → History → Course
  in_sequence name found h = by_type name (type_of_block found) found h

  abbrev pub sequence_from : List (List ℕ) → History → Course
  sequence_from = each (λ name. in_sequence name (bundle_of s.policy name))

  -- the whole run
  unfoldable pub run : Course
  run = then_on (common_passes 3 []) (sequence_from (sequence_of s.policy))
