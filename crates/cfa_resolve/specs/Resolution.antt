-- What a promise resolves to: an instance for each of its combinations, in their order, but for those in which something that a
-- body says or its edit bundle reads is unresolved; the names that kept something from being made, once each, in the order in
-- which they are met; the promises of its edit bundle whose guards may hold or not; and how many visits it counts: as many as it
-- has combinations, and one where it has none or too many or its own texts are unresolved, and besides those of the promises of
-- its edit bundle. This is walked once for each combination, also where a body is unresolved or the path is wrong.
use Rattle.std.specs.Prelude.{IsTrue, option_map, ℕ, ◌+◌, Bool, true, false, List, [], ◌∷◌, ◌++◌, codes, length, Contains, Option, Some, None, if◌then◌else◌}
use Rattle.std.specs.List.{filter_map, flat_map}
use Rattle.cfa_base.specs.Index.{is_listed}
use Rattle.cfa_base.specs.declared.places.PromiseId.{PromiseId}
use Rattle.cfa_tree.specs.Tree.{ValueTree, PromiseTree, PolicyTree}
use Rattle.cfa_statuses.specs.declared.levels.Status.{Status}
use Rattle.cfa_kinds.specs.declared.kinds.PromiseType.{PromiseType}
use Rattle.cfa_kinds.specs.declared.kinds.PromiseType.TheVariants as promises
use Rattle.cfa_served.specs.Checked.{typed_promise_of}
use Rattle.cfa_vars.specs.Scopes.{InScope}
use Rattle.cfa_vars.specs.Expansion.{Chosen}
use Rattle.cfa_acts.specs.declared.acts.Reason.TheVariants as reasons
use Rattle.cfa_resolve.specs.declared.instances.Instance.{Instance}
use Rattle.cfa_resolve.specs.declared.instances.Resolved.{Resolved}
use Rattle.cfa_defines.specs.declared.combining.Combined.{Combined}
use Rattle.cfa_defines.specs.declared.combining.Combined.TheVariants.{Lacks as lacks, TooMany as too_many, TooLong as too_long, Found as found}
use Rattle.cfa_defines.specs.OwnTexts.{choices_found, combined, own_reads}
use Rattle.cfa_bodies.specs.declared.hearing.Heard.{Heard}
use Rattle.cfa_bodies.specs.declared.hearing.Heard.TheVariants.{Lacks as lacks_body, TooMany as many_in_body, TooLong as long_in_body, All as all_heard}
use Rattle.cfa_bodies.specs.Bodies.{Bodies, bodies_of, heard}
use Rattle.cfa_resolve.specs.declared.combinations.Made.{Made}
use Rattle.cfa_resolve.specs.declared.combinations.Made.TheVariants.{Instance as an_instance, Nothing as nothing_for}
use Rattle.cfa_resolve.specs.Instances.{Reached, bust_instance, made_instance, handed_instance}
use Rattle.cfa_values.specs.Attributes.{value_of}
use Rattle.cfa_scripts.specs.declared.blaming.Unsettled.{Unsettled}
use Rattle.cfa_scripts.specs.declared.calling.Walked.{Walked}
use Rattle.cfa_scripts.specs.declared.scripting.Scripted.{Scripted}
use Rattle.cfa_scripts.specs.declared.scripting.Scripted.TheVariants.{Script as a_script, Unresolved as no_script, TooMany as script_many, TooLong as script_long, BadPattern as bad_pattern, BadValue as bad_value}
use Rattle.cfa_scripts.specs.EditPromises.{at_least_one}
use Rattle.cfa_scripts.specs.EditScripts.{Caller, walked}
use Rattle.cfa_scripts.specs.ScriptBuilds.{IsBuiltBy}

-- ---- the edit bundle of a combination

abbrev pub caller_of : Reached → Chosen → Caller
caller_of r choice = record { policy = r.policy; scopes = r.scopes; statuses = r.statuses; choice = choice }

-- the value of the attribute that calls it; a files promise alone has one
abbrev pub edit_call_by : PromiseType → PromiseTree → Option ValueTree
edit_call_by promises.Files promise = value_of (codes "edit_line") promise.attributes
edit_call_by type promise = None

abbrev pub edit_call : Reached → Option ValueTree
edit_call r = edit_call_by r.type r.promise

abbrev pub walked_for : Reached → Chosen → Option Walked
walked_for r choice = option_map (λ value. walked (caller_of r choice) value) (edit_call r)

abbrev pub scripted_in : Option Walked → Option Scripted
scripted_in walk = option_map (λ w. w.scripted) walk

abbrev pub visits_in : Option Walked → ℕ
visits_in None = 0
visits_in (Some w) = w.visits

abbrev pub unsettled_in : Option Walked → List Unsettled
unsettled_in None = []
unsettled_in (Some w) = w.unsettled

-- ---- one combination

-- what a promise of the edit bundle does: its own combination is unresolved, or an instance hands over that it can't be made
abbrev pub made_by_script : Reached → Chosen → Bodies → Option Scripted → Made
made_by_script r choice bodies (Some (no_script name)) = nothing_for name
made_by_script r choice bodies (Some script_many) = an_instance (handed_instance r bodies reasons.TooMany)
made_by_script r choice bodies (Some script_long) = an_instance (handed_instance r bodies reasons.TooLong)
made_by_script r choice bodies (Some (a_script edits)) = an_instance (made_instance r choice bodies (Some (a_script edits)))
made_by_script r choice bodies (Some bad_pattern) = an_instance (made_instance r choice bodies (Some bad_pattern))
made_by_script r choice bodies (Some bad_value) = an_instance (made_instance r choice bodies (Some bad_value))
made_by_script r choice bodies None = an_instance (made_instance r choice bodies None)

-- something unresolved in the edit bundle goes before a list or a text of a body that is too long
abbrev pub unless_unresolved : Option Scripted → Made → Made
unless_unresolved (Some (no_script name)) made = nothing_for name
unless_unresolved (Some script_many) made = made
unless_unresolved (Some script_long) made = made
unless_unresolved (Some (a_script edits)) made = made
unless_unresolved (Some bad_pattern) made = made
unless_unresolved (Some bad_value) made = made
unless_unresolved None made = made

-- what one combination comes to: an instance, or what keeps it from being made
abbrev pub made_by : Reached → Chosen → Bodies → Option Scripted → Heard → Made
made_by r choice bodies scripted (lacks_body name) = nothing_for name
made_by r choice bodies scripted many_in_body = unless_unresolved scripted (an_instance (bust_instance r reasons.TooMany))
made_by r choice bodies scripted long_in_body = unless_unresolved scripted (an_instance (bust_instance r reasons.TooLong))
made_by r choice bodies scripted all_heard = made_by_script r choice bodies scripted

abbrev pub made_with : Reached → Chosen → Option Scripted → Bodies → Made
made_with r choice scripted bodies = made_by r choice bodies scripted (heard bodies)

unfoldable pub made : Reached → Chosen → Option Scripted → Made
made r choice scripted = made_with r choice scripted (bodies_of r.policy r.scopes choice r.type r.promise)

abbrev pub instance_in : Made → Option Instance
instance_in (an_instance i) = Some i
instance_in (nothing_for name) = None

abbrev pub name_in : Made → Option (List ℕ)
name_in (an_instance i) = None
name_in (nothing_for name) = name

abbrev pub made_for : Reached → Chosen → Made
made_for r choice = made r choice (scripted_in (walked_for r choice))

abbrev pub instances_for : Reached → List Chosen → List Instance
instances_for r choices = filter_map (λ choice. instance_in (made_for r choice)) choices

-- the name is among these
-- names, and one more behind them unless it is among them
abbrev pub with_name : List (List ℕ) → Option (List ℕ) → List (List ℕ)
with_name names None = names
with_name names (Some name) = if is_listed names name then names else names ++ name ∷ []

abbrev pub names_after : Reached → List (List ℕ) → List Chosen → List (List ℕ)
names_after r names [] = names
names_after r names (choice ∷ choices) = names_after r (with_name names (name_in (made_for r choice))) choices

-- how many visits the edit bundle counts in these combinations
abbrev pub inner_visits : Reached → List Chosen → ℕ
inner_visits r [] = 0
inner_visits r (choice ∷ choices) = visits_in (walked_for r choice) + inner_visits r choices

abbrev pub inner_unsettled : Reached → List Chosen → List Unsettled
inner_unsettled r choices = flat_map (λ choice. unsettled_in (walked_for r choice)) choices

abbrev pub resolved_among : Reached → List Chosen → Resolved
resolved_among r choices = record {
  instances = instances_for r choices;
  unresolved = names_after r [] choices;
  unsettled = inner_unsettled r choices;
  visits = at_least_one (length choices) + inner_visits r choices;
}

abbrev pub resolved_as : Reached → Combined → Resolved
resolved_as r (lacks name) = record { instances = []; unresolved = name ∷ []; unsettled = []; visits = 1 }
resolved_as r too_many = record { instances = bust_instance r reasons.TooMany ∷ []; unresolved = []; unsettled = []; visits = 1 }
resolved_as r (too_long combinations) = record {
  instances = bust_instance r reasons.TooLong ∷ [];
  unresolved = [];
  unsettled = [];
  visits = combinations;
}
resolved_as r (found choices) = resolved_among r choices

unfoldable pub resolution : Reached → Resolved
resolution r = resolved_as r (combined r.scopes (own_reads r.type r.promise))

-- ---- the promise of an id

-- a type whose promises have instances
abbrev pub is_acting : PromiseType → Bool
is_acting promises.Files = true
is_acting promises.Methods = true
is_acting promises.Services = true
is_acting promises.Reports = true
is_acting type = false

-- a promise that has instances
abbrev pub IsActing : Option (PromiseType × PromiseTree) → Type 0
IsActing None = ⊥
IsActing (Some typed) = IsTrue (is_acting typed.0)

abbrev pub reached_at :
    PolicyTree → PromiseId → InScope → (List ℕ → Status) → (path : List ℕ) → (PromiseType × PromiseTree) → Reached
reached_at policy id scopes statuses path typed = record {
  policy = policy;
  id = id;
  type = typed.0;
  promise = typed.1;
  scopes = scopes;
  statuses = statuses;
  path = path;
}

-- what the promise of an id resolves to; none where there is no such promise
unfoldable pub resolution_of :
    PolicyTree → PromiseId → InScope → (List ℕ → Status) → (path : List ℕ) → Option Resolved
resolution_of policy id scopes statuses path =
    option_map (λ typed. resolution (reached_at policy id scopes statuses path typed)) (typed_promise_of policy id)

-- ---- the patterns that it builds

abbrev pub IsBuiltByCall : Caller → Option ValueTree → (text : List ℕ) → Type 0
IsBuiltByCall caller None text = ⊥
IsBuiltByCall caller (Some value) text = IsBuiltBy caller value text

-- the text is built by the edit bundle in one of these combinations
pub record IsBuiltAmong (r : Reached) (choices : List Chosen) (text : List ℕ) : Type 0 where
  pub choice : Chosen
  pub is_combination : Contains choices choice
  pub is_built : IsBuiltByCall (caller_of r choice) (edit_call r) text

-- the text is one that the promise builds
abbrev pub IsBuiltFor : Reached → (text : List ℕ) → Type 0
IsBuiltFor r text = IsBuiltAmong r (choices_found (combined r.scopes (own_reads r.type r.promise))) text
