-- What an edit bundle makes of itself in one combination of the promise that calls it. Its promises are walked in the order of
-- the types of edit bundles, and of one type in text order. Its edits in this order are the script. Where one of them is
-- unresolved there is no script. Failing that, the first that is too many or too long is handed over; failing that, the first
-- that can't be made stands in the place of the script.
use Rattle.std.specs.Prelude.{ℕ, List, [], ◌∷◌, Option, Some, None}
use Rattle.std.specs.List.{filter_map, flat_map}
use Rattle.cfa_tree.specs.Tree.{ValueTree, BlockTree, PolicyTree}
use Rattle.cfa_statuses.specs.declared.levels.Status.{Status}
use Rattle.cfa_served.specs.Served.{bundle_of}
use Rattle.cfa_vars.specs.Scopes.{InScope}
use Rattle.cfa_vars.specs.Expansion.{Chosen}
use Rattle.cfa_defines.specs.OwnTexts.{arguments_of}
use Rattle.cfa_bodies.specs.Bodies.{bound, data_given, name_given}
use Rattle.cfa_edits.specs.declared.edits.Edit.{Edit}
use Rattle.cfa_scripts.specs.declared.contributing.Contribution.{Contribution}
use Rattle.cfa_scripts.specs.declared.contributing.Contribution.TheVariants.{Edit as an_edit, Unresolved as unresolved, TooMany as many, TooLong as long, BadPattern as bad_pattern, BadValue as bad_value}
use Rattle.cfa_scripts.specs.declared.scripting.Scripted.{Scripted}
use Rattle.cfa_scripts.specs.declared.scripting.Scripted.TheVariants.{Script as a_script, Unresolved as no_script, TooMany as script_many, TooLong as script_long, BadPattern as script_bad_pattern, BadValue as script_bad_value}
use Rattle.cfa_scripts.specs.declared.walking.Walk.{Walk}
use Rattle.cfa_scripts.specs.declared.calling.Walked.{Walked}
use Rattle.cfa_scripts.specs.Numbered.{Numbered, numbered_in, params_of, name_of, edit_types, of_type}
use Rattle.cfa_scripts.specs.EditBundles.{Around, walk_at_first, walked_from}

-- ---- the script

abbrev pub edit_in : Contribution → Option Edit
edit_in (an_edit edit) = Some edit
edit_in (unresolved name) = None
edit_in many = None
edit_in long = None
edit_in bad_pattern = None
edit_in bad_value = None

abbrev pub edits_among : List Contribution → List Edit
edits_among contributions = filter_map edit_in contributions

-- the name that is unresolved, if it can be told
abbrev pub unresolved_or : Contribution → Option (Option (List ℕ)) → Option (Option (List ℕ))
unresolved_or (an_edit edit) rest = rest
unresolved_or (unresolved name) rest = Some name
unresolved_or many rest = rest
unresolved_or long rest = rest
unresolved_or bad_pattern rest = rest
unresolved_or bad_value rest = rest

abbrev pub first_unresolved : List Contribution → Option (Option (List ℕ))
first_unresolved [] = None
first_unresolved (c ∷ more) = unresolved_or c (first_unresolved more)

abbrev pub handed_or : Contribution → Option Scripted → Option Scripted
handed_or (an_edit edit) rest = rest
handed_or (unresolved name) rest = rest
handed_or many rest = Some script_many
handed_or long rest = Some script_long
handed_or bad_pattern rest = rest
handed_or bad_value rest = rest

abbrev pub first_handed : List Contribution → Option Scripted
first_handed [] = None
first_handed (c ∷ more) = handed_or c (first_handed more)

abbrev pub bad_or : Contribution → Option Scripted → Option Scripted
bad_or (an_edit edit) rest = rest
bad_or (unresolved name) rest = rest
bad_or many rest = rest
bad_or long rest = rest
bad_or bad_pattern rest = Some script_bad_pattern
bad_or bad_value rest = Some script_bad_value

abbrev pub first_bad : List Contribution → Option Scripted
first_bad [] = None
first_bad (c ∷ more) = bad_or c (first_bad more)

abbrev pub concluded_by : Option (Option (List ℕ)) → (handed bad : Option Scripted) → List Edit → Scripted
concluded_by (Some name) handed bad edits = no_script name
concluded_by None (Some over) bad edits = over
concluded_by None None (Some wrong) edits = wrong
concluded_by None None None edits = a_script edits

unfoldable pub concluded : List Contribution → Scripted
concluded contributions =
    concluded_by (first_unresolved contributions) (first_handed contributions) (first_bad contributions)
    (edits_among contributions)

-- ---- the walk

-- the promises in the order in which they are reached
abbrev pub in_order : List Numbered → List Numbered
in_order promises = flat_map (λ type. of_type type promises) edit_types

abbrev pub walked_as : Walk → Walked
walked_as w = record { visits = w.visits; unsettled = w.unsettled; scripted = concluded w.edits }

-- who calls an edit bundle: a promise of a policy in one of its combinations, with what its texts see and the global classes
pub record Caller : Type 0 where
  pub policy : PolicyTree
  pub scopes : InScope
  pub statuses : List ℕ → Status
  pub choice : Chosen

abbrev pub around_of : Caller → BlockTree → Around
around_of caller block = record {
  policy = caller.policy;
  bundle = name_of block;
  shared = caller.scopes.shared;
  statuses = caller.statuses;
}

abbrev pub walk_from_first : Caller → ValueTree → BlockTree → Walk
walk_from_first caller value block =
    walk_at_first (bound (params_of block) (data_given caller.scopes caller.choice (arguments_of value)))

abbrev pub walk_of : Caller → ValueTree → BlockTree → Walk
walk_of caller value block =
    walked_from (around_of caller block) (walk_from_first caller value block) (in_order (numbered_in block))

-- a bundle that isn't there, which no valid policy names, makes nothing
abbrev pub walked_by : Caller → ValueTree → Option BlockTree → Walked
walked_by caller value None = record { visits = 0; unsettled = []; scripted = a_script [] }
walked_by caller value (Some block) = walked_as (walk_of caller value block)

-- what comes of the edit bundle that a value of `edit_line` calls
unfoldable pub walked : Caller → ValueTree → Walked
walked caller value = walked_by caller value (bundle_of caller.policy (name_given value))
