-- Of the code alone: the levels of promises that define variables and classes, and of those whose guard isn't set.
use Rattle.std.specs.Prelude.{ℕ, Bool, true, false, List, ◌∷◌, [], map, Option}
use Rattle.cfa_statuses.specs.declared.levels.Status.{Status}
use Rattle.cfa_statuses.specs.declared.levels.Status.TheVariants.{No}
use Rattle.cfa_tree.specs.Tree.{PromiseTree}
use Rattle.cfa_states.specs.History.{History, Where, everywhere, within, Raised}
use Rattle.cfa_states.specs.Levels.{QuietLevel}
use Rattle.cfa_states.specs.Numbered.{Numbered}
use Rattle.cfa_states.specs.Passes.{goes, reached, vars_reached, classes_reached, sets_variable, handed}
use Rattle.cfa_states.specs.Views.{Setting, Home, scopes_in, status_in}
use Rattle.cfa_defines.specs.VarsPromises.{setting_choices}
use Rattle.cfa_kinds.specs.declared.kinds.PromiseType.TheVariants.{Vars, Classes}
use Rattle.cfa_kinds.specs.declared.kinds.PromiseType.TheVariants as promises
use Rattle.cfa_statuses.specs.Status.{lesser}
use Rattle.cfa_vars.specs.Scopes.{InScope}
use Rattle.cfa_vars.specs.Expansion.{Chosen}
use Rattle.cfa_defines.specs.FirstMaybe.{first_maybe_of_guard}
use Rattle.cfa_defines.specs.ClassPromises.{Raise, raises_of}
use Rattle.cfa_states.specs.declared.defining.Handed.{Handed}

-- The levels of the passes, by what each is about.

-- ---- promises

-- a promise that counts its visits and does nothing
abbrev pub idle : Numbered → (guard : Status) → (sets_variable : Bool) → QuietLevel
idle p guard sets s home t h = reached home p guard sets 1 goes h

-- a promise whose guard isn't set
abbrev pub idle_level : Numbered → QuietLevel
idle_level p = idle p No (sets_variable p.type)

abbrev pub vars_level : Numbered → (guard : Status) → QuietLevel
vars_level p guard s home t h = vars_reached s home p guard (setting_choices (scopes_in s h home) promises.Vars p.promise) h

-- classes are raised everywhere or within the activation
abbrev pub place_of : (is_common : Bool) → Home → Where
place_of true home = everywhere
place_of false home = within home.path

abbrev pub classes_level : (is_common : Bool) → Numbered → (guard : Status) → QuietLevel
classes_level is_common p guard s home t h =
    classes_reached s (place_of is_common home) home p guard (setting_choices (scopes_in s h home) promises.Classes p.promise) h

-- The classes that a classes promise is to raise, with the sources that they are handed by the state before the
-- promise.

abbrev pub hand : (before : History) → (path : List ℕ) → (guard : Status) → Option (List ℕ) → Raise → Handed
hand before path guard in_guard (class, (status, first)) = record {
  class = class;
  to = lesser guard status;
  source = handed before path in_guard first (lesser guard status);
}

-- what the promise is to raise in these combinations
abbrev pub handed_by : Setting → (before : History) → (path : List ℕ) → (guard : Status) → InScope → PromiseTree → Option (List Chosen) → List Handed
handed_by s before path guard scopes promise choices =
    map (hand before path guard (first_maybe_of_guard promise.guard (status_in s before path)))
    (raises_of (status_in s before path) scopes promise choices)

abbrev pub raise_handed : Where → List Handed → History → History
raise_handed place [] h = h
raise_handed place (one ∷ more) h = raise_handed place more (Raised place one.class one.to one.source ∷ h)
