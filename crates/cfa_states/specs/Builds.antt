-- The patterns that a run builds: those of the promises that it reaches with a guard that may hold, by what is looked up in the history
-- before them, the promise at which it ends as too large included.
use Rattle.std.specs.Prelude.{ℕ, List, [], ◌∷◌, ◌⊎◌}
use Rattle.cfa_statuses.specs.declared.levels.Status.{Status}
use Rattle.cfa_statuses.specs.declared.levels.Status.TheVariants.{No, Maybe, Yes}
use Rattle.cfa_kinds.specs.declared.kinds.PromiseType.TheVariants as promises
use Rattle.cfa_defines.specs.Builds.{BuiltBy}
use Rattle.cfa_defines.specs.VarsPromises.{setting_choices}
use Rattle.cfa_resolve.specs.Resolution.{IsBuiltFor}
use Rattle.cfa_states.specs.History.{History, Home, Begun, Set, Raised, Reached, Listed, Told}
use Rattle.cfa_states.specs.Numbered.{Numbered}
use Rattle.cfa_states.specs.Passes.{Course, goes, too_large}
use Rattle.cfa_states.specs.Views.{Setting, scopes_in, reached_in_history}

module _ (s : Setting) where
  -- of a promise: the calls of its expressions build some, and its edit bundle
  abbrev pub BuiltAt : History → Home → Numbered → (text : List ℕ) → Type 0
  BuiltAt h home p text =
      BuiltBy (scopes_in s h home) p.promise (setting_choices (scopes_in s h home) promises.Classes p.promise) text
      ⊎ IsBuiltFor (reached_in_history s h home p.type p) text

  -- of a promise that is reached with this status of its guard
  abbrev pub BuiltWhere : (guard : Status) → History → Home → Numbered → (text : List ℕ) → Type 0
  BuiltWhere No h home p text = ⊥
  BuiltWhere Maybe h home p text = BuiltAt h home p text
  BuiltWhere Yes h home p text = BuiltAt h home p text

  -- of a history
  abbrev pub BuiltIn : History → (text : List ℕ) → Type 0
  BuiltIn [] text = ⊥
  BuiltIn (Reached home p guard sets visits ∷ h) text = BuiltWhere guard h home p text ⊎ BuiltIn h text
  BuiltIn (Begun path arguments ∷ h) text = BuiltIn h text
  BuiltIn (Set path name datum ∷ h) text = BuiltIn h text
  BuiltIn (Raised place class status source ∷ h) text = BuiltIn h text
  BuiltIn (Listed instance status ∷ h) text = BuiltIn h text
  BuiltIn (Told instance outcomes ∷ h) text = BuiltIn h text

  abbrev pub BuiltOn : Course → (text : List ℕ) → Type 0
  BuiltOn (goes h) text = BuiltIn h text
  BuiltOn (too_large h) text = BuiltIn h text
