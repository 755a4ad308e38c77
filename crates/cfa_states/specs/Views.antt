-- What a promise reads in a history: the variables of its own scope and of the bundles that may be referred to from everywhere,
-- which are the common bundles and those of the sequence, and the statuses of classes, global and of its own activation. The
-- classes of the context are Yes everywhere.
use Rattle.std.specs.Prelude.{ℕ, List, [], ◌∷◌, ◌++◌, map, Option, Some, None, if◌then◌else◌}
use Rattle.cfa_base.specs.declared.places.PromiseId.{PromiseId}
use Rattle.cfa_tree.specs.Tree.{ExprTree, PolicyTree}
use Rattle.cfa_statuses.specs.declared.levels.Status.{Status}
use Rattle.cfa_statuses.specs.declared.levels.Status.TheVariants.{No, Yes}
use Rattle.cfa_statuses.specs.Status.{greater, value_of}
use Rattle.cfa_served.specs.Control.{sequence_of}
use Rattle.cfa_served.specs.Served.{common_bundles_of}
use Rattle.cfa_vars.specs.Scopes.{Table, InScope}
use Rattle.cfa_kinds.specs.declared.kinds.PromiseType.{PromiseType}
use Rattle.cfa_resolve.specs.Instances.{Reached}
use Rattle.cfa_base.specs.Index.{is_listed}
use Rattle.cfa_resolve.specs.Resolution.{reached_at}
pub use Rattle.cfa_states.specs.History.{Home}
use Rattle.cfa_states.specs.History.{History, scope_in, globally, locally, source_in}
use Rattle.cfa_states.specs.Numbered.{Numbered, name_of}

-- a checked policy and the classes that are set from the start
pub record Setting : Type 0 where
  pub policy : PolicyTree
  pub classes : List (List ℕ)

-- ---- variables

-- names, and those of others that aren't among them, each once
abbrev pub joined_once : List (List ℕ) → List (List ℕ) → List (List ℕ)
joined_once names [] = names
joined_once names (name ∷ more) =
    joined_once (if is_listed names name then names else names ++ name ∷ []) more

-- the bundles whose variables may be referred to from everywhere, each once: the common bundles and those of the sequence
unfoldable pub shared_names : PolicyTree → List (List ℕ)
shared_names policy = joined_once [] (map name_of (common_bundles_of policy) ++ sequence_of policy)

unfoldable pub shared_in : PolicyTree → History → List (List ℕ × Table)
shared_in policy h = map (λ name. (name, scope_in h name)) (shared_names policy)

abbrev pub scopes_in : Setting → History → Home → InScope
scopes_in s h home = record { own = scope_in h home.path; own_name = home.bundle; shared = shared_in s.policy h }

-- ---- classes

abbrev pub from_start : Setting → List ℕ → Status
from_start s name = if is_listed s.classes name then Yes else No

abbrev pub global_status : Setting → History → List ℕ → Status
global_status s h name = greater (from_start s name) (globally h name)

abbrev pub status_in : Setting → History → (path : List ℕ) → List ℕ → Status
status_in s h path name = greater (global_status s h name) (locally h path name)

abbrev pub guard_status : Setting → History → (path : List ℕ) → Option ExprTree → Status
guard_status s h path None = Yes
guard_status s h path (Some guard) = value_of guard (status_in s h path)

-- ---- a promise that is reached

-- a promise of this type, with what it reads
abbrev pub reached_in_history : Setting → History → Home → PromiseType → Numbered → Reached
reached_in_history s h home type p =
    reached_at s.policy p.id (scopes_in s h home) (global_status s h) home.path (type, p.promise)

-- ---- the class that a guard waits for

abbrev pub source_of : History → (path : List ℕ) → Option (List ℕ) → Option PromiseId
source_of h path None = None
source_of h path (Some name) = source_in h path name
