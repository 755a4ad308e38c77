-- Guards in a run and in the open walk, and the first class of one that may hold or not.
use Rattle.std.proofs.Common.{◌≡◌, ℕ, List, Option, Some, None}
use Rattle.cfa_tree.specs.Tree.{ExprTree}
use Rattle.cfa_statuses.specs.declared.levels.Status.{Status}
use Rattle.cfa_statuses.specs.declared.levels.Status.TheVariants.{Maybe}
use Rattle.cfa_defines.specs.FirstMaybe.{first_maybe_of_guard}
use Rattle.cfa_scripts.specs.EditBundles.{guard_under}
use Rattle.cfa_laws.specs.Statuses.{Within, yes_yes, AllWithin}
use Rattle.cfa_laws.specs.Sources.{IsFirst}
use Rattle.cfa_laws.specs.lemmas.Within.{value_within}
use Rattle.cfa_laws.specs.lemmas.MaybeClasses.{maybe_first}

pub guard_first : (status : List ℕ → Status) (guard : Option ExprTree) → guard_under status guard ≡ Maybe → IsFirst status (first_maybe_of_guard guard status)
guard_first status None e = absurd (cc)
guard_first status (Some e') e = maybe_first status e' e

pub guard_within : (run walk : List ℕ → Status) → AllWithin run walk → (guard : Option ExprTree) → Within (guard_under run guard) (guard_under walk guard)
guard_within run walk within None = yes_yes
guard_within run walk within (Some e) = value_within run walk within e
