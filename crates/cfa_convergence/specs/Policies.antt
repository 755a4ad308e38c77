-- What is known of the promises and names of a policy that was checked: the names of bundles are plain, what a promise calls is
-- named without a newline, and no shared scope has a path with one.
use Rattle.std.specs.Prelude.{◌≡◌, ℕ, List, Some}
use Rattle.std.specs.List.{AllByRecursion as Each, Contains}
use Rattle.cfa_laws.specs.Keys.{IsPlainId, HasPlainCall}
use Rattle.cfa_served.specs.Served.{bundle_of, common_bundles_of}
use Rattle.cfa_tree.specs.Tree.{BlockTree, PolicyTree}
use Rattle.cfa_states.specs.Levels.{HasPlainNames}
use Rattle.cfa_states.specs.Numbered.{Numbered, numbered_in, name_of}

-- a name without a newline
abbrev pub IsOneLine : List ℕ → Type 0
IsOneLine name = Contains name 10 → ⊥

-- a promise of a bundle
pub record IsKnown (p : Numbered) : Type 0 where
  pub plain : IsPlainId p.id
  pub calls : HasPlainCall p.promise

-- a common bundle
pub record IsKnownCommon (block : BlockTree) : Type 0 where
  pub name : IsOneLine (name_of block)
  pub promises : Each IsKnown (numbered_in block)

pub record HasKnown (policy : PolicyTree) : Type 0 where
  pub bundles : (name : List ℕ) (block : BlockTree) → bundle_of policy name ≡ Some block → Each IsKnown (numbered_in block)
  pub commons : Each IsKnownCommon (common_bundles_of policy)
  pub shared : HasPlainNames policy
