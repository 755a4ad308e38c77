-- Of the code alone: the bundles of a policy, without where they lie in memory, the names of those that may be referred to from
-- everywhere, and the ids of their promises.
use Rattle.std.specs.Prelude.{◌≡◌, ℕ, true, List, All, Some}
use Rattle.cfa_base.specs.Index.{is_listed}
use Rattle.cfa_schema.specs.Laws.{IsCounted}
use Rattle.cfa_served.specs.Served.{bundle_of}
use Rattle.cfa_tree.specs.Plain.{plain_block}
use Rattle.cfa_tree.specs.Tree.{BlockTree, PolicyTree}
use Rattle.cfa_tree.specs.declared.blocks.Block.TheVariants.{Bundle as block_of}
use Rattle.cfa_tree.specs.declared.blocks.Bundle.{Bundle}
use Rattle.cfa_states.specs.Numbered.{Numbered, name_of, numbered_in}
use Rattle.cfa_states.specs.Views.{shared_names}

-- a bundle of a checked policy, without where it lies in memory
abbrev pub seen_bundle : Bundle → BlockTree
seen_bundle b = plain_block (block_of b)

-- a scope may be referred to from everywhere
abbrev pub IsShared : PolicyTree → (name : List ℕ) → Type 0
IsShared policy name = is_listed (shared_names policy) name ≡ true

abbrev pub HasSharedName : PolicyTree → BlockTree → Type 0
HasSharedName policy block = IsShared policy (name_of block)

-- promises that a policy may have
abbrev pub AreCounted : List Numbered → Type 0
AreCounted ps = All (λ (p : Numbered). IsCounted p.id) ps

-- the promises of each bundle that is found have ids that a policy may have
abbrev pub HasCountedIds : PolicyTree → Type 0
HasCountedIds policy =
    (name : List ℕ) (block : BlockTree) → bundle_of policy name ≡ Some block → AreCounted (numbered_in block)
