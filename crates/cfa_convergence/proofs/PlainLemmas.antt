-- The promises of each type of a bundle are known where those of the bundle are.
use Rattle.std.proofs.Common.{Bool, true, false, List, [], ◌∷◌, cond}
use Rattle.std.specs.List.{AllByRecursion as Each}
use Rattle.cfa_kinds.specs.declared.kinds.PromiseType.{PromiseType}
use Rattle.cfa_tree.specs.Tree.{BlockTree}
use Rattle.cfa_states.specs.Numbered.{Numbered, numbered_in, name_of, common_types, is_type, of_type}
use Rattle.cfa_states.specs.Views.{Home}
use Rattle.cfa_convergence.specs.Policies.{IsOneLine, IsKnown, IsKnownCommon}

-- a promise that is reached anywhere
abbrev pub Known_at : Home → Numbered → Type 0
Known_at home p = IsKnown p

known_of_type : (type : PromiseType) (ps : List Numbered) → Each IsKnown ps → Each IsKnown (of_type type ps)
known_of_type type [] known = tt
known_of_type type (p ∷ ps) known = go (is_type type p.type) (known_of_type type ps known.1)
  where
    go : (b : Bool) → Each IsKnown (of_type type ps) → Each IsKnown (cond b (p ∷ of_type type ps) (of_type type ps))
    go true rest = (known.0, rest)
    go false rest = rest

pub known_types : (ps : List Numbered) → Each IsKnown ps → (types : List PromiseType) → Each (λ (type : PromiseType). Each IsKnown (of_type type ps)) types
known_types ps known [] = tt
known_types ps known (type ∷ types) = (known_of_type type ps known, known_types ps known types)

-- a common bundle, type by type
abbrev pub Known_common : BlockTree → Type 0
Known_common block = IsOneLine (name_of block) × Each (λ (type : PromiseType). Each IsKnown (of_type type (numbered_in block))) common_types

pub known_commons : (blocks : List BlockTree) → Each IsKnownCommon blocks → Each Known_common blocks
known_commons [] known = tt
known_commons (block ∷ blocks) known = ((known.0.name, known_types (numbered_in block) known.0.promises common_types), known_commons blocks known.1)
