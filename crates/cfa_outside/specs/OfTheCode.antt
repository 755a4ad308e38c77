-- Of the code alone: where the next slash of a path is, and how maps of nodes are told apart.
use Rattle.std.specs.Prelude.{ℕ, ◌+◌, ◌<◌, ◌≤◌, ◌≡◌, List, ◌∷◌, length, slice_index, take, drop, refl, ◌⊎◌}
use Rattle.std.specs.Coded.{Coded, code_by, coded×, coded⊎, coded_ℕ, coded_list}
use Rattle.std.proofs.Common.{inl, inr}
use Rattle.std.specs.FinMap as map
use Rattle.cfa_outside.specs.Worlds.{above_from, NodeMap}
use Rattle.cfa_outside.specs.declared.worlds.Perms.{Perms}
use Rattle.cfa_outside.specs.declared.worlds.Node.{Node}
use Rattle.cfa_outside.specs.declared.worlds.Node.TheVariants.{File, Dir}

-- Where the next slash of a path is.

-- the next slash of a path from a place on is at i
pub record IsNextSlash (path : List ℕ) (from i : ℕ) : Type 0 where
  pub after : from ≤ i
  pub before : i < length path
  pub slash : slice_index path i ≡ 47
  pub cuts : above_from path from (drop from path) ≡ take i path ∷ above_from path (i + 1) (drop (i + 1) path)

-- How maps of nodes are told apart.

abbrev pub perms_code : Coded Perms
perms_code =
    code_by (ℕ × (List ℕ × List ℕ)) (coded× coded_ℕ (coded× (coded_list coded_ℕ) (coded_list coded_ℕ)))
    (λ p. (p.mode, (p.owner, p.group))) (λ t. record { mode = t.0; owner = t.1.0; group = t.1.1 }) (λ _. refl)

abbrev pub node_parts : Node → (List ℕ × Perms) ⊎ Perms
node_parts (File bytes perms) = inl (bytes, perms)
node_parts (Dir perms) = inr perms

abbrev pub node_from : (List ℕ × Perms) ⊎ Perms → Node
node_from (inl file) = File file.0 file.1
node_from (inr perms) = Dir perms

pub node_same : (node : Node) → node_from (node_parts node) ≡ node
node_same (File bytes perms) = refl
node_same (Dir perms) = refl

abbrev pub node_code : Coded Node
node_code =
    code_by ((List ℕ × Perms) ⊎ Perms) (coded⊎ (coded× (coded_list coded_ℕ) perms_code) perms_code)
    node_parts node_from node_same

abbrev pub node_map_code : Coded NodeMap
node_map_code = map.code (coded_list coded_ℕ) node_code
