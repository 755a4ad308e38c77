-- An overlay shows a host with changes that it keeps to itself: the nodes that it put, those of the host that it took
-- away, the permissions, rows and locks that it gave, and what it appended to the journal. What it doesn't keep shows
-- through.
use Rattle.std.specs.Prelude.{◌≡◌, ℕ, List, [], ◌∷◌, ◌++◌, Bool, true, false, ◌&&◌, ◌||◌, not, if◌then◌else◌, Option, Some, None, option_map, IsTrue}
use Rattle.std.specs.FinMap as map
use Rattle.std.specs.List.{list_any}
use Rattle.cfa_base.specs.TextMaps.{TextMap, count_leaves}
use Rattle.cfa_outside.specs.declared.sites.Look.{Look}
use Rattle.cfa_outside.specs.declared.worlds.Node.{Node}
use Rattle.cfa_outside.specs.declared.worlds.Perms.{Perms}
use Rattle.cfa_outside.specs.declared.worlds.ServiceRow.{ServiceRow}
use Rattle.cfa_outside.specs.declared.worlds.World.{World}
use Rattle.cfa_outside.specs.Worlds.{NodeMap, above, is_file, is_directory, is_below, set_perms, with_perms, HasParents}

-- what an overlay keeps
pub record Kept : Type 0 where
  -- the nodes that it put, in the place of what stands there
  pub made : NodeMap
  -- those of them that stand in the place of no node of the host that would show
  pub added : TextMap (Unit {0})
  -- the nodes of the host that it took away
  pub hidden : TextMap (Unit {0})
  -- the permissions that it gave to nodes of the host
  pub perms : TextMap Perms
  pub services : TextMap ServiceRow
  pub locks : TextMap ℕ
  -- what it appended to the journal
  pub journal : List ℕ

-- nothing was changed
abbrev pub nothing_kept : Kept
nothing_kept = record { made = map.empty; added = map.empty; hidden = map.empty; perms = map.empty; services = map.empty; locks = map.empty; journal = [] }

-- the rows over those of another map
abbrev pub laid : {X : Type 0} → List (List ℕ × X) → TextMap X → TextMap X
laid [] under = under
laid (row ∷ rows) under = map.insert (laid rows under) row.0 row.1

-- what stands at these paths has these permissions
abbrev pub permitted : List (List ℕ × Perms) → NodeMap → NodeMap
permitted [] nodes = nodes
permitted (row ∷ rows) nodes = set_perms row.0 row.1 (permitted rows nodes)

-- the nodes that show
unfoldable pub nodes_over : Kept → NodeMap → NodeMap
nodes_over kept nodes =
    laid (map.entries kept.made)
    (map.retain_keys (permitted (map.entries kept.perms) nodes) (λ path. not (map.contains_key kept.hidden path)))

-- the world that shows
unfoldable pub world_over : Kept → World → World
world_over kept world = record {
  nodes = nodes_over kept world.nodes;
  services = laid (map.entries kept.services) world.services;
  locks = laid (map.entries kept.locks) world.locks;
  journal = world.journal ++ kept.journal;
}

-- what stands at a path with the permissions that were given to it, if any were
abbrev pub given : Option Perms → Node → Node
given (Some perms) node = with_perms perms node
given None node = node

-- what shows at a path, by what the host has there
abbrev pub node_over : Kept → List ℕ → Option Node → Option Node
node_over kept path under =
    if map.contains_key kept.made path then map.get kept.made path
    else if map.contains_key kept.hidden path then None
    else option_map (given (map.get kept.perms path)) under

-- what is kept speaks of this path
abbrev pub is_touched : Kept → List ℕ → Bool
is_touched kept path = map.contains_key kept.made path || map.contains_key kept.hidden path

-- what is kept fits the host's nodes
pub record IsSound (kept : Kept) (nodes : NodeMap) : Type 0 where
  -- only nodes of the host are taken away
  pub hidden_stand : (path : List ℕ) → IsTrue (map.contains_key kept.hidden path) → IsTrue (map.contains_key nodes path)
  -- what was added was put, and no node of the host shows there
  pub added_are_made : (path : List ℕ) → IsTrue (map.contains_key kept.added path) → IsTrue (map.contains_key kept.made path)
  pub added_are_new : (path : List ℕ) → IsTrue (map.contains_key kept.added path) →
      (map.contains_key nodes path && not (map.contains_key kept.hidden path)) ≡ false
  -- what was put and not added stands in the place of a node that would show
  pub others_are_old : (path : List ℕ) → IsTrue (map.contains_key kept.made path) → map.contains_key kept.added path ≡ false →
      IsTrue (map.contains_key nodes path && not (map.contains_key kept.hidden path))
  -- of the host nothing shows below a directory that was put
  pub nothing_below : (path below : List ℕ) → IsTrue (is_directory (map.get kept.made path)) → IsTrue (is_below path below) →
      IsTrue (map.contains_key nodes below) → IsTrue (map.contains_key kept.hidden below)
  -- both are worlds' nodes
  pub host_has_parents : HasParents nodes
  pub shown_has_parents : HasParents (nodes_over kept nodes)
