-- A world has a node at some paths: a file or a directory, each with a mode, an owner and a group. The parent of each
-- node is a directory or the root. To put a file makes the missing directories above it.
use Rattle.std.specs.Prelude.{ℕ, ◌+◌, List, [], ◌∷◌, ◌++◌, Bool, true, false, ◌&&◌, not, ◌==◌, nat_eq, nat_le, if◌then◌else◌, length, take, drop, codes, Option, Some, None, IsTrue}
use Rattle.std.specs.List.{list_all, list_any, starts_with}
use Rattle.std.specs.FinMap as map
use Rattle.cfa_base.specs.TextMaps.{TextMap, count_leaves}
use Rattle.cfa_base.specs.declared.limits.TheConstants.{MOST_FILE_BYTES}
use Rattle.cfa_outside.specs.declared.worlds.Perms.{Perms}
use Rattle.cfa_outside.specs.declared.worlds.Node.{Node}
use Rattle.cfa_outside.specs.declared.worlds.Node.TheVariants.{File, Dir}
use Rattle.cfa_outside.specs.declared.sites.Look.{Look}
use Rattle.cfa_outside.specs.declared.sites.Look.TheVariants as look

-- what stands at each path, by its bytes
abbrev pub NodeMap : Type 0
NodeMap = TextMap Node

-- the permissions of what is made: this mode, owner and group root
abbrev pub root_perms : ℕ → Perms
root_perms mode = record { mode = mode; owner = codes "root"; group = codes "root" }

-- a new directory may be entered, read and changed by its owner alone: mode 700
abbrev pub new_directory : Node
new_directory = Dir (root_perms 448)

-- the first i bytes of a path, and so on, at each slash of what follows them
abbrev pub above_from : List ℕ → ℕ → List ℕ → List (List ℕ)
above_from path i [] = []
above_from path i (b ∷ rest) = if b == 47 then take i path ∷ above_from path (i + 1) rest else above_from path (i + 1) rest

-- the paths of the directories above a path, the outermost first: what stands before each slash but the first
unfoldable pub above : List ℕ → List (List ℕ)
above path = above_from path 1 (drop 1 path)

abbrev pub is_file : Option Node → Bool
is_file (Some (File _ _)) = true
is_file (Some (Dir _)) = false
is_file None = false

abbrev pub is_directory : Option Node → Bool
is_directory (Some (File _ _)) = false
is_directory (Some (Dir _)) = true
is_directory None = false

-- a file stands above the path
unfoldable pub is_blocked : NodeMap → List ℕ → Bool
is_blocked nodes path = list_any (λ p. is_file (map.get nodes p)) (above path)

-- the path and a slash
abbrev pub below_front : List ℕ → List ℕ
below_front path = path ++ 47 ∷ []

-- the other path begins with this one and a slash
unfoldable pub is_below : List ℕ → List ℕ → Bool
is_below path other = starts_with nat_eq other (below_front path)

-- a node stands below the path
unfoldable pub has_below : NodeMap → List ℕ → Bool
has_below nodes path = list_any (is_below path) (map.keys nodes)

-- how many nodes stand directly in the directory at the path
unfoldable pub children_of : NodeMap → List ℕ → ℕ
children_of nodes path = count_leaves nodes (below_front path)

-- what a look shows, by the node there, whether a file stands above, and whether a node stands below
abbrev pub shows : Option Node → Bool → Bool → Look
shows (Some (File bytes _)) blocked below = look.File (length bytes)
shows (Some (Dir _)) blocked below = look.Dir (not below)
shows None true below = look.Blocked
shows None false below = look.Nothing

unfoldable pub look_at : NodeMap → List ℕ → Look
look_at nodes path = shows (map.get nodes path) (is_blocked nodes path) (has_below nodes path)

-- a file may be put where nothing or a file stands, and no file above
abbrev pub takes_file : Look → Bool
takes_file look.Nothing = true
takes_file look.Blocked = false
takes_file (look.File _) = true
takes_file (look.Dir _) = false

-- a directory may be put where nothing stands, and no file above
abbrev pub takes_directory : Look → Bool
takes_directory look.Nothing = true
takes_directory look.Blocked = false
takes_directory (look.File _) = false
takes_directory (look.Dir _) = false

-- a file or an empty directory may be removed
abbrev pub is_removable : Look → Bool
is_removable look.Nothing = false
is_removable look.Blocked = false
is_removable (look.File _) = true
is_removable (look.Dir is_empty) = is_empty

-- the bytes of a file
abbrev pub bytes_in : Option Node → Option (List ℕ)
bytes_in (Some (File bytes _)) = Some bytes
bytes_in (Some (Dir _)) = None
bytes_in None = None

-- a file that isn't over the limit
abbrev pub is_readable : Option Node → Bool
is_readable (Some (File bytes _)) = nat_le (length bytes) MOST_FILE_BYTES
is_readable (Some (Dir _)) = false
is_readable None = false

abbrev pub perms_in : Option Node → Option Perms
perms_in (Some (File _ perms)) = Some perms
perms_in (Some (Dir perms)) = Some perms
perms_in None = None

abbrev pub with_perms : Perms → Node → Node
with_perms perms (File bytes _) = File bytes perms
with_perms perms (Dir _) = Dir perms

-- a new directory where nothing stands
abbrev pub with_dir : List ℕ → NodeMap → NodeMap
with_dir path nodes = if map.contains_key nodes path then nodes else map.insert nodes path new_directory

-- a new directory at each of these paths where nothing stands
abbrev pub with_dirs : List (List ℕ) → NodeMap → NodeMap
with_dirs [] nodes = nodes
with_dirs (path ∷ paths) nodes = with_dirs paths (with_dir path nodes)

-- a file with these bytes. One that stands there keeps its permissions; a new one may be read and changed by its owner
-- alone: mode 600
abbrev pub file_with : List ℕ → Option Node → Node
file_with bytes (Some (File _ perms)) = File bytes perms
file_with bytes (Some (Dir _)) = File bytes (root_perms 384)
file_with bytes None = File bytes (root_perms 384)

-- the file at the path has these bytes, and the directories above are there
unfoldable pub put_file : List ℕ → List ℕ → NodeMap → NodeMap
put_file path bytes nodes = map.insert (with_dirs (above path) nodes) path (file_with bytes (map.get nodes path))

-- a new directory is at the path, and the directories above are there
unfoldable pub put_directory : List ℕ → NodeMap → NodeMap
put_directory path nodes = map.insert (with_dirs (above path) nodes) path new_directory

-- what stands at the path has these permissions
abbrev pub set_perms_of : Option Node → List ℕ → Perms → NodeMap → NodeMap
set_perms_of (Some node) path perms nodes = map.insert nodes path (with_perms perms node)
set_perms_of None path perms nodes = nodes

unfoldable pub set_perms : List ℕ → Perms → NodeMap → NodeMap
set_perms path perms nodes = set_perms_of (map.get nodes path) path perms nodes

-- each of what stands above the path is a directory
abbrev pub is_in_directories : NodeMap → List ℕ → Bool
is_in_directories nodes path = list_all (λ p. is_directory (map.get nodes p)) (above path)

-- each node stands in directories up to the root, so its parent is a directory or the root
pub record HasParents (nodes : NodeMap) : Type 0 where
  pub of_each : (path : List ℕ) → IsTrue (map.contains_key nodes path) → IsTrue (is_in_directories nodes path)

-- a node may be added where none stands, in directories up to the root
abbrev pub is_free : NodeMap → List ℕ → Bool
is_free nodes path = not (map.contains_key nodes path) && is_in_directories nodes path
