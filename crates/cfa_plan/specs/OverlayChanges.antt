-- What an overlay keeps after a change. A node is added where none shows, a file is put in the place of one, permissions are
-- given, and what stands there is taken away: each is that change of what shows.
use Rattle.std.specs.Prelude.{◌≡◌, ℕ, ◌<◌, length, List, Bool, true, false, Option, Some, None}
use Rattle.std.specs.FinMap as map
use Rattle.cfa_outside.specs.declared.worlds.Node.{Node}
use Rattle.cfa_outside.specs.declared.worlds.Node.TheVariants.{File, Dir}
use Rattle.cfa_outside.specs.declared.worlds.Perms.{Perms}
use Rattle.cfa_outside.specs.Worlds.{NodeMap, is_file, is_in_directories, is_removable, look_at, set_perms, with_perms}
use Rattle.cfa_plan.specs.Overlays.{Kept, IsSound, nodes_over}

-- what is kept after a node was added where none shows, put in the place of a node, or taken back
abbrev pub with_added : Kept → List ℕ → Node → Kept
with_added kept p node = record { made = map.insert kept.made p node; added = map.insert kept.added p tt; hidden = kept.hidden; perms = kept.perms; services = kept.services; locks = kept.locks; journal = kept.journal }

abbrev pub with_made : Kept → List ℕ → Node → Kept
with_made kept p node = record { made = map.insert kept.made p node; added = kept.added; hidden = kept.hidden; perms = kept.perms; services = kept.services; locks = kept.locks; journal = kept.journal }

abbrev pub with_given : Kept → List ℕ → Perms → Kept
with_given kept p x = record { made = kept.made; added = kept.added; hidden = kept.hidden; perms = map.insert kept.perms p x; services = kept.services; locks = kept.locks; journal = kept.journal }

abbrev pub without_added : Kept → List ℕ → Kept
without_added kept p = record { made = map.remove kept.made p; added = map.remove kept.added p; hidden = kept.hidden; perms = kept.perms; services = kept.services; locks = kept.locks; journal = kept.journal }

abbrev pub without_made : Kept → List ℕ → Kept
without_made kept p = record { made = map.remove kept.made p; added = kept.added; hidden = map.insert kept.hidden p tt; perms = kept.perms; services = kept.services; locks = kept.locks; journal = kept.journal }

abbrev pub with_hidden : Kept → List ℕ → Kept
with_hidden kept p = record { made = kept.made; added = kept.added; hidden = map.insert kept.hidden p tt; perms = kept.perms; services = kept.services; locks = kept.locks; journal = kept.journal }

-- what is kept shows these nodes, and fits the host's
pub record Shows (kept : Kept) (nodes shown : NodeMap) : Type 0 where
  pub shown_is : nodes_over kept nodes ≡ shown
  pub is_sound : IsSound kept nodes

pub record ChangesAreKept (kept : Kept) (nodes : NodeMap) : Type 0 where
  -- a node is added where none shows, in directories up to the root; its path isn't empty
  pub add : (p : List ℕ) (node : Node) → 0 < length p →
      map.get (nodes_over kept nodes) p ≡ None → is_in_directories (nodes_over kept nodes) p ≡ true →
      Shows (with_added kept p node) nodes (map.insert (nodes_over kept nodes) p node)
  -- a file is put in the place of one
  pub replace : (p bytes : List ℕ) (perms : Perms) → is_file (map.get (nodes_over kept nodes) p) ≡ true →
      Shows (with_made kept p (File bytes perms)) nodes (map.insert (nodes_over kept nodes) p (File bytes perms))
  -- what was put has other permissions, and so has what shows through
  pub give_made : (p : List ℕ) (node : Node) (x : Perms) → map.get kept.made p ≡ Some node →
      Shows (with_made kept p (with_perms x node)) nodes (set_perms p x (nodes_over kept nodes))
  pub give_through : (p : List ℕ) (x : Perms) → map.contains_key kept.made p ≡ false →
      Shows (with_given kept p x) nodes (set_perms p x (nodes_over kept nodes))
  -- what was added is taken away, or what was put in the place of a node, or what shows through
  pub take_added : (p : List ℕ) → map.contains_key kept.added p ≡ true →
      is_removable (look_at (nodes_over kept nodes) p) ≡ true →
      Shows (without_added kept p) nodes (map.remove (nodes_over kept nodes) p)
  pub take_made : (p : List ℕ) → map.contains_key kept.made p ≡ true → map.contains_key kept.added p ≡ false →
      is_removable (look_at (nodes_over kept nodes) p) ≡ true →
      Shows (without_made kept p) nodes (map.remove (nodes_over kept nodes) p)
  pub take_through : (p : List ℕ) → map.contains_key kept.made p ≡ false →
      is_removable (look_at (nodes_over kept nodes) p) ≡ true →
      Shows (with_hidden kept p) nodes (map.remove (nodes_over kept nodes) p)

abbrev pub OverlaysKeepChanges : Type 0
OverlaysKeepChanges = (kept : Kept) (nodes : NodeMap) → IsSound kept nodes → ChangesAreKept kept nodes
