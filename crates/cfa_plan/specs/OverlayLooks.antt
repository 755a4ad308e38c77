-- What a look at an overlay shows, by what is kept and by what a look at the host shows. Where nothing that is kept speaks of the
-- path, nor of one above it, the host tells, but for a directory whether it is empty: that is told by how many nodes stand
-- directly in it on the host, how many of those were taken away and how many were added.
use Rattle.std.specs.Prelude.{◌≡◌, ℕ, ◌+◌, nat_eq, length, List, Bool, true, false, ◌||◌, not, if◌then◌else◌, Option, Some}
use Rattle.std.specs.FinMap as map
use Rattle.std.specs.List.{list_any}
use Rattle.cfa_base.specs.TextMaps.{has_front, count_leaves}
use Rattle.cfa_outside.specs.declared.sites.Look.TheVariants as look
use Rattle.cfa_outside.specs.declared.worlds.Node.TheVariants.{File, Dir}
use Rattle.cfa_outside.specs.declared.worlds.Perms.{Perms}
use Rattle.cfa_outside.specs.declared.worlds.World.{World}
use Rattle.cfa_outside.specs.Worlds.{NodeMap, HasParents, above, below_front, children_of, has_below, is_directory, is_file, look_at}
use Rattle.cfa_plan.specs.Overlays.{Kept, IsSound, is_touched, nodes_over, nothing_kept, world_over}

-- nothing that is kept speaks of the path or of one above it
pub record IsUntouched (kept : Kept) (p : List ℕ) : Type 0 where
  pub here : is_touched kept p ≡ false
  pub above_it : list_any (is_touched kept) (above p) ≡ false

pub record LooksAreShown (kept : Kept) (nodes : NodeMap) : Type 0 where
  -- what was put
  pub made_file : (p bytes : List ℕ) (perms : Perms) → map.get kept.made p ≡ Some (File bytes perms) →
      look_at (nodes_over kept nodes) p ≡ look.File (length bytes)
  pub made_dir : (p : List ℕ) (perms : Perms) → map.get kept.made p ≡ Some (Dir perms) →
      look_at (nodes_over kept nodes) p ≡ look.Dir (not (has_front kept.made (below_front p)))
  -- what was taken away, or stands below what was put or taken away, and wasn't put
  pub missing : (p : List ℕ) → map.contains_key kept.made p ≡ false →
      (map.contains_key kept.hidden p || list_any (is_touched kept) (above p)) ≡ true →
      look_at (nodes_over kept nodes) p ≡ (if list_any (λ q. is_file (map.get kept.made q)) (above p) then look.Blocked else look.Nothing)
  -- what shows through
  pub nothing_through : (p : List ℕ) → IsUntouched kept p → look_at nodes p ≡ look.Nothing → look_at (nodes_over kept nodes) p ≡ look.Nothing
  pub blocked_through : (p : List ℕ) → IsUntouched kept p → look_at nodes p ≡ look.Blocked → look_at (nodes_over kept nodes) p ≡ look.Blocked
  pub file_through : (p : List ℕ) → IsUntouched kept p → (n : ℕ) → look_at nodes p ≡ look.File n → look_at (nodes_over kept nodes) p ≡ look.File n
  pub dir_through : (p : List ℕ) → IsUntouched kept p → (e : Bool) → look_at nodes p ≡ look.Dir e →
      (has_front kept.hidden (below_front p) || has_front kept.added (below_front p)) ≡ false →
      look_at (nodes_over kept nodes) p ≡ look.Dir e
  pub dir_counted : (p : List ℕ) → IsUntouched kept p → (e : Bool) → look_at nodes p ≡ look.Dir e →
      look_at (nodes_over kept nodes) p ≡
      look.Dir (nat_eq (children_of nodes p + count_leaves kept.added (below_front p)) (count_leaves kept.hidden (below_front p)))
  -- how many nodes stand directly in a directory
  pub children_made : (p : List ℕ) → is_directory (map.get kept.made p) ≡ true →
      children_of (nodes_over kept nodes) p ≡ count_leaves kept.made (below_front p)
  pub children_through : (p : List ℕ) →
      children_of (nodes_over kept nodes) p + count_leaves kept.hidden (below_front p)
      ≡ children_of nodes p + count_leaves kept.added (below_front p)

abbrev pub OverlaysShowLooks : Type 0
OverlaysShowLooks = (kept : Kept) (nodes : NodeMap) → IsSound kept nodes → LooksAreShown kept nodes

-- where nothing was changed the host shows
pub record BeginsAsHost (world : World) : Type 0 where
  pub shows_all : world_over nothing_kept world ≡ world
  pub sound : HasParents world.nodes → IsSound nothing_kept world.nodes

abbrev pub OverlaysBeginAsHosts : Type 0
OverlaysBeginAsHosts = (world : World) → BeginsAsHost world

-- something stands below a path exactly where something stands directly in it
pub record EmptyWithoutChildren (nodes : NodeMap) (p : List ℕ) : Type 0 where
  pub none : has_below nodes p ≡ false → children_of nodes p ≡ 0
  pub empty : children_of nodes p ≡ 0 → has_below nodes p ≡ false

abbrev pub DirectoriesAreEmptyWithoutChildren : Type 0
DirectoriesAreEmptyWithoutChildren = (nodes : NodeMap) (p : List ℕ) → HasParents nodes → EmptyWithoutChildren nodes p
