-- What a look tells of what stands there, as the other calls of a site ask it.
use Rattle.std.proofs.Common.{◌≡◌, ℕ, ◌≤◌, Bool, true, false, List, length, Option, Some, None, refl, arith}
use Rattle.std.proofs.lemmas.Bool.{le-leb, false≢true}
use Rattle.std.specs.FinMap as map
use Rattle.cfa_base.specs.declared.limits.TheConstants.{MOST_FILE_BYTES}
use Rattle.cfa_outside.specs.declared.worlds.Node.{Node}
use Rattle.cfa_outside.specs.declared.worlds.Node.TheVariants as node
use Rattle.cfa_outside.specs.declared.sites.Look.TheVariants.{File, Dir}
use Rattle.cfa_outside.specs.Worlds.{NodeMap, is_directory, is_blocked, has_below, shows, look_at, is_readable, takes_file}

file_shown : (here : Option Node) (blocked below : Bool) (size : ℕ) → shows here blocked below ≡ File size → size ≤ MOST_FILE_BYTES → is_readable here ≡ true
file_shown (Some (node.File bytes _)) blocked below size is short =
    let same : length bytes ≡ size = cc in le-leb (length bytes) MOST_FILE_BYTES (omega (arith, same))
file_shown (Some (node.Dir _)) blocked below size is short = cc
file_shown None true below size is short = cc
file_shown None false below size is short = cc

-- a file within the limit may be read
pub readable_by_look : (nodes : NodeMap) (path : List ℕ) (size : ℕ) → look_at nodes path ≡ File size → size ≤ MOST_FILE_BYTES → is_readable (map.get nodes path) ≡ true
unfolding look_at
readable_by_look nodes path size is short = file_shown (map.get nodes path) (is_blocked nodes path) (has_below nodes path) size is short

file_stands : (here : Option Node) (blocked below : Bool) (size : ℕ) → shows here blocked below ≡ File size → (n : Node) × (here ≡ Some n)
file_stands (Some n) blocked below size is = (n, refl)
file_stands None true below size is = cc
file_stands None false below size is = cc

directory_stands : (here : Option Node) (blocked below is_empty : Bool) → shows here blocked below ≡ Dir is_empty → (n : Node) × (here ≡ Some n)
directory_stands (Some n) blocked below is_empty is = (n, refl)
directory_stands None true below is_empty is = cc
directory_stands None false below is_empty is = cc

-- where a look shows a file or a directory, something stands
pub stands_by_file : (nodes : NodeMap) (path : List ℕ) (size : ℕ) → look_at nodes path ≡ File size → map.contains_key nodes path ≡ true
unfolding look_at
stands_by_file nodes path size is =
    let found = file_stands (map.get nodes path) (is_blocked nodes path) (has_below nodes path) size is in
    rw found.1 refl

pub stands_by_directory : (nodes : NodeMap) (path : List ℕ) (is_empty : Bool) → look_at nodes path ≡ Dir is_empty → map.contains_key nodes path ≡ true
unfolding look_at
stands_by_directory nodes path is_empty is =
    let found = directory_stands (map.get nodes path) (is_blocked nodes path) (has_below nodes path) is_empty is in
    rw found.1 refl

-- no directory stands where a look says that a file may be put
pub no_directory : (here : Option Node) (blocked below : Bool) → takes_file (shows here blocked below) ≡ true → is_directory here ≡ false
no_directory (Some (node.File _ _)) blocked below is = refl
no_directory (Some (node.Dir _)) blocked below is = absurd (false≢true is)
no_directory None blocked below is = refl
