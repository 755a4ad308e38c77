-- Nodes are numbered from 0, and a row lists the nodes that one node has edges to. A node leads to another where a
-- chain of edges goes from it to the other, of no edges from a node to itself.
use Rattle.std.specs.Prelude.{◌≡◌, ℕ, ◌+◌, ◌<◌, ◌≤◌, ◌↔◌, Bool, true, false, List, [], length, map, slice_index_or, if◌then◌else◌, ◌∷◌}
use Rattle.std.specs.List.{Contains}
use Rattle.std.specs.declared.alloc.Global.{Global}
use Rattle.std.specs.declared.vec.Vec.{Vec}

abbrev pub rows_of : List (Vec ℕ Global) → List (List ℕ)
rows_of rows = map (λ row. row.items) rows

abbrev pub row_of : List (List ℕ) → ℕ → List ℕ
row_of rows node = slice_index_or rows node []

pub data Leads (rows : List (List ℕ)) : ℕ → ℕ → Type 0 where
  stay : {node : ℕ} → Leads rows node node
  step : (node next : ℕ) {to : ℕ} → Contains (row_of rows node) next → Leads rows next to → Leads rows node to

-- each edge is to a node
pub record IsWithin (rows : List (List ℕ)) : Type 0 where
  pub within : (node next : ℕ) → Contains (row_of rows node) next → next < length rows

-- what a search has marked
abbrev pub Seen : List Bool → ℕ → Type 0
Seen seen node = slice_index_or seen node false ≡ true

abbrev pub unseen : List Bool → ℕ
unseen [] = 0
unseen (b ∷ bs) = (if b then 0 else 1) + unseen bs

-- what a search marks in the end: the nodes that its first node leads to
pub record IsReached (rows : List (List ℕ)) (first : ℕ) (seen : List Bool) : Type 0 where
  pub sized : length seen ≡ length rows
  pub exact : (node : ℕ) → Seen seen node ↔ Leads rows first node

-- a search in which the first nodes of order, so many as are done, have all their edges followed, and the edges to the
-- nodes of turn are followed too
pub record Search (rows : List (List ℕ)) (first : ℕ) (seen : List Bool) (order : List ℕ) (done : ℕ) (turn : List ℕ) : Type 0 where
  pub sized : length seen ≡ length rows
  pub begun : Seen seen first
  pub sound : (node : ℕ) → Seen seen node → Leads rows first node
  pub listed : (node : ℕ) → Seen seen node → (k : ℕ) × (k < length order) × (slice_index_or order k 0 ≡ node)
  pub marked : (k : ℕ) → k < length order → Seen seen (slice_index_or order k 0)
  pub behind : done ≤ length order
  pub closed : (k next : ℕ) → k < done → Contains (row_of rows (slice_index_or order k 0)) next → Seen seen next
  pub turned : (next : ℕ) → Contains turn next → Seen seen next
  pub counted : length order + unseen seen ≡ length rows

-- along each edge the level stays or falls
abbrev pub Falls : (rows : List (List ℕ)) (levels : List ℕ) → Type 0
Falls rows levels = (node next : ℕ) → Contains (row_of rows node) next → slice_index_or levels next 0 ≤ slice_index_or levels node 0

pub record IsLevelled (rows : List (List ℕ)) (levels : List ℕ) : Type 0 where
  pub sized : length levels ≡ length rows
  pub falls : Falls rows levels
