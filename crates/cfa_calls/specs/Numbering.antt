-- Bundles are numbered by the first places of their names among the names of all calls, and each call is then an edge
-- between two numbers.
use Rattle.std.specs.Prelude.{◌≡◌, ℕ, ◌<◌, Bool, true, IsTrue, List, [], ◌∷◌, Option, Some, None, length, unwrap_or, slice_index_or, ◌↔◌}
use Rattle.std.specs.List.{Contains, All, flat_map}
use Rattle.cfa_base.specs.declared.places.Place.{Place}
use Rattle.cfa_calls.specs.declared.cycles.Edge.{Edge}
use Rattle.cfa_calls.specs.declared.cycles.Call.{Call as CodeCall}
use Rattle.cfa_calls.specs.Cycles.{Call, OnCycle, seen_call, seen_calls}
use Rattle.cfa_base.specs.Index.{place_of}
use Rattle.cfa_base.specs.Order.{is_before, not_after}
use Rattle.cfa_calls.specs.Reaching.{row_of, Leads}

abbrev pub names_of : List Call → List (List ℕ)
names_of calls = flat_map (λ call. call.caller ∷ call.callee ∷ []) calls

abbrev pub number_in : List (List ℕ) → List ℕ → ℕ
number_in names name = unwrap_or (place_of names name) 0

abbrev pub edge_in : List (List ℕ) → Call → Edge
edge_in names call = record { from = number_in names call.caller; to = number_in names call.callee }

-- the rows list the edges, and no others
pub record HasEdges (edges : List Edge) (rows : List (List ℕ)) : Type 0 where
  pub each : (edge : Edge) → Contains edges edge → Contains (row_of rows edge.from) edge.to
  pub only : (node next : ℕ) → Contains (row_of rows node) next → (edge : Edge) × Contains edges edge × (edge.from ≡ node) × (edge.to ≡ next)

-- each call has its edge, and lies on a cycle exactly where a chain of edges leads back from the edge's end
pub record Traces (calls : List CodeCall) (edges : List Edge) (rows : List (List ℕ)) : Type 0 where
  pub sized : length edges ≡ length calls
  pub from : All (λ (edge : Edge). edge.from < length rows) edges
  pub to : All (λ (edge : Edge). edge.to < length rows) edges
  pub exact : (k : ℕ) (call : CodeCall) (edge : Edge) → k < length calls
      → Leads rows (slice_index_or edges k edge).to (slice_index_or edges k edge).from ↔ OnCycle (seen_calls calls) (seen_call (slice_index_or calls k call))

-- the first place so far of those calls that pass
abbrev pub FirstSoFar : (Call → Type 0) → List Call → Option Place → Type 0
FirstSoFar Passes calls None = (call : Call) → Contains calls call → Passes call → ⊥
FirstSoFar Passes calls (Some place) =
    ((call : Call) × Contains calls call × Passes call × (call.place ≡ place))
    × ((other : Call) → Contains calls other → Passes other → IsTrue (not_after place other.place))

abbrev pub may_be_first : Place → Option Place → Bool
may_be_first place None = true
may_be_first place (Some first) = is_before place first
