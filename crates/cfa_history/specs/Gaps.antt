-- What changed between two recorded writes. Each `file` record tells of a write: what stood at its path, and what was to
-- stand there. There is a gap at a write where another content stood at its path than the last write to it before was to
-- leave there, with nothing recorded between them. Where that write is of an instance that failed or was left open, it may
-- not have been made, so that what it found may stand there too. A content that wasn't digested tells of no gap.
use Rattle.std.specs.Prelude.{ℕ, Bool, true, false, ◌&&◌, ◌||◌, not, if◌then◌else◌, List, [], ◌∷◌, ◌++◌, filter, map, Option, Some, None}
use Rattle.std.specs.Str.{bytes_eq}
use Rattle.std.specs.FinMap as finite
use Rattle.cfa_base.specs.TextMaps.{TextMap}
use Rattle.cfa_rows.specs.Rows.{last_of}
use Rattle.cfa_journal.specs.declared.records.Digest.{Digest}
use Rattle.cfa_journal.specs.declared.records.Digest.TheVariants.{Nothing, Over, Sha}
use Rattle.cfa_journal.specs.declared.records.Record.{Record}
use Rattle.cfa_journal.specs.declared.records.Record.TheVariants.{Run, Run2, Open, File, Repaired, Failed, Fail}
use Rattle.cfa_history.specs.declared.gaps.Gap.{Gap}
use Rattle.cfa_history.specs.declared.gaps.Write.{Write}
use Rattle.cfa_history.specs.Instances.{ending_of, is_repaired}

-- a write, with its path and the moment of its run
pub record Written : Type 0 where
  pub path : List ℕ
  pub moment : ℕ
  pub write : Write

abbrev pub written : (path : List ℕ) → (moment : ℕ) → Write → Written
written path moment write = record { path = path; moment = moment; write = write }

-- the writes that records tell of, in order, in a run of this moment up to the next `run`
abbrev pub writes : (moment : ℕ) → List Record → List Written
writes moment [] = []
writes moment (Run next ∷ rest) = writes next rest
writes moment (Run2 next ∷ rest) = writes next rest
writes moment (Open n id key ∷ rest) = writes moment rest
writes moment (File n path before after ∷ rest) =
    written path moment (record { before = before; after = after; is_repaired = is_repaired (ending_of rest) }) ∷ writes moment rest
writes moment (Repaired n changes ∷ rest) = writes moment rest
writes moment (Failed n reason ∷ rest) = writes moment rest
writes moment (Fail n id key reason ∷ rest) = writes moment rest

-- the writes to a path
abbrev pub to_path : List ℕ → List Written → List Written
to_path path told = filter (λ w. bytes_eq w.path path) told

abbrev pub is_known : Digest → Bool
is_known Nothing = true
is_known Over = false
is_known (Sha key) = true

abbrev pub is_same_digest : Digest → Digest → Bool
is_same_digest Nothing Nothing = true
is_same_digest Nothing Over = false
is_same_digest Nothing (Sha key) = false
is_same_digest Over Nothing = false
is_same_digest Over Over = true
is_same_digest Over (Sha key) = false
is_same_digest (Sha key) Nothing = false
is_same_digest (Sha key) Over = false
is_same_digest (Sha key) (Sha key') = bytes_eq key key'

-- what a write may have left
abbrev pub may_leave : Write → Digest → Bool
may_leave write digest = is_same_digest digest write.after || (not write.is_repaired && is_same_digest digest write.before)

-- something else changed the file between two writes
abbrev pub is_gap : Write → Write → Bool
is_gap last next = (is_known last.after && (is_known last.before && is_known next.before)) && not (may_leave last next.before)

abbrev pub option_list : {X : Type 0} → Option X → List X
option_list None = []
option_list (Some x) = x ∷ []

-- the gap between the last write to a path and the next one, in a run of this moment
abbrev pub gap_between : Write → (path : List ℕ) → (moment : ℕ) → Write → Option Gap
gap_between last path moment next =
    if is_gap last next then Some (record { path = path; moment = moment; expected = last.after; found = next.before }) else None

-- the gap at a write, by the last one to its path before
abbrev pub gap_at : Option Write → Written → List Gap
gap_at None next = []
gap_at (Some last) next = option_list (gap_between last next.path next.moment next.write)

-- the last of some writes to a path
abbrev pub last_write : List ℕ → List Written → Option Write
last_write path told = last_of (map (λ w. w.write) (to_path path told))

-- the gaps at some writes, behind those before
abbrev pub gaps_behind : List Written → List Written → List Gap
gaps_behind before [] = []
gaps_behind before (next ∷ rest) = gap_at (last_write next.path before) next ++ gaps_behind (before ++ next ∷ []) rest

abbrev pub gaps_of : List Record → List Gap
gaps_of records = gaps_behind [] (writes 0 records)

-- Of the code alone: the same by a map that has the last write to each path so far.
abbrev pub gaps_on : TextMap Write → List Written → List Gap
gaps_on latest [] = []
gaps_on latest (next ∷ rest) = gap_at (finite.get latest next.path) next ++ gaps_on (finite.insert latest next.path next.write) rest
