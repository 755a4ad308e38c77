-- Of the code alone: what a table of counts by promises holds, in the order of the promises, and how it grows by one
-- instance after the other.
use Rattle.std.specs.Prelude.{ℕ, ◌-◌, ◌*◌, ◌^◌, ◌<◌, ◌≤◌, List, [], ◌∷◌, All, map, unwrap_or}
use Rattle.std.specs.FinMap.{find, put}
use Rattle.cfa_base.specs.declared.places.PromiseId.{PromiseId}
use Rattle.cfa_history.specs.declared.endings.Ending.{Ending}
use Rattle.cfa_history.specs.declared.rows.Counts.{Counts}
use Rattle.cfa_history.specs.declared.rows.Row.{Row}
use Rattle.cfa_history.specs.Ids.{id_cmp}
use Rattle.cfa_history.specs.Instances.{Instance}
use Rattle.cfa_history.specs.Rows.{none_counted, with_instance, row_with}

abbrev pub Entries : Type 0
Entries = List (PromiseId × Counts)

-- the promise of a key, by the bytes of its bundle
abbrev pub id_at : {B : Type 0} → (B → List ℕ) → (B × ℕ) × ℕ → PromiseId
id_at bytes key = record { bundle = bytes key.0.0; number = key.0.1; line = key.1 }

-- entries by their promises
abbrev pub by_id : {B X : Type 0} → (B → List ℕ) → List (((B × ℕ) × ℕ) × X) → List (PromiseId × X)
by_id bytes entries = map (λ e. (id_at bytes e.0, e.1)) entries

-- what is counted of a promise
abbrev pub counts_in : PromiseId → Entries → Counts
counts_in id entries = unwrap_or (find id_cmp id entries) none_counted

-- one instance more
abbrev pub tally : Entries → PromiseId → ℕ → Ending → Entries
tally entries id moment ending = put id_cmp id (with_instance (counts_in id entries) moment ending) entries

abbrev pub tallied : Entries → List Instance → Entries
tallied entries [] = entries
tallied entries (i ∷ rest) = tallied (tally entries i.id i.moment i.ending) rest

abbrev pub rows_in : Entries → List Row
rows_in entries = map (λ e. row_with e.0 e.1) entries

-- counts that so many instances may have
abbrev pub IsWithin : ℕ → Counts → Type 0
IsWithin n counts = ((counts.repaired ≤ n) × (counts.changes ≤ n * 4294967295)) × ((counts.failed ≤ n) × (counts.left_open ≤ n))

-- each of the entries has no more than so many instances may give
abbrev pub AllWithin : ℕ → Entries → Type 0
AllWithin n entries = All (λ e. IsWithin n e.1) entries

-- one instance more can be counted
abbrev pub IsRoom : Counts → Type 0
IsRoom counts = ((counts.repaired < 2 ^ 64 - 1) × (counts.changes < 2 ^ 64 - 2 ^ 32)) × ((counts.failed < 2 ^ 64 - 1) × (counts.left_open < 2 ^ 64 - 1))
