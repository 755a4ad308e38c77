-- What a journal tells of each promise: a row for each that began or failed in some run. It counts the instances of the promise
-- by how they ended, sums the changes of those that were repaired, and has the moment of the last run that tells of it.
use Rattle.std.specs.Prelude.{◌≡◌, ℕ, ◌+◌, Bool, if◌then◌else◌, List, [], ◌∷◌, All, filter, map, count_by, sum_by}
use Rattle.std.specs.List.Sorted.{IsStrictlySortedBy}
use Rattle.cfa_base.specs.declared.places.PromiseId.{PromiseId}
use Rattle.cfa_history.specs.declared.endings.Ending.{Ending}
use Rattle.cfa_history.specs.declared.rows.Counts.{Counts}
use Rattle.cfa_history.specs.declared.rows.Row.{Row}
use Rattle.cfa_history.specs.Ids.{id_cmp, is_same_id, is_listed}
use Rattle.cfa_history.specs.Instances.{Instance, is_repaired, is_failed, is_left_open, changes_of}

-- the instances of a promise
abbrev pub of_id : PromiseId → List Instance → List Instance
of_id id told = filter (λ i. is_same_id id i.id) told

-- the moment of the last of some instances, or this one where there is none
abbrev pub last_moment : ℕ → List Instance → ℕ
last_moment moment [] = moment
last_moment moment (i ∷ rest) = last_moment i.moment rest

-- what some instances tell together
abbrev pub counts_of : List Instance → Counts
counts_of told = record {
  repaired = count_by (λ i. is_repaired i.ending) told;
  changes = sum_by (λ i. changes_of i.ending) told;
  failed = count_by (λ i. is_failed i.ending) told;
  left_open = count_by (λ i. is_left_open i.ending) told;
  last = last_moment 0 told;
}

abbrev pub row_with : PromiseId → Counts → Row
row_with id counts = record { id = id; repaired = counts.repaired; changes = counts.changes; failed = counts.failed; left_open = counts.left_open; last = counts.last }

-- the row of a promise
abbrev pub row_of : List Instance → PromiseId → Row
row_of told id = row_with id (counts_of (of_id id told))

abbrev pub ids_of : List Row → List PromiseId
ids_of rows = map (λ row. row.id) rows

-- the rows of all promises that some instances tell of: each promise once, in their order, and no other
pub record IsTold (told : List Instance) (rows : List Row) : Type 0 where
  pub in_order : IsStrictlySortedBy id_cmp (ids_of rows)
  pub exactly : (id : PromiseId) → is_listed id (ids_of rows) ≡ is_listed id (map (λ i. i.id) told)
  pub counted : All (λ row. row ≡ row_of told row.id) rows

-- Of the code alone: one instance more is counted.
abbrev pub none_counted : Counts
none_counted = record { repaired = 0; changes = 0; failed = 0; left_open = 0; last = 0 }

abbrev pub one_if : Bool → ℕ
one_if b = if b then 1 else 0

abbrev pub with_instance : Counts → ℕ → Ending → Counts
with_instance counts moment ending = record {
  repaired = counts.repaired + one_if (is_repaired ending);
  changes = counts.changes + changes_of ending;
  failed = counts.failed + one_if (is_failed ending);
  left_open = counts.left_open + one_if (is_left_open ending);
  last = moment;
}
