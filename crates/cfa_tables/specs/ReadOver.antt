-- The rows of a host are those of its tables with the changed rows read over them, in the order in which they were told: a
-- changed row takes the place of the one that has its key, and a node that is gone has none. A lock that was set behind so
-- many bytes of the journal counts for nothing where the journal has fewer.
use Rattle.std.specs.Prelude.{◌≡◌, ℕ, Bool, true, nat_le, if◌then◌else◌, List, [], ◌∷◌, ◌⊎◌}
use Rattle.std.specs.FinMap as map
use Rattle.cfa_base.specs.TextMaps.{TextMap}
use Rattle.cfa_outside.specs.declared.worlds.Perms.{Perms}
use Rattle.cfa_outside.specs.declared.worlds.ServiceRow.{ServiceRow}
use Rattle.cfa_tables.specs.declared.row_changes.RowChange.{RowChange}
use Rattle.cfa_tables.specs.declared.row_changes.RowChange.TheVariants.{Permissions, Gone, Service, Lock, LockBehind}

-- the rows of each table, by their keys
pub record HostRows : Type 0 where
  pub perms : TextMap Perms
  pub services : TextMap ServiceRow
  pub locks : TextMap ℕ

-- whether a changed row counts where the journal has so many bytes
abbrev pub counts_at : ℕ → RowChange → Bool
counts_at journal (Permissions path perms) = true
counts_at journal (Gone path) = true
counts_at journal (Service name row) = true
counts_at journal (Lock key moment) = true
counts_at journal (LockBehind length key moment) = nat_le length journal

-- the rows with a changed row that counts
abbrev pub with_change : RowChange → HostRows → HostRows
with_change (Permissions path perms) rows =
    record { perms = map.insert rows.perms path perms; services = rows.services; locks = rows.locks }
with_change (Gone path) rows =
    record { perms = map.remove rows.perms path; services = rows.services; locks = rows.locks }
with_change (Service name row) rows =
    record { perms = rows.perms; services = map.insert rows.services name row; locks = rows.locks }
with_change (Lock key moment) rows =
    record { perms = rows.perms; services = rows.services; locks = map.insert rows.locks key moment }
with_change (LockBehind length key moment) rows =
    record { perms = rows.perms; services = rows.services; locks = map.insert rows.locks key moment }

-- `journal` is the length of the journal in bytes
abbrev pub read_over : ℕ → List RowChange → HostRows → HostRows
read_over journal [] rows = rows
read_over journal (change ∷ changes) rows =
    read_over journal changes (if counts_at journal change then with_change change rows else rows)

-- each table has its rows from before, or was written since with the changed rows read over them
pub record ArePartlyWritten (journal : ℕ) (changes : List RowChange) (before now : HostRows) : Type 0 where
  pub perms : (now.perms ≡ before.perms) ⊎ (now.perms ≡ (read_over journal changes before).perms)
  pub services : (now.services ≡ before.services) ⊎ (now.services ≡ (read_over journal changes before).services)
  pub locks : (now.locks ≡ before.locks) ⊎ (now.locks ≡ (read_over journal changes before).locks)
