-- Rows that changed since the tables of a host were written are lines of a file of their own: the word of the table and
-- the row, or `gone` and the path of a node that was taken away. A later line of a key goes before an earlier one, and
-- before the row of the table. The row of a lock that was set behind a record of the journal may be `behind` a length: it
-- counts where the journal has at least so many bytes.
use Rattle.std.specs.Prelude.{ℕ, ◌^◌, ◌<◌, List, codes, Option}
use Rattle.std.specs.Fmt.{decimal}
use Rattle.cfa_base.specs.Escapes.{escaped}
use Rattle.cfa_rows.specs.Rows.{◌then◌}
use Rattle.cfa_tables.specs.declared.row_changes.RowChange.{RowChange}
use Rattle.cfa_tables.specs.declared.row_changes.RowChange.TheVariants.{Permissions, Gone, Service, Lock, LockBehind}
use Rattle.cfa_tables.specs.Tables.{IsPath, IsServiceRow, IsPermsRow, IsLockRow, service_text, perms_text, lock_text}

-- a length of the journal, and the row of a lock
abbrev pub IsBehindRow : ℕ × (List ℕ × ℕ) → Type 0
IsBehindRow row = (row.0 < 2 ^ 64) × IsLockRow row.1

unfoldable pub behind_text : ℕ × (List ℕ × ℕ) → List ℕ
behind_text row = decimal row.0 then lock_text row.1

abbrev pub IsRowChange : RowChange → Type 0
IsRowChange (Permissions path perms) = IsPermsRow (path, perms)
IsRowChange (Gone path) = IsPath path
IsRowChange (Service name row) = IsServiceRow (name, row)
IsRowChange (Lock key moment) = IsLockRow (key, moment)
IsRowChange (LockBehind length key moment) = IsBehindRow (length, (key, moment))

abbrev pub word_of : RowChange → List ℕ
word_of (Permissions path perms) = codes "perms"
word_of (Gone path) = codes "gone"
word_of (Service name row) = codes "service"
word_of (Lock key moment) = codes "lock"
word_of (LockBehind length key moment) = codes "behind"

abbrev pub fields_of : RowChange → List ℕ
fields_of (Permissions path perms) = perms_text (path, perms)
fields_of (Gone path) = escaped path
fields_of (Service name row) = service_text (name, row)
fields_of (Lock key moment) = lock_text (key, moment)
fields_of (LockBehind length key moment) = behind_text (length, (key, moment))

-- the line of a changed row, without its newline
unfoldable pub change_text : RowChange → List ℕ
change_text change = word_of change then fields_of change

-- a changed row may stand behind any other
abbrev pub IsNext : Option RowChange → RowChange → Type 0
IsNext last change = IsRowChange change
