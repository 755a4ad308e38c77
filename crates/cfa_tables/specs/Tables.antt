-- The tables of a host: which services it has, which permissions its nodes, and when its locks were taken. A table is a
-- file of rows, a line for each: its fields in their one written form with a space between them, the key first. The keys
-- rise in the order of their bytes, before they are escaped.
use Rattle.std.specs.Prelude.{◌≡◌, ℕ, ◌+◌, ◌^◌, ◌<◌, Bool, true, false, IsTrue, List, ◌++◌, length, codes, Option, Some, None, ⊤, ◌⊎◌}
use Rattle.std.specs.Fmt.{decimal}
use Rattle.std.specs.Str.{IsUtf8}
use Rattle.std.specs.declared.cmp.Ordering.TheVariants.{Less}
use Rattle.cfa_base.specs.Escapes.{escaped}
use Rattle.cfa_base.specs.Keys.{is_key}
use Rattle.cfa_base.specs.Octal.{mode_text}
use Rattle.cfa_base.specs.TextMaps.{text_cmp}
use Rattle.cfa_outside.specs.Paths.{path_of}
use Rattle.cfa_outside.specs.declared.worlds.Perms.{Perms}
use Rattle.cfa_outside.specs.declared.worlds.ServiceRow.{ServiceRow}
use Rattle.cfa_base.specs.Lacking.{Lacks}
use Rattle.cfa_rows.specs.Rows.{written, InOrder, HasBadLine, ◌then◌}

-- Fields.

-- a text that isn't empty
abbrev pub IsFilled : List ℕ → Type 0
IsFilled text = IsUtf8 text × (0 < length text)

-- a path in its own spelling, without two slashes side by side
abbrev pub IsPath : List ℕ → Type 0
IsPath path = IsUtf8 path × (path_of path ≡ Some path)

abbrev pub IsKey : List ℕ → Type 0
IsKey key = IsTrue (is_key key)

abbrev pub running_text : Bool → List ℕ
running_text true = codes "running"
running_text false = codes "stopped"

abbrev pub enabled_text : Bool → List ℕ
enabled_text true = codes "enabled"
enabled_text false = codes "disabled"

-- a mode has twelve bits
abbrev pub IsMode : ℕ → Type 0
IsMode mode = mode < 4096

-- Rows: the key, and what stands under it.

abbrev pub IsServiceRow : List ℕ × ServiceRow → Type 0
IsServiceRow row = IsFilled row.0 × (row.1.restarts < 2 ^ 32)

abbrev pub IsPermsRow : List ℕ × Perms → Type 0
IsPermsRow row = IsPath row.0 × (IsMode row.1.mode × (IsFilled row.1.owner × IsFilled row.1.group))

abbrev pub IsLockRow : List ℕ × ℕ → Type 0
IsLockRow row = IsKey row.0 × (row.1 < 2 ^ 64)

-- the line of a row, without its newline
unfoldable pub service_text : List ℕ × ServiceRow → List ℕ
service_text row =
    escaped row.0 then running_text row.1.running then enabled_text row.1.enabled then decimal row.1.restarts

unfoldable pub perms_text : List ℕ × Perms → List ℕ
perms_text row = escaped row.0 then mode_text row.1.mode then escaped row.1.owner then escaped row.1.group

unfoldable pub lock_text : List ℕ × ℕ → List ℕ
lock_text row = row.0 then decimal row.1

-- Tables.

-- the key stands above the one before it, if there is one
abbrev pub IsAbove : {X : Type 0} → Option (List ℕ × X) → List ℕ → Type 0
IsAbove None key = ⊤
IsAbove (Some last) key = text_cmp last.0 key ≡ Less

-- a row that may stand behind another, or first
abbrev pub Rises : {X : Type 0} → (List ℕ × X → Type 0) → Option (List ℕ × X) → List ℕ × X → Type 0
Rises IsRow last row = IsRow row × IsAbove last row.0

-- each row is one, and the keys rise
abbrev pub AreRows : {X : Type 0} → (List ℕ × X → Type 0) → List (List ℕ × X) → Type 0
AreRows IsRow rows = InOrder (Rises IsRow) None rows

-- bytes are the lines of some rows in order
abbrev pub IsWhole : {R : Type 0} → (R → List ℕ) → (Option R → R → Type 0) → List ℕ → List R → Type 0
IsWhole form follows bytes rows = (written form rows ≡ bytes) × InOrder follows None rows

-- bytes are rows in order, and then a piece without a newline, which is counted as a line
pub record EndsTorn {R : Type 0} (form : R → List ℕ) (follows : Option R → R → Type 0) (bytes : List ℕ) (line : ℕ) : Type 0 where
  pub before : List R
  pub piece : List ℕ
  pub whole : written form before ++ piece ≡ bytes
  pub in_order : InOrder follows None before
  pub torn : Lacks 10 piece
  pub some : 0 < length piece
  pub counted : line ≡ length before + 1

-- the first line of bytes that is no row in its place, or that has no newline
abbrev pub HasBadPiece : {R : Type 0} → (R → List ℕ) → (Option R → R → Type 0) → List ℕ → ℕ → Type 0
HasBadPiece form follows bytes line = HasBadLine form follows bytes line ⊎ EndsTorn form follows bytes line

-- the bytes are the text of these rows, whose keys rise
abbrev pub IsTable : {X : Type 0} → (List ℕ × X → List ℕ) → (List ℕ × X → Type 0) → List ℕ → List (List ℕ × X) → Type 0
IsTable form IsRow bytes rows = IsWhole form (Rises IsRow) bytes rows

-- the first line of the bytes that is no row, or whose key isn't above the one before, or that has no newline
abbrev pub HasBadRow : {X : Type 0} → (List ℕ × X → List ℕ) → (List ℕ × X → Type 0) → List ℕ → ℕ → Type 0
HasBadRow form IsRow bytes line = HasBadPiece form (Rises IsRow) bytes line
