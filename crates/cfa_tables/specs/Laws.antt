-- The laws of tables.
use Rattle.std.specs.Prelude.{◌≡◌, ℕ, List, All}
use Rattle.std.specs.FinMap as map
use Rattle.cfa_base.specs.TextMaps.{TextMap}
use Rattle.cfa_rows.specs.Rows.{written}
use Rattle.cfa_tables.specs.declared.row_changes.RowChange.{RowChange}
use Rattle.cfa_tables.specs.ReadOver.{HostRows, read_over, ArePartlyWritten}
use Rattle.cfa_tables.specs.Tables.{IsTable, HasBadRow}

-- bytes are one table, with rows of this form; a table has no bad row, so that what is written reads back; and bytes have
-- one first bad row
pub record TellsTables {X : Type 0} (form : List ℕ × X → List ℕ) (IsRow : List ℕ × X → Type 0) : Type 0 where
  pub one : (bytes : List ℕ) (rows other : List (List ℕ × X)) → IsTable form IsRow bytes rows → IsTable form IsRow bytes other → rows ≡ other
  pub never_both : (bytes : List ℕ) (rows : List (List ℕ × X)) (line : ℕ) → IsTable form IsRow bytes rows → ¬ HasBadRow form IsRow bytes line
  pub one_bad_row : (bytes : List ℕ) (line other : ℕ) → HasBadRow form IsRow bytes line → HasBadRow form IsRow bytes other → line ≡ other

-- rows by their keys, written in the order of these, are a table, which reads back to these rows and to no others
pub record WritesTables {X : Type 0} (form : List ℕ × X → List ℕ) (IsRow : List ℕ × X → Type 0) : Type 0 where
  pub table : (rows : TextMap X) → All IsRow (map.entries rows) → IsTable form IsRow (written form (map.entries rows)) (map.entries rows)
  pub reads_back : (rows : TextMap X) (other : List (List ℕ × X)) → All IsRow (map.entries rows) → IsTable form IsRow (written form (map.entries rows)) other → other ≡ map.entries rows

-- changed rows that are read over tables of which some have them already give the rows that they gave before, where the
-- journal has as many bytes as before
abbrev pub ReadAgain : Type 0
ReadAgain = (journal : ℕ) (changes : List RowChange) (before now : HostRows) → ArePartlyWritten journal changes before now → read_over journal changes now ≡ read_over journal changes before
