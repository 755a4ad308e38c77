-- Rows that are kept by their keys stand in order.
use Rattle.std.proofs.Common.{◌≡◌, ℕ, List, [], ◌∷◌, Bool, true, false, ◌&&◌, T, Some, refl}
use Rattle.std.proofs.lemmas.List.Elements.{All-head, All-tail}
use Rattle.std.specs.Prelude.{All}
use Rattle.std.specs.FinMap as map
use Rattle.std.specs.FinMap.Entries.{below_all, is_sorted}
use Rattle.std.specs.Ordering.{is_lt}
use Rattle.std.specs.declared.cmp.Ordering.{Ordering}
use Rattle.std.specs.declared.cmp.Ordering.TheVariants.{Less, Equal, Greater}
use Rattle.cfa_base.specs.TextMaps.{text_cmp, TextMap}
use Rattle.cfa_rows.specs.Rows.{written, InOrder}
use Rattle.cfa_rows.specs.lemmas.Rows.{TellsRows}
use Rattle.cfa_tables.specs.Laws.{WritesTables}
use Rattle.cfa_tables.specs.Tables.{Rises, AreRows, IsTable}
use Rattle.cfa_tables.proofs.TableLemmas.{one_whole}

first_of : (a b : Bool) → T (a && b) → T a
first_of true b both = tt
first_of false b both = both

second_of : (a b : Bool) → T (a && b) → T b
second_of true b both = both
second_of false b both = absurd both

is_less : (o : Ordering) → T (is_lt o) → o ≡ Less
is_less Less less = refl
is_less Equal less = absurd less
is_less Greater less = absurd less

module _ {X : Type 0} (IsRow : List ℕ × X → Type 0) where
  rise_behind : (row : List ℕ × X) (rows : List (List ℕ × X)) → T (below_all text_cmp row.0 rows) → T (is_sorted text_cmp rows) → All IsRow rows → InOrder (Rises IsRow) (Some row) rows
  rise_behind row [] below sorted all = tt
  rise_behind row (next ∷ rows) below sorted all =
      let above = is_less (text_cmp row.0 next.0) (first_of _ _ below) in
      let rest = rise_behind next rows (first_of _ _ sorted) (second_of _ _ sorted) (All-tail IsRow next rows all) in
      ((All-head IsRow next rows all, above), rest)

  rise : (rows : List (List ℕ × X)) → T (is_sorted text_cmp rows) → All IsRow rows → AreRows IsRow rows
  rise [] sorted all = tt
  rise (row ∷ rows) sorted all =
      ((All-head IsRow row rows all, tt), rise_behind row rows (first_of _ _ sorted) (second_of _ _ sorted) (All-tail IsRow row rows all))

  kept_table : (form : List ℕ × X → List ℕ) (rows : TextMap X) → All IsRow (map.entries rows) → IsTable form IsRow (written form (map.entries rows)) (map.entries rows)
  kept_table form rows all = (refl, rise (map.entries rows) (map.entries_sorted rows) all)

  pub writes_tables : (form : List ℕ × X → List ℕ) → TellsRows form (Rises IsRow) → WritesTables form IsRow
  writes_tables form tells = record {
    table = kept_table form;
    reads_back = λ rows other all is. one_whole form (Rises IsRow) tells (written form (map.entries rows)) other (map.entries rows) is (kept_table form rows all);
  }
