-- The rows that instances tell are one list: their promises stand in one order, each once.
use Rattle.std.proofs.Common.{◌≡◌, ℕ, List, [], ◌∷◌, All, BTreeSet, map, refl, sym, ap, ◌∙◌}
use Rattle.std.proofs.lemmas.List.Elements.{All-head, All-tail}
use Rattle.std.proofs.lemmas.Map.Lookups.{CmpEqualImpliesEq, exact_unsigned, exact_bytes, exact_pairs, btree_set_from_contains}
use Rattle.std.specs.Cmp.Lexicographic.{slice_cmp}
use Rattle.std.specs.Ordering.{nat_cmp, ordering_then}
use Rattle.cfa_base.specs.declared.places.PromiseId.{PromiseId}
use Rattle.cfa_history.specs.declared.rows.Row.{Row}
use Rattle.cfa_history.specs.Ids.{id_cmp}
use Rattle.cfa_history.specs.Instances.{Instance}
use Rattle.cfa_history.specs.Rows.{row_of, ids_of}
use Rattle.cfa_history.specs.Laws.{RowsAreOne}
use Rattle.cfa_history.proofs.RowLemmas.{id_total}

abbrev Key : Type 0
Key = (List ℕ × ℕ) × ℕ

abbrev key_of : PromiseId → Key
key_of id = ((id.bundle, id.number), id.line)

abbrev id_at : Key → PromiseId
id_at key = record { bundle = key.0.0; number = key.0.1; line = key.1 }

-- the order tells promises apart
exact_ids : CmpEqualImpliesEq id_cmp
exact_ids a b same = ap id_at (exact_pairs (λ (x y : List ℕ × ℕ). ordering_then (slice_cmp nat_cmp x.0 y.0) (nat_cmp x.1 y.1)) nat_cmp
    (exact_pairs (slice_cmp nat_cmp) nat_cmp exact_bytes exact_unsigned) exact_unsigned (key_of a) (key_of b) same)

abbrev set_of : List PromiseId → BTreeSet PromiseId
set_of ids = record { keys = ids }

by_ids : (told : List Instance) (rows : List Row) → All (λ row. row ≡ row_of told row.id) rows → rows ≡ map (row_of told) (ids_of rows)
by_ids told [] all = refl
by_ids told (row ∷ rows) all =
    let is = All-head (λ (r : Row). r ≡ row_of told r.id) row rows all in
    let more = by_ids told rows (All-tail (λ (r : Row). r ≡ row_of told r.id) row rows all) in
    λ i. is i ∷ more i

pub one_told : RowsAreOne
one_told told rows other a b =
    let ids : ids_of rows ≡ ids_of other = btree_set_from_contains id_total (set_of (ids_of rows)) (set_of (ids_of other)) a.in_order b.in_order (λ q. a.exactly q ∙ sym (b.exactly q)) exact_ids in
    by_ids told rows a.counted ∙ ap (map (row_of told)) ids ∙ sym (by_ids told other b.counted)
