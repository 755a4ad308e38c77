-- Promises are ordered by their bundles, in the order of bytes, then by their numbers, then by their lines.
use Rattle.std.specs.Prelude.{Bool, List}
use Rattle.std.specs.List.{list_any}
use Rattle.std.specs.Ordering.{is_eq, nat_cmp, ordering_then}
use Rattle.std.specs.Cmp.Lexicographic.{slice_cmp}
use Rattle.std.specs.declared.cmp.Ordering.{Ordering}
use Rattle.cfa_base.specs.declared.places.PromiseId.{PromiseId}

abbrev pub id_cmp : PromiseId → PromiseId → Ordering
id_cmp a b = ordering_then (ordering_then (slice_cmp nat_cmp a.bundle b.bundle) (nat_cmp a.number b.number)) (nat_cmp a.line b.line)

abbrev pub is_same_id : PromiseId → PromiseId → Bool
is_same_id a b = is_eq (id_cmp a b)

abbrev pub is_listed : PromiseId → List PromiseId → Bool
is_listed id ids = list_any (is_same_id id) ids
