-- A map whose keys are texts is seen as a finite map from their bytes, in byte order.
use Rattle.std.specs.Prelude.{ℕ, List, Bool, ◌&&◌, ◌==◌, not, nat_eq, map, length, drop}
use Rattle.std.specs.List.{filter, list_any, starts_with}
use Rattle.std.specs.Ordering.{nat_cmp}
use Rattle.std.specs.declared.cmp.Ordering.{Ordering}
use Rattle.std.specs.Cmp.Lexicographic.{slice_cmp}
use Rattle.std.specs.FinMap as finite

-- texts by their bytes
abbrev pub text_cmp : List ℕ → List ℕ → Ordering
text_cmp = slice_cmp nat_cmp

abbrev pub TextMap : Type 0 → Type 0
TextMap X = finite.FinMap text_cmp X

-- the entries, with the bytes of each key
abbrev pub by_bytes : {K X : Type 0} → (K → List ℕ) → List (K × X) → List (List ℕ × X)
by_bytes bytes entries = map (λ e. (bytes e.0, e.1)) entries

abbrev pub text_map : {K X : Type 0} → (K → List ℕ) → List (K × X) → TextMap X
text_map bytes entries = finite.from_entries (by_bytes bytes entries)

-- some text of the map begins so
abbrev pub has_front : {X : Type 0} → TextMap X → List ℕ → Bool
has_front m front = list_any (λ key. starts_with nat_eq key front) (finite.keys m)

-- the text begins so, and no slash follows
abbrev pub is_leaf : List ℕ → List ℕ → Bool
is_leaf front text = starts_with nat_eq text front && not (list_any (λ b. b == 47) (drop (length front) text))

-- how many texts of the map begin so with no slash behind
abbrev pub count_leaves : {X : Type 0} → TextMap X → List ℕ → ℕ
count_leaves m front = length (filter (is_leaf front) (finite.keys m))
