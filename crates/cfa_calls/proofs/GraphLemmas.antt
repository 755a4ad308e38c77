use Rattle.std.proofs.Common.{◌≡◌, ◌≢◌, ℕ, zero, suc, ◌<◌, List, [], ◌∷◌, ◌++◌, length, get_or, sym, ap, subst, refl, ◌∙◌, arith, ⊎_elim}
use Rattle.std.specs.List.{Contains}
use Rattle.std.specs.declared.alloc.Global.{Global}
use Rattle.std.specs.declared.vec.Vec.{Vec}
use Rattle.std.proofs.Math.ListN.{set, length-set, replicate}
use Rattle.std.proofs.lemmas.List.{get_or-set_same, get_or-set_other, set-get_or, map-set, get_or-map, length-map}
use Rattle.std.proofs.lemmas.List.Elements.{Contains-push_cases}
use Rattle.std.proofs.lemmas.Bool.{cases_eq}
use Rattle.cfa_calls.specs.Reaching.{rows_of, row_of, IsWithin}

none_at : (n node : ℕ) → row_of (replicate n []) node ≡ []
none_at zero node = refl
none_at (suc n) zero = refl
none_at (suc n) (suc node) = none_at n node

pub within_none : (rows : List (List ℕ)) (n : ℕ) → rows ≡ replicate n [] → IsWithin rows
within_none rows n is = subst IsWithin (sym is) (record {
  within = λ node next edge.
      let at = subst (λ xs. Contains xs next) (none_at n node) edge in
      let below : at.0 < 0 = at.1 in
      absurd (omega arith);
})

-- the rows after one was written at a place
pub rows_set : (rows : List (Vec ℕ Global)) (i : ℕ) (row : Vec ℕ Global) → rows_of (set rows i row) ≡ set (rows_of rows) i row.items
rows_set rows i row = map-set (λ (r : Vec ℕ Global). r.items) rows i row

pub rows_at : (rows : List (Vec ℕ Global)) (i : ℕ) (row : Vec ℕ Global) → i < length rows → row ≡ get_or rows i row → row_of (rows_of rows) i ≡ row.items
rows_at rows i row h is = get_or-map (λ (r : Vec ℕ Global). r.items) rows i row [] h ∙ ap (λ (r : Vec ℕ Global). r.items) (sym is)

pub node_within : (rows : List (Vec ℕ Global)) (all : List (List ℕ)) → rows_of rows ≡ all → (node : ℕ) → node < length all → node < length rows
node_within rows all is node h = let size = length-map rows (λ (r : Vec ℕ Global). r.items) in let same = ap length is in omega arith

-- the rows after the row of one node changed, or stayed
pub rows_kept : (rows : List (Vec ℕ Global)) (i : ℕ) (row new : Vec ℕ Global) → i < length rows → row ≡ get_or rows i row → new.items ≡ row.items
    → rows_of (set rows i new) ≡ rows_of rows
rows_kept rows i row new h is same =
    rows_set rows i new ∙ ap (set (rows_of rows) i) (same ∙ sym (rows_at rows i row h is)) ∙ set-get_or (rows_of rows) i []

pub rows_connect : (rows : List (Vec ℕ Global)) (i : ℕ) (row new : Vec ℕ Global) (to : ℕ) → i < length rows → row ≡ get_or rows i row
    → new.items ≡ row.items ++ to ∷ [] → rows_of (set rows i new) ≡ set (rows_of rows) i (row_of (rows_of rows) i ++ to ∷ [])
rows_connect rows i row new to h is more =
    rows_set rows i new ∙ ap (set (rows_of rows) i) (more ∙ ap (λ xs. xs ++ to ∷ []) (sym (rows_at rows i row h is)))

-- one more edge
pub within_connect : (rows : List (List ℕ)) (from to : ℕ) → IsWithin rows → from < length rows → to < length rows
    → IsWithin (set rows from (row_of rows from ++ to ∷ []))
within_connect rows from to w f t =
    let next_row = row_of rows from ++ to ∷ [] in
    let size : length (set rows from next_row) ≡ length rows = length-set rows from next_row in
    record {
      within = λ node next edge. ⊎_elim
          (λ (same : node ≡ from). ⊎_elim
          (λ (old : Contains (row_of rows from) next). let h = w.within from next old in omega arith)
          (λ (new : to ≡ next). omega arith)
          (Contains-push_cases (row_of rows from) to next
          (subst (λ xs. Contains xs next) (ap (λ n. row_of (set rows from next_row) n) same ∙ get_or-set_same rows from next_row [] f) edge)))
          (λ (apart : node ≢ from). let h = w.within node next (subst (λ xs. Contains xs next) (get_or-set_other rows from node next_row [] apart) edge) in omega arith)
          (cases_eq node from);
    }
