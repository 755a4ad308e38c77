-- Rows one after the other, and the places that are taken from them.
use Rattle.std.proofs.Common.{◌≡◌, ℕ, ◌≤◌, Bool, true, false, ◌||◌, cond, eqb, List, [], ◌∷◌, ◌++◌, length, drop, refl, sym, ap, ◌∙◌}
use Rattle.std.specs.Prelude.{nat_eq}
use Rattle.std.specs.List.{flat_map, list_any, dedup, dedup_from}
use Rattle.std.proofs.lemmas.Bool.{eqb-true}
use Rattle.std.proofs.lemmas.List.{append-nil, drop_all}
use Rattle.cfa_acts.specs.declared.acts.Act.{Act}
use Rattle.cfa_resolve.specs.declared.instances.Instance.{Instance}
use Rattle.cfa_conflict.specs.Targets.{Row, rows_from, sought}

-- ---- the rows of instances

pub rows_done : (instances : List Instance) (i : ℕ) (rows : List Row) → length instances ≤ i
    → rows ++ rows_from (drop i instances) i ≡ rows_from instances 0 → rows ≡ rows_from instances 0
rows_done instances i rows past invariant =
    sym (append-nil rows) ∙ ap (λ (l : List Instance). rows ++ rows_from l i) (sym (drop_all i instances past)) ∙ invariant

-- ---- places that stand twice

or_itself : (a b : Bool) → (a || (a || b)) ≡ (a || b)
or_itself true b = refl
or_itself false b = refl

dedup_finds : (place k : ℕ) (xs : List ℕ) → list_any (nat_eq place) (dedup_from eqb k xs) ≡ (nat_eq place k || list_any (nat_eq place) xs)
dedup_finds place k [] = refl
dedup_finds place k (x ∷ xs) =
    elim (eqb x k) as (λ b. eqb x k ≡ b → list_any (nat_eq place) (cond b (dedup_from eqb k xs) (k ∷ dedup_from eqb x xs)) ≡ (nat_eq place k || (nat_eq place x || list_any (nat_eq place) xs))) [
      | true ↦ λ is.
          let same : x ≡ k = eqb-true x k is in
          dedup_finds place k xs ∙ sym (or_itself (nat_eq place k) (list_any (nat_eq place) xs))
          ∙ ap (λ n. nat_eq place k || (nat_eq place n || list_any (nat_eq place) xs)) (sym same)
      | false ↦ λ is. ap (λ b. nat_eq place k || b) (dedup_finds place x xs)
    ] refl

pub found_once : (places : List ℕ) (place : ℕ) → list_any (nat_eq place) (dedup eqb places) ≡ list_any (nat_eq place) places
found_once [] place = refl
found_once (k ∷ places) place = dedup_finds place k places

-- ---- the places of acts

pub sought_done : (rows : List Row) (acts : List Act) (i : ℕ) (places : List ℕ) → length acts ≤ i
    → places ++ flat_map (sought rows) (drop i acts) ≡ flat_map (sought rows) acts → places ≡ flat_map (sought rows) acts
sought_done rows acts i places past invariant =
    sym (append-nil places) ∙ ap (λ (l : List Act). places ++ flat_map (sought rows) l) (sym (drop_all i acts past)) ∙ invariant
