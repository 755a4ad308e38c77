-- Changed rows that are read again over what they were read over change nothing.
use Rattle.std.proofs.Common.{◌≡◌, ℕ, List, [], ◌∷◌, true, false, cond, Some, None, refl, sym, ap, subst, ◌∙◌, ⊎_elim, inl, inr}
use Rattle.std.specs.Prelude.{◌⊎◌, nat_le}
use Rattle.std.specs.FinMap as map
use Rattle.std.specs.Cmp.Lexicographic.{nat_list_cmp_total}
use Rattle.std.specs.Ordering.{eq_by_cmp}
use Rattle.cfa_base.specs.TextMaps.{text_cmp, TextMap}
use Rattle.cfa_base.specs.lemmas.TextMaps.{same_texts}
use Rattle.cfa_outside.specs.declared.worlds.Perms.{Perms}
use Rattle.cfa_outside.specs.declared.worlds.ServiceRow.{ServiceRow}
use Rattle.cfa_tables.specs.declared.row_changes.RowChange.{RowChange}
use Rattle.cfa_tables.specs.declared.row_changes.RowChange.TheVariants.{Permissions, Gone, Service, Lock, LockBehind}
use Rattle.cfa_tables.specs.ReadOver.{HostRows, counts_at, with_change, read_over, ArePartlyWritten}

-- at a key, a change of a map tells what stands there from then on, or leaves what stood there
abbrev TellsAt : {X : Type 0} → (TextMap X → TextMap X) → List ℕ → Type 0
TellsAt {X} change q =
    ((m n : TextMap X) → map.get (change m) q ≡ map.get (change n) q)
    ⊎ ((m : TextMap X) → map.get (change m) q ≡ map.get m q)

put-tells : {X : Type 0} (k : List ℕ) (v : X) (q : List ℕ) → TellsAt (λ (m : TextMap X). map.insert m k v) q
put-tells {X} k v q =
    elim (eq_by_cmp text_cmp q k) as (λ b. eq_by_cmp text_cmp q k ≡ b → TellsAt (λ (m : TextMap X). map.insert m k v) q) [
      | true ↦ λ tie.
          let here = λ (m : TextMap X). map.get-insert nat_list_cmp_total m k v q ∙ ap (λ b. cond b (Some v) (map.get m q)) tie in
          inl (λ m n. here m ∙ sym (here n))
      | false ↦ λ apart. inr (λ m. map.get-insert nat_list_cmp_total m k v q ∙ ap (λ b. cond b (Some v) (map.get m q)) apart)
    ] refl

gone-tells : {X : Type 0} (k q : List ℕ) → TellsAt (λ (m : TextMap X). map.remove m k) q
gone-tells {X} k q =
    elim (eq_by_cmp text_cmp q k) as (λ b. eq_by_cmp text_cmp q k ≡ b → TellsAt (λ (m : TextMap X). map.remove m k) q) [
      | true ↦ λ tie.
          let here = λ (m : TextMap X). map.get-remove nat_list_cmp_total m k q ∙ ap (λ b. cond b None (map.get m q)) tie in
          inl (λ m n. here m ∙ sym (here n))
      | false ↦ λ apart. inr (λ m. map.get-remove nat_list_cmp_total m k q ∙ ap (λ b. cond b None (map.get m q)) apart)
    ] refl

nothing-tells : {X : Type 0} (q : List ℕ) → TellsAt (λ (m : TextMap X). m) q
nothing-tells q = inr (λ m. refl)

-- one change behind another
both-tell : {X : Type 0} (first then : TextMap X → TextMap X) (q : List ℕ) → TellsAt first q → TellsAt then q → TellsAt (λ m. then (first m)) q
both-tell {X} first then q tells (inl const) = inl (λ m n. const (first m) (first n))
both-tell {X} first then q (inl const) (inr same) = inl (λ m n. same (first m) ∙ const m n ∙ sym (same (first n)))
both-tell {X} first then q (inr same') (inr same) = inr (λ m. same (first m) ∙ same' m)

module _ {X : Type 0} (change_by : RowChange → TextMap X → TextMap X) where
  abbrev over : List RowChange → TextMap X → TextMap X
  over [] m = m
  over (change ∷ changes) m = over changes (change_by change m)

  over-tells : ((change : RowChange) (q : List ℕ) → TellsAt (change_by change) q) → (changes : List RowChange) (q : List ℕ) → TellsAt (over changes) q
  over-tells tells [] q = nothing-tells q
  over-tells tells (change ∷ changes) q = both-tell (change_by change) (over changes) q (tells change q) (over-tells tells changes q)

  over-again : ((change : RowChange) (q : List ℕ) → TellsAt (change_by change) q) → (changes : List RowChange) (m : TextMap X) → over changes (over changes m) ≡ over changes m
  over-again tells changes m = map.same_map nat_list_cmp_total same_texts _ _ (λ q.
      ⊎_elim
      (λ const. const (over changes m) m)
      (λ same. same (over changes m))
      (over-tells tells changes q))

  -- a table that has the changed rows, or doesn't
  over-partly : ((change : RowChange) (q : List ℕ) → TellsAt (change_by change) q) → (changes : List RowChange) (before now : TextMap X) → (now ≡ before) ⊎ (now ≡ over changes before) → over changes now ≡ over changes before
  over-partly tells changes before now (inl same) = ap (over changes) same
  over-partly tells changes before now (inr written) = ap (over changes) written ∙ over-again tells changes before

abbrev perms_by : RowChange → TextMap Perms → TextMap Perms
perms_by (Permissions path perms) m = map.insert m path perms
perms_by (Gone path) m = map.remove m path
perms_by (Service name row) m = m
perms_by (Lock key moment) m = m
perms_by (LockBehind length key moment) m = m

abbrev services_by : RowChange → TextMap ServiceRow → TextMap ServiceRow
services_by (Permissions path perms) m = m
services_by (Gone path) m = m
services_by (Service name row) m = map.insert m name row
services_by (Lock key moment) m = m
services_by (LockBehind length key moment) m = m

abbrev locks_by : RowChange → TextMap ℕ → TextMap ℕ
locks_by (Permissions path perms) m = m
locks_by (Gone path) m = m
locks_by (Service name row) m = m
locks_by (Lock key moment) m = map.insert m key moment
locks_by (LockBehind length key moment) m = map.insert m key moment

perms-tell : (change : RowChange) (q : List ℕ) → TellsAt (perms_by change) q
perms-tell (Permissions path perms) q = put-tells path perms q
perms-tell (Gone path) q = gone-tells path q
perms-tell (Service name row) q = nothing-tells q
perms-tell (Lock key moment) q = nothing-tells q
perms-tell (LockBehind length key moment) q = nothing-tells q

services-tell : (change : RowChange) (q : List ℕ) → TellsAt (services_by change) q
services-tell (Permissions path perms) q = nothing-tells q
services-tell (Gone path) q = nothing-tells q
services-tell (Service name row) q = put-tells name row q
services-tell (Lock key moment) q = nothing-tells q
services-tell (LockBehind length key moment) q = nothing-tells q

locks-tell : (change : RowChange) (q : List ℕ) → TellsAt (locks_by change) q
locks-tell (Permissions path perms) q = nothing-tells q
locks-tell (Gone path) q = nothing-tells q
locks-tell (Service name row) q = nothing-tells q
locks-tell (Lock key moment) q = put-tells key moment q
locks-tell (LockBehind length key moment) q = put-tells key moment q

-- a change that counts, or none
abbrev if_counts : {X : Type 0} → ℕ → (RowChange → TextMap X → TextMap X) → RowChange → TextMap X → TextMap X
if_counts journal change_by change m = cond (counts_at journal change) (change_by change m) m

if_counts-tells : {X : Type 0} (journal : ℕ) (change_by : RowChange → TextMap X → TextMap X) → ((change : RowChange) (q : List ℕ) → TellsAt (change_by change) q) → (change : RowChange) (q : List ℕ) → TellsAt (if_counts journal change_by change) q
if_counts-tells {X} journal change_by tells change q =
    elim (counts_at journal change) as (λ b. TellsAt (λ (m : TextMap X). cond b (change_by change m) m) q) [
      | true ↦ tells change q
      | false ↦ nothing-tells q
    ]

module _ (journal : ℕ) where
  -- each table has the changed rows of its own
  abbrev by_tables : RowChange → HostRows → HostRows
  by_tables change rows = record { perms = if_counts journal perms_by change rows.perms; services = if_counts journal services_by change rows.services; locks = if_counts journal locks_by change rows.locks }

  by_tables-is : (change : RowChange) (rows : HostRows) → cond (counts_at journal change) (with_change change rows) rows ≡ by_tables change rows
  by_tables-is (Permissions path perms) rows = refl
  by_tables-is (Gone path) rows = refl
  by_tables-is (Service name row) rows = refl
  by_tables-is (Lock key moment) rows = refl
  by_tables-is (LockBehind length key moment) rows =
      elim (nat_le length journal) as (λ b. cond b (with_change (LockBehind length key moment) rows) rows
      ≡ record { perms = cond b rows.perms rows.perms; services = cond b rows.services rows.services; locks = cond b (map.insert rows.locks key moment) rows.locks }) [
        | true ↦ refl
        | false ↦ refl
      ]

  abbrev over_tables : List RowChange → HostRows → HostRows
  over_tables changes rows = record { perms = over (if_counts journal perms_by) changes rows.perms; services = over (if_counts journal services_by) changes rows.services; locks = over (if_counts journal locks_by) changes rows.locks }

  over_tables-is : (changes : List RowChange) (rows : HostRows) → read_over journal changes rows ≡ over_tables changes rows
  over_tables-is [] rows = refl
  over_tables-is (change ∷ changes) rows = ap (read_over journal changes) (by_tables-is change rows) ∙ over_tables-is changes (by_tables change rows)

same_rows : (p p' : TextMap Perms) (s s' : TextMap ServiceRow) (l l' : TextMap ℕ) → p ≡ p' → s ≡ s' → l ≡ l' → ◌≡◌ {A = HostRows} (record { perms = p; services = s; locks = l }) (record { perms = p'; services = s'; locks = l' })
same_rows p p' s s' l l' e f g = λ i. record { perms = e i; services = f i; locks = g i }

pub read_again : (journal : ℕ) (changes : List RowChange) (before now : HostRows) → ArePartlyWritten journal changes before now → read_over journal changes now ≡ read_over journal changes before
read_again journal changes before now partly =
    let whole = over_tables-is journal changes before in
    let perms = over-partly (if_counts journal perms_by) (if_counts-tells journal perms_by perms-tell) changes before.perms now.perms (subst (λ (rows : HostRows). (now.perms ≡ before.perms) ⊎ (now.perms ≡ rows.perms)) whole partly.perms) in
    let services = over-partly (if_counts journal services_by) (if_counts-tells journal services_by services-tell) changes before.services now.services (subst (λ (rows : HostRows). (now.services ≡ before.services) ⊎ (now.services ≡ rows.services)) whole partly.services) in
    let locks = over-partly (if_counts journal locks_by) (if_counts-tells journal locks_by locks-tell) changes before.locks now.locks (subst (λ (rows : HostRows). (now.locks ≡ before.locks) ⊎ (now.locks ≡ rows.locks)) whole partly.locks) in
    over_tables-is journal changes now ∙ same_rows _ _ _ _ _ _ perms services locks ∙ sym whole
