-- Tables of counts by promises.
use Rattle.std.proofs.Common.{◌≡◌, ℕ, ◌+◌, ◌-◌, ◌≤◌, ◌<◌, ◌^◌, true, false, List, [], ◌∷◌, Bool, cond, All, Some, get_or, length, take, drop, refl, sym, ap, ◌∙◌, arith}
use Rattle.std.proofs.Math.Seq.{take-length}
use Rattle.std.proofs.lemmas.List.{length-drop, drop_more}
use Rattle.std.proofs.lemmas.List.Elements.{All-nil, All-cons, All-head, All-tail, All-weaker}
use Rattle.std.specs.BTreeMap as tree
use Rattle.std.specs.Map.{lookup}
use Rattle.std.specs.FinMap as map
use Rattle.std.specs.FinMap.Entries.{put, by_order}
use Rattle.std.specs.Ordering.{eq_by_cmp, is_eq, match_ordering}
use Rattle.std.specs.Prelude.{unwrap_or}
use Rattle.std.specs.declared.cmp.Ordering.TheVariants.{Less, Equal, Greater}
use Rattle.cfa_base.specs.declared.places.PromiseId.{PromiseId}
use Rattle.cfa_journal.specs.declared.records.Record.{Record}
use Rattle.cfa_history.specs.declared.endings.Ending.{Ending}
use Rattle.cfa_history.specs.declared.rows.Counts.{Counts}
use Rattle.cfa_history.specs.Ids.{id_cmp}
use Rattle.cfa_history.specs.Instances.{instances, is_repaired, is_failed, is_left_open, changes_of}
use Rattle.cfa_history.specs.Rows.{none_counted, one_if, with_instance}
use Rattle.cfa_history.specs.Tables.{Entries, IsWithin, AllWithin, IsRoom, id_at, by_id, counts_in, tally, tallied}

module _ {B X : Type 0} (bytes : B → List ℕ) where
  -- a look-up by a promise
  pub find-by_id : (q : PromiseId) (es : List (((B × ℕ) × ℕ) × X)) → map.find id_cmp q (by_id bytes es) ≡ lookup (λ k. is_eq (id_cmp q (id_at bytes k))) es
  find-by_id q [] = refl
  find-by_id q (e ∷ es) = ap (cond (eq_by_cmp id_cmp q (id_at bytes e.0)) (Some e.1)) (find-by_id q es)

  -- an insertion by a key is one by its promise
  pub by_id-insert_entry : (k : (B × ℕ) × ℕ) (v : X) (es : List (((B × ℕ) × ℕ) × X)) → by_id bytes (tree.insert_entry (λ x y. id_cmp (id_at bytes x) (id_at bytes y)) es k v) ≡ put id_cmp (id_at bytes k) v (by_id bytes es)
  by_id-insert_entry k v [] = refl
  by_id-insert_entry k v (e ∷ es) =
      elim (id_cmp (id_at bytes k) (id_at bytes e.0)) as (λ r. by_id bytes (match_ordering r ((k, v) ∷ e ∷ es) ((e.0, v) ∷ es) (e ∷ tree.insert_entry (λ x y. id_cmp (id_at bytes x) (id_at bytes y)) es k v)) ≡ by_order r ((id_at bytes k, v) ∷ (id_at bytes e.0, e.1) ∷ by_id bytes es) ((id_at bytes e.0, v) ∷ by_id bytes es) ((id_at bytes e.0, e.1) ∷ put id_cmp (id_at bytes k) v (by_id bytes es))) [
        | Less ↦ refl
        | Equal ↦ refl
        | Greater ↦ ap (λ (rest : List (PromiseId × X)). (id_at bytes e.0, e.1) ∷ rest) (by_id-insert_entry k v es)
      ]

-- What holds of all counts of a table.

all_put : (Q : Counts → Type 0) (k : PromiseId) (v : Counts) (es : Entries) → All (λ e. Q e.1) es → Q v → All (λ e. Q e.1) (put id_cmp k v es)
all_put Q k v [] all q = All-cons (λ e. Q e.1) (k, v) [] q (All-nil (λ e. Q e.1))
all_put Q k v (e ∷ es) all q =
    let head = All-head (λ (e : PromiseId × Counts). Q e.1) e es all in
    let tail = All-tail (λ (e : PromiseId × Counts). Q e.1) e es all in
    elim (id_cmp k e.0) as (λ r. All (λ e. Q e.1) (by_order r ((k, v) ∷ e ∷ es) ((e.0, v) ∷ es) (e ∷ put id_cmp k v es))) [
      | Less ↦ All-cons (λ e. Q e.1) (k, v) (e ∷ es) q all
      | Equal ↦ All-cons (λ e. Q e.1) (e.0, v) es q tail
      | Greater ↦ All-cons (λ e. Q e.1) e (put id_cmp k v es) head (all_put Q k v es tail q)
    ]

none_within : (n : ℕ) → IsWithin n none_counted
none_within n = ((omega arith, omega arith), (omega arith, omega arith))

pub found_within : (n : ℕ) (q : PromiseId) (es : Entries) → AllWithin n es → IsWithin n (counts_in q es)
found_within n q [] all = none_within n
found_within n q (e ∷ es) all =
    elim (eq_by_cmp id_cmp q e.0) as (λ b. IsWithin n (unwrap_or (cond b (Some e.1) (map.find id_cmp q es)) none_counted)) [
      | true ↦ All-head (λ (e : PromiseId × Counts). IsWithin n e.1) e es all
      | false ↦ found_within n q es (All-tail (λ (e : PromiseId × Counts). IsWithin n e.1) e es all)
    ]

pub room : (n : ℕ) (counts : Counts) → n < 2 ^ 32 → IsWithin n counts → IsRoom counts
room n counts small within =
    let repaired = within.0.0 in
    let changes = within.0.1 in
    let failed = within.1.0 in
    let opened = within.1.1 in
    ((omega arith, omega arith), (omega arith, omega arith))

pub one_if-small : (b : Bool) → one_if b ≤ 1
one_if-small true = omega arith
one_if-small false = omega arith

with_within : (n : ℕ) (counts : Counts) (moment : ℕ) (ending : Ending) → IsWithin n counts → changes_of ending < 2 ^ 32 → IsWithin (n + 1) (with_instance counts moment ending)
with_within n counts moment ending within small =
    let repaired = within.0.0 in
    let changes = within.0.1 in
    let failed = within.1.0 in
    let opened = within.1.1 in
    let a = one_if-small (is_repaired ending) in
    let b = one_if-small (is_failed ending) in
    let c = one_if-small (is_left_open ending) in
    ((omega arith, omega arith), (omega arith, omega arith))

one_wider : (n : ℕ) (e : PromiseId × Counts) → IsWithin n e.1 → IsWithin (n + 1) e.1
one_wider n e within =
    let repaired = within.0.0 in
    let changes = within.0.1 in
    let failed = within.1.0 in
    let opened = within.1.1 in
    ((omega arith, omega arith), (omega arith, omega arith))

pub wider : (n : ℕ) (es : Entries) → AllWithin n es → AllWithin (n + 1) es
wider n es all = All-weaker (λ e. IsWithin n e.1) (λ e. IsWithin (n + 1) e.1) (one_wider n) es all

pub tally_within : (n : ℕ) (es : Entries) (id : PromiseId) (moment : ℕ) (ending : Ending) → AllWithin n es → changes_of ending < 2 ^ 32 → AllWithin (n + 1) (tally es id moment ending)
tally_within n es id moment ending all small =
    all_put (IsWithin (n + 1)) id (with_instance (counts_in id es) moment ending) es (wider n es all) (with_within n (counts_in id es) moment ending (found_within n id es all) small)

to_the_end : (records : List Record) (i : ℕ) → take (length records - i) (drop i records) ≡ drop i records
to_the_end records i = ap (λ k. take k (drop i records)) (sym (length-drop i records)) ∙ take-length (drop i records)

-- the loop over the records, one on
pub step_on : (records : List Record) (i : ℕ) (item : Record) (es new : Entries) (moment next : ℕ) → i < length records → item ≡ get_or records i item → tallied new (instances next (take (length records - (i + 1)) (drop (i + 1) records))) ≡ tallied es (instances moment (item ∷ take (length records - (i + 1)) (drop (i + 1) records))) → tallied new (instances next (drop (i + 1) records)) ≡ tallied es (instances moment (drop i records))
step_on records i item es new moment next before item_is tells =
    ap (λ rest. tallied new (instances next rest)) (sym (to_the_end records (i + 1)))
    ∙ tells
    ∙ ap (λ rest. tallied es (instances moment (item ∷ rest))) (to_the_end records (i + 1))
    ∙ ap (λ x. tallied es (instances moment (x ∷ drop (i + 1) records))) item_is
    ∙ ap (λ rest. tallied es (instances moment rest)) (sym (drop_more records i item before))
