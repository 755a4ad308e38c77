-- The rows of a table that instances were counted in are the rows of the promises that these tell of.
use Rattle.std.proofs.Common.{◌≡◌, ℕ, ◌+◌, true, false, List, [], ◌∷◌, Bool, cond, ◌&&◌, ◌||◌, All, Option, Some, None, is_some, count_by, map, refl, sym, ap, ◌∙◌, arith}
use Rattle.std.proofs.lemmas.Bool.{false≢true}
use lib.Dec.{T}
use Rattle.std.proofs.lemmas.Cmp.{tied_itself, then_total, on_total, nat_cmp_total, nat_list_cmp_total}
use Rattle.std.proofs.lemmas.List.Elements.{All-nil, All-cons, All-head, All-tail, All-weaker, All-map}
use Rattle.std.proofs.lemmas.List.Sums.{sum_by-cons}
use Rattle.std.specs.Cmp.{IsTotalOrder}
use Rattle.std.specs.FinMap.{find, is_sorted}
use Rattle.std.specs.FinMap.Entries.{below_all, is_sorted-put, find-put, find_tied}
use Rattle.std.specs.List.{AllByRecursion}
use Rattle.std.specs.List.Sorted.{IsStrictlySortedBy}
use Rattle.std.specs.Ordering.{is_eq, is_lt, ordering_reverse}
use Rattle.std.specs.Prelude.{unwrap_or, sum_by}
use Rattle.std.specs.declared.cmp.Ordering.{Ordering}
use Rattle.std.specs.declared.cmp.Ordering.TheVariants.{Less, Equal, Greater}
use Rattle.cfa_base.specs.declared.places.PromiseId.{PromiseId}
use Rattle.cfa_history.specs.declared.endings.Ending.{Ending}
use Rattle.cfa_history.specs.declared.rows.Counts.{Counts}
use Rattle.cfa_history.specs.declared.rows.Row.{Row}
use Rattle.cfa_history.specs.Ids.{id_cmp, is_same_id, is_listed}
use Rattle.cfa_history.specs.Instances.{Instance, is_repaired, is_failed, is_left_open, changes_of}
use Rattle.cfa_history.specs.Rows.{of_id, last_moment, counts_of, row_with, row_of, ids_of, IsTold, none_counted, one_if, with_instance}
use Rattle.cfa_history.specs.Tables.{Entries, counts_in, tally, tallied, rows_in}

pub id_total : IsTotalOrder id_cmp
id_total = then_total (then_total (on_total (λ (id : PromiseId). id.bundle) nat_list_cmp_total) (on_total (λ (id : PromiseId). id.number) nat_cmp_total)) (on_total (λ (id : PromiseId). id.line) nat_cmp_total)

-- What is found of a promise.

abbrev counted_on : Option Counts → List Instance → Option Counts
counted_on found [] = found
counted_on found (i ∷ rest) = counted_on (Some (with_instance (unwrap_or found none_counted) i.moment i.ending)) rest

tied : (r : Ordering) → is_eq r ≡ true → r ≡ Equal
tied Less e = absurd (false≢true e)
tied Equal e = refl
tied Greater e = absurd (false≢true e)

find_tallied : (q : PromiseId) (es : Entries) (told : List Instance) → find id_cmp q (tallied es told) ≡ counted_on (find id_cmp q es) (of_id q told)
find_tallied q es [] = refl
find_tallied q es (i ∷ rest) =
    let more = tally es i.id i.moment i.ending in
    let put_is : find id_cmp q more ≡ cond (is_same_id q i.id) (Some (with_instance (counts_in i.id es) i.moment i.ending)) (find id_cmp q es) = find-put id_cmp id_total q i.id (with_instance (counts_in i.id es) i.moment i.ending) es in
    find_tallied q more rest
    ∙ ap (λ o. counted_on o (of_id q rest)) put_is
    ∙ by_test (is_same_id q i.id) refl where
      by_test : (b : Bool) → is_same_id q i.id ≡ b →
          counted_on (cond b (Some (with_instance (counts_in i.id es) i.moment i.ending)) (find id_cmp q es)) (of_id q rest) ≡ counted_on (find id_cmp q es) (cond b (i ∷ of_id q rest) (of_id q rest))
      by_test true same = ap (λ found. counted_on (Some (with_instance (unwrap_or found none_counted) i.moment i.ending)) (of_id q rest)) (find_tied id_cmp id_total q i.id (tied (id_cmp q i.id) same) es)
      by_test false other = refl

-- What counting one instance after the other gives.

abbrev plus : Counts → List Instance → Counts
plus c told = record {
  repaired = c.repaired + count_by (λ i. is_repaired i.ending) told;
  changes = c.changes + sum_by (λ i. changes_of i.ending) told;
  failed = c.failed + count_by (λ i. is_failed i.ending) told;
  left_open = c.left_open + count_by (λ i. is_left_open i.ending) told;
  last = last_moment c.last told;
}

same_counts : (l a a' b b' c c' d d' : ℕ) → a ≡ a' → b ≡ b' → c ≡ c' → d ≡ d' → ◌≡◌ {A = Counts} (record { repaired = a; changes = b; failed = c; left_open = d; last = l }) (record { repaired = a'; changes = b'; failed = c'; left_open = d'; last = l })
same_counts l a a' b b' c c' d d' e f g h =
    ap (λ x. record { repaired = x; changes = b; failed = c; left_open = d; last = l }) e
    ∙ ap (λ x. record { repaired = a'; changes = x; failed = c; left_open = d; last = l }) f
    ∙ ap (λ x. record { repaired = a'; changes = b'; failed = x; left_open = d; last = l }) g
    ∙ ap (λ x. record { repaired = a'; changes = b'; failed = c'; left_open = x; last = l }) h

one_counted : (test : Ending → Bool) (n : ℕ) (i : Instance) (rest : List Instance) → n + one_if (test i.ending) + count_by (λ i. test i.ending) rest ≡ n + count_by (λ i. test i.ending) (i ∷ rest)
one_counted test n i rest =
    let more : count_by (λ (i : Instance). test i.ending) (i ∷ rest) ≡ one_if (test i.ending) + count_by (λ (i : Instance). test i.ending) rest = sum_by-cons (λ (i : Instance). one_if (test i.ending)) i rest in
    omega (arith, more)

changes_counted : (n : ℕ) (i : Instance) (rest : List Instance) → n + changes_of i.ending + sum_by (λ i. changes_of i.ending) rest ≡ n + sum_by (λ i. changes_of i.ending) (i ∷ rest)
changes_counted n i rest =
    let more : sum_by (λ (i : Instance). changes_of i.ending) (i ∷ rest) ≡ changes_of i.ending + sum_by (λ (i : Instance). changes_of i.ending) rest = sum_by-cons (λ (i : Instance). changes_of i.ending) i rest in
    omega (arith, more)

plus_one : (c : Counts) (i : Instance) (rest : List Instance) → plus (with_instance c i.moment i.ending) rest ≡ plus c (i ∷ rest)
plus_one c i rest =
    same_counts (last_moment i.moment rest) _ _ _ _ _ _ _ _
    (one_counted is_repaired c.repaired i rest) (changes_counted c.changes i rest) (one_counted is_failed c.failed i rest) (one_counted is_left_open c.left_open i rest)

plus_none : (c : Counts) → c ≡ plus c []
plus_none c = same_counts c.last c.repaired (c.repaired + 0) c.changes (c.changes + 0) c.failed (c.failed + 0) c.left_open (c.left_open + 0) (omega arith) (omega arith) (omega arith) (omega arith)

counted_plus : (c : Counts) (told : List Instance) → counted_on (Some c) told ≡ Some (plus c told)
counted_plus c [] = ap Some (plus_none c)
counted_plus c (i ∷ rest) = counted_plus (with_instance c i.moment i.ending) rest ∙ ap Some (plus_one c i rest)

counts_plus : (told : List Instance) → plus none_counted told ≡ counts_of told
counts_plus told = same_counts (last_moment 0 told) _ _ _ _ _ _ _ _ (omega arith) (omega arith) (omega arith) (omega arith)

counted_of : (told : List Instance) (v : Counts) → Some v ≡ counted_on None told → v ≡ counts_of told
counted_of [] v e = absurd (false≢true (ap is_some (sym e)))
counted_of (i ∷ rest) v e =
    ap (λ o. unwrap_or o v) (e ∙ counted_plus (with_instance none_counted i.moment i.ending) rest ∙ ap Some (plus_one none_counted i rest))
    ∙ counts_plus (i ∷ rest)

-- Tables stay in order.

pub tallied_sorted : (es : Entries) (told : List Instance) → T (is_sorted id_cmp es) → T (is_sorted id_cmp (tallied es told))
tallied_sorted es [] sorted = sorted
tallied_sorted es (i ∷ rest) sorted = tallied_sorted (tally es i.id i.moment i.ending) rest (is_sorted-put id_cmp id_total i.id (with_instance (counts_in i.id es) i.moment i.ending) es sorted)

-- Each entry is what is found of its promise.

pub t_first : (a b : Bool) → T (a && b) → T a
t_first true b h = tt
t_first false b h = absurd h

pub t_second : (a b : Bool) → T (a && b) → T b
t_second true b h = h
t_second false b h = absurd h

pub less : (r : Ordering) → T (is_lt r) → r ≡ Less
less Less h = refl
less Equal h = absurd h
less Greater h = absurd h

abbrev Found : Entries → PromiseId × Counts → Type 0
Found es e = Some e.1 ≡ find id_cmp e.0 es

first_found : (e : PromiseId × Counts) (es : Entries) → Found (e ∷ es) e
first_found e es = sym (ap (λ r. cond (is_eq r) (Some e.1) (find id_cmp e.0 es)) (tied_itself id_total e.0))

skip : (first e : PromiseId × Counts) (es : Entries) → id_cmp first.0 e.0 ≡ Less → Found es e → Found (first ∷ es) e
skip first e es before found = found ∙ sym (ap (λ r. cond (is_eq r) (Some first.1) (find id_cmp e.0 es)) (id_total.antisymm e.0 first.0 ∙ ap ordering_reverse before))

find_later : (first : PromiseId × Counts) (es later : Entries) → T (below_all id_cmp first.0 later) → All (Found es) later → All (Found (first ∷ es)) later
find_later first es [] below all = All-nil (Found (first ∷ es))
find_later first es (e ∷ later) below all =
    All-cons (Found (first ∷ es)) e later (skip first e es (less _ (t_first _ _ below)) (All-head (Found es) e later all)) (find_later first es later (t_second _ _ below) (All-tail (Found es) e later all))

each_found : (es : Entries) → T (is_sorted id_cmp es) → All (Found es) es
each_found [] sorted = All-nil (Found [])
each_found (e ∷ es) sorted = All-cons (Found (e ∷ es)) e es (first_found e es) (find_later e es es (t_first _ _ sorted) (each_found es (t_second _ _ sorted)))

-- The rows of a table.

below_rows : (q : PromiseId) (es : Entries) → T (below_all id_cmp q es) → AllByRecursion (λ y. id_cmp q y ≡ Less) (ids_of (rows_in es))
below_rows q [] below = tt
below_rows q (e ∷ es) below = (less _ (t_first _ _ below), below_rows q es (t_second _ _ below))

sorted_rows : (es : Entries) → T (is_sorted id_cmp es) → IsStrictlySortedBy id_cmp (ids_of (rows_in es))
unfolding IsStrictlySortedBy
sorted_rows [] sorted = tt
sorted_rows (e ∷ es) sorted = (below_rows e.0 es (t_first _ _ sorted), sorted_rows es (t_second _ _ sorted))

listed_rows : (q : PromiseId) (es : Entries) → is_listed q (ids_of (rows_in es)) ≡ is_some (find id_cmp q es)
listed_rows q [] = refl
listed_rows q (e ∷ es) =
    elim (is_same_id q e.0) as (λ b. (b || is_listed q (ids_of (rows_in es))) ≡ is_some (cond b (Some e.1) (find id_cmp q es))) [
      | true ↦ refl
      | false ↦ listed_rows q es
    ]

any_more : (found : Option Counts) (b : Bool) → true ≡ (is_some found || (true || b))
any_more None b = refl
any_more (Some c) b = refl

any_counted : (q : PromiseId) (found : Option Counts) (told : List Instance) → is_some (counted_on found (of_id q told)) ≡ (is_some found || is_listed q (map (λ i. i.id) told))
any_counted q None [] = refl
any_counted q (Some c) [] = refl
any_counted q found (i ∷ rest) =
    elim (is_same_id q i.id) as (λ b. is_some (counted_on found (cond b (i ∷ of_id q rest) (of_id q rest))) ≡ (is_some found || (b || is_listed q (map (λ i. i.id) rest)))) [
      | true ↦ any_counted q (Some (with_instance (unwrap_or found none_counted) i.moment i.ending)) rest ∙ any_more found (is_listed q (map (λ i. i.id) rest))
      | false ↦ any_counted q found rest
    ]

row_counted : (told : List Instance) (e : PromiseId × Counts) → Found (tallied [] told) e → row_with e.0 e.1 ≡ row_of told e.0
row_counted told e found = ap (row_with e.0) (counted_of (of_id e.0 told) e.1 (found ∙ find_tallied e.0 [] told))

pub is_told : (told : List Instance) → IsTold told (rows_in (tallied [] told))
is_told told =
    let sorted = tallied_sorted [] told tt in
    record {
      in_order = sorted_rows (tallied [] told) sorted;
      exactly = λ id. listed_rows id (tallied [] told) ∙ ap is_some (find_tallied id [] told) ∙ any_counted id None told;
      counted = All-map (λ (row : Row). row ≡ row_of told row.id) (λ e. row_with e.0 e.1) (tallied [] told)
          (All-weaker (Found (tallied [] told)) (λ e. row_with e.0 e.1 ≡ row_of told e.0) (row_counted told) (tallied [] told) (each_found (tallied [] told) sorted));
    }
