-- Rows in the order of their texts: those that begin alike stand together.
use Rattle.std.proofs.Common.{◌≡◌, ℕ, ◌+◌, ◌<◌, ◌≤◌, List, [], ◌∷◌, ◌++◌, length, get_or, take, drop, Bool, true, false, cond, eqb, refl, sym, ap, subst, ◌∙◌, arith}
use Rattle.std.proofs.lemmas.Bool.{false≢true, false_from_ne_true}
use Rattle.std.proofs.lemmas.Bool.Decides.{nat_tests}
use Rattle.std.proofs.lemmas.Cmp.{nat_list_cmp_total, is_lt_index, tied_itself}
use Rattle.std.proofs.lemmas.Slice.Eq.{bytes_eq-Decides}
use Rattle.std.proofs.lemmas.List.{take-append-drop, get_or-drop, get_or-take, length-drop, length-take-le, append-nil}
use Rattle.std.proofs.lemmas.List.Elements.{filter-append, All-head, All-tail}
use Rattle.std.proofs.lemmas.List.Sorted.{sorted_far, searchable_from_sorted, ranks_by}
use Rattle.std.specs.Prelude.{nat_eq}
use Rattle.std.specs.List.{All, AllWithin, filter, starts_with}
use Rattle.std.specs.List.Sorted.{IsSorted, IsPartitionedBy, IsPartitionPoint}
use Rattle.std.specs.Ordering.{is_lt, is_gt, is_eq, nat_cmp, ordering_then, ordering_reverse, ordering_index}
use Rattle.std.specs.Str.{bytes_eq}
use Rattle.std.specs.declared.cmp.Ordering.{Ordering}
use Rattle.std.specs.declared.cmp.Ordering.TheVariants.{Less, Equal, Greater}
use denote.Ref.{Bor}
use Rattle.cfa_base.specs.Index.{Text}
use Rattle.cfa_base.specs.TextMaps.{text_cmp}
use Rattle.cfa_base.specs.lemmas.Fronts.{from_front, between}
use Rattle.cfa_base.specs.lemmas.TextMaps.{tied}
use Rattle.cfa_conflict.specs.Targets.{AreSorted, is_row_before, is_near}

-- ---- the order of the rows

lt_back : (o : Ordering) → is_gt (ordering_reverse o) ≡ is_lt o
lt_back Less = refl
lt_back Equal = refl
lt_back Greater = refl

-- not before is not above the other way round
upto : (low high : Text) → is_lt (text_cmp high low) ≡ false → is_gt (text_cmp low high) ≡ false
upto low high le = ap is_gt (nat_list_cmp_total.antisymm low high) ∙ lt_back (text_cmp high low) ∙ le

not_before_front : (front text : Text) → starts_with nat_eq text front ≡ true → is_lt (text_cmp text front) ≡ false
not_before_front front text is =
    sym (lt_back (text_cmp text front)) ∙ sym (ap is_gt (nat_list_cmp_total.antisymm front text)) ∙ from_front front text is

first_then : (o p : Ordering) → is_lt (ordering_then o p) ≡ false → is_lt o ≡ false
first_then Less p le = le
first_then Equal p le = refl
first_then Greater p le = refl

abbrev row_cmp : Bor Text × ℕ → Bor Text × ℕ → Ordering
row_cmp x y = ordering_then (text_cmp x.0.now y.0.now) (nat_cmp x.1 y.1)

-- what a sort leaves
pub AreSorted-from_sort : (rows : List (Bor Text × ℕ)) → IsSorted row_cmp rows → AreSorted rows
AreSorted-from_sort rows up = λ k d low high.
    first_then (text_cmp (get_or rows (k + 1) d).0.now (get_or rows k d).0.now) (nat_cmp (get_or rows (k + 1) d).1 (get_or rows k d).1) (up k d low high)

far : (rows : List (Bor Text × ℕ)) → AreSorted rows → (i j : ℕ) (d : Bor Text × ℕ) → i ≤ j → j < length rows → is_row_before (get_or rows j d) (get_or rows i d) ≡ false
far rows up i j d le lt = sorted_far is_row_before (ranks_by nat_list_cmp_total (λ (row : Bor Text × ℕ). row.0.now)) rows up i j d le lt

-- ---- where a search of them stops

zero_below : (m n : ℕ) → m ≤ n → eqb n 0 ≡ true → eqb m 0 ≡ true
zero_below m n le is = grind (arith, nat_tests)

abbrev pub is_before : Text → Bor Text × ℕ → Bool
is_before key row = is_lt (text_cmp row.0.now key)

pub parted_by_key : (rows : List (Bor Text × ℕ)) (key : Text) → AreSorted rows → IsPartitionedBy (is_before key) rows
parted_by_key rows key up = λ i j d le lt is.
    let rises = searchable_from_sorted nat_list_cmp_total (λ (row : Bor Text × ℕ). row.0.now) rows key up i j d le lt in
    let low = text_cmp (get_or rows i d).0.now key in
    let high = text_cmp (get_or rows j d).0.now key in
    is_lt_index low ∙ zero_below (ordering_index low) (ordering_index high) rises (sym (is_lt_index high) ∙ is)

-- ---- tests of rows that stand together

-- no row before the key passes, and each one between the key and one that passes does
pub record PassesTogether (key : Text) (test : Bor Text × ℕ → Bool) : Type 0 where
  pub none_before : (row : Bor Text × ℕ) → is_before key row ≡ true → test row ≡ false
  pub all_between : (low high : Bor Text × ℕ) → is_gt (text_cmp key low.0.now) ≡ false → is_gt (text_cmp low.0.now high.0.now) ≡ false
      → test high ≡ true → test low ≡ true

those_beginning : (front : Text) → PassesTogether front (λ row. starts_with nat_eq row.0.now front)
those_beginning front = record {
  none_before = λ row early. false_from_ne_true (starts_with nat_eq row.0.now front) (λ is. false≢true (sym (not_before_front front row.0.now is) ∙ early));
  all_between = λ low high above up_to is. between front low.0.now high.0.now above up_to is;
}

neither_way : (o : Ordering) → is_gt o ≡ false → is_lt o ≡ false → is_eq o ≡ true
neither_way Less up down = absurd (false≢true (sym down))
neither_way Equal up down = refl
neither_way Greater up down = absurd (false≢true (sym up))

those_at : (key : Text) → PassesTogether key (λ row. bytes_eq key row.0.now)
those_at key = record {
  none_before = λ row early.
      false_from_ne_true (bytes_eq key row.0.now) (λ is.
      let same : key ≡ row.0.now = (bytes_eq-Decides key row.0.now).0 is in
      false≢true (sym (ap is_lt (tied_itself nat_list_cmp_total key)) ∙ ap (λ t. is_lt (text_cmp t key)) same ∙ early));
  all_between = λ low high above up_to is.
      let same : key ≡ high.0.now = (bytes_eq-Decides key high.0.now).0 is in
      let below : is_gt (text_cmp low.0.now key) ≡ false = ap (λ t. is_gt (text_cmp low.0.now t)) same ∙ up_to in
      let back = sym (lt_back (text_cmp key low.0.now)) ∙ sym (ap is_gt (nat_list_cmp_total.antisymm low.0.now key)) ∙ below in
      (bytes_eq-Decides key low.0.now).1 (tied key low.0.now (neither_way (text_cmp key low.0.now) above back));
}

pub those_near : (key : Text) (beneath : Bool) → PassesTogether key (λ row. is_near key beneath row.0.now)
those_near key true = those_beginning key
those_near key false = those_at key

-- the rows from a place on, none of which is before the key
pub parted_by_test : (rows : List (Bor Text × ℕ)) (key : Text) (test : Bor Text × ℕ → Bool) (start : ℕ) → PassesTogether key test → AreSorted rows
    → AllWithin (λ row. is_before key row ≡ false) rows start (length rows) → IsPartitionedBy test (drop start rows)
parted_by_test rows key test start near up late = λ i j d le lt is.
    let within : start + j < length rows = omega (arith, length-drop start rows) in
    let at : get_or (drop start rows) i d ≡ get_or rows (start + i) d = get_or-drop start rows i d in
    let there : get_or (drop start rows) j d ≡ get_or rows (start + j) d = get_or-drop start rows j d in
    let low = get_or rows (start + i) d in
    let high = get_or rows (start + j) d in
    let found : test high ≡ true = ap test (sym there) ∙ is in
    let above = upto key low.0.now (late (start + i) d (omega arith) (omega arith)) in
    let up_to = upto low.0.now high.0.now (far rows up (start + i) (start + j) d (omega arith) within) in
    ap test at ∙ near.all_between low high above up_to found

-- ---- what a filter keeps of a part

none_kept : {X : Type 0} (test : X → Bool) (xs : List X) → All (λ x. test x ≡ false) xs → filter test xs ≡ []
none_kept test [] none = refl
none_kept test (x ∷ xs) none =
    ap (λ b. cond b (x ∷ filter test xs) (filter test xs)) (All-head (λ x. test x ≡ false) x xs none)
    ∙ none_kept test xs (All-tail (λ x. test x ≡ false) x xs none)

all_kept : {X : Type 0} (test : X → Bool) (xs : List X) → All (λ x. test x ≡ true) xs → filter test xs ≡ xs
all_kept test [] all = refl
all_kept test (x ∷ xs) all =
    ap (λ b. cond b (x ∷ filter test xs) (filter test xs)) (All-head (λ x. test x ≡ true) x xs all)
    ∙ ap (λ l. x ∷ l) (all_kept test xs (All-tail (λ x. test x ≡ true) x xs all))

All-taken : {X : Type 0} (P : X → Type 0) (xs : List X) (n : ℕ) → n ≤ length xs → AllWithin P xs 0 n → All P (take n xs)
All-taken P xs n le within = λ k d lt.
    let below : k < n = omega (arith, length-take-le n xs le) in
    subst P (sym (get_or-take n xs k d below)) (within k d (omega arith) below)

All-dropped : {X : Type 0} (P : X → Type 0) (xs : List X) (n : ℕ) → AllWithin P xs n (length xs) → All P (drop n xs)
All-dropped P xs n within = λ k d lt.
    subst P (sym (get_or-drop n xs k d)) (within (n + k) d (omega arith) (omega (arith, length-drop n xs)))

pub kept_between : {X : Type 0} (test : X → Bool) (xs : List X) (start end : ℕ) → start ≤ length xs → end ≤ length (drop start xs)
    → AllWithin (λ x. test x ≡ false) xs 0 start
    → AllWithin (λ x. test x ≡ true) (drop start xs) 0 end
    → AllWithin (λ x. test x ≡ false) (drop start xs) end (length (drop start xs))
    → take end (drop start xs) ≡ filter test xs
kept_between test xs start end low high front found back =
    let rest = drop start xs in
    let before = none_kept test (take start xs) (All-taken (λ x. test x ≡ false) xs start low front) in
    let here = all_kept test (take end rest) (All-taken (λ x. test x ≡ true) rest end high found) in
    let behind = none_kept test (drop end rest) (All-dropped (λ x. test x ≡ false) rest end back) in
    let split = ap (filter test) (sym (take-append-drop end rest)) ∙ filter-append test (take end rest) (drop end rest)
    ∙ ap (λ l. filter test (take end rest) ++ l) behind ∙ append-nil (filter test (take end rest)) ∙ here in
    sym (ap (filter test) (sym (take-append-drop start xs)) ∙ filter-append test (take start xs) rest
    ∙ ap (λ l. l ++ filter test rest) before ∙ split)

-- what two searches find
pub found_together : (rows rest found : List (Bor Text × ℕ)) (key : Text) (test : Bor Text × ℕ → Bool) (start end : ℕ) → PassesTogether key test → AreSorted rows
    → start ≤ length rows → rest ≡ drop start rows → end ≤ length rest → found ≡ take end rest
    → (IsPartitionedBy (is_before key) rows → IsPartitionPoint (λ row. is_before key row ≡ true) (λ row. is_before key row ≡ false) rows start)
    → (IsPartitionedBy test rest → IsPartitionPoint (λ row. test row ≡ true) (λ row. test row ≡ false) rest end)
    → found ≡ filter test rows
found_together rows rest found key test start end near up low behind high taken first second =
    let point = first (parted_by_key rows key up) in
    let parted = parted_by_test rows key test start near up point.1 in
    let last = second (subst (λ (l : List (Bor Text × ℕ)). IsPartitionedBy test l) (sym behind) parted) in
    let bound : end ≤ length (drop start rows) = subst (λ (l : List (Bor Text × ℕ)). end ≤ length l) behind high in
    let found_here = subst (λ (l : List (Bor Text × ℕ)). AllWithin (λ row. test row ≡ true) l 0 end) behind last.0 in
    let none_behind = subst (λ (l : List (Bor Text × ℕ)). AllWithin (λ row. test row ≡ false) l end (length l)) behind last.1 in
    let none_in_front : AllWithin (λ row. test row ≡ false) rows 0 start = λ k d from to. near.none_before (get_or rows k d) (point.0 k d from to) in
    taken ∙ ap (take end) behind ∙ kept_between test rows start end low bound none_in_front found_here none_behind
