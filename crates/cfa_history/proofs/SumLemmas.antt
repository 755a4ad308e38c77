-- How many records the rows of a table count together: as many as there are.
use Rattle.std.proofs.Common.{◌≡◌, ℕ, ◌+◌, true, false, ◌==◌, List, [], ◌∷◌, Bool, cond, Some, None, count_by, if◌then◌else◌, refl, sym, ap, ◌∙◌, subst, arith}
use Rattle.std.proofs.lemmas.Bool.{and_parts, false≢true, eqb-true}
use Rattle.std.proofs.lemmas.List.Sums.{sum_by-cons}
use lib.Dec.{T}
use Rattle.std.specs.FinMap.{find, put, is_sorted}
use Rattle.std.specs.FinMap.Entries.{below_all, by_order, is_sorted-put}
use Rattle.std.specs.Ordering.{is_eq}
use Rattle.std.specs.Prelude.{unwrap_or, sum_by}
use Rattle.std.specs.declared.cmp.Ordering.TheVariants.{Less, Equal, Greater}
use Rattle.cfa_base.specs.declared.places.PromiseId.{PromiseId}
use Rattle.cfa_journal.specs.declared.positions.Position.{Position}
use Rattle.cfa_journal.specs.declared.positions.Position.TheVariants.{Start, Between, Within}
use Rattle.cfa_journal.specs.declared.positions.Version.{Version}
use Rattle.cfa_journal.specs.declared.positions.Version.TheVariants.{One, Two}
use Rattle.cfa_journal.specs.declared.records.Digest.{Digest}
use Rattle.cfa_journal.specs.declared.records.Record.{Record}
use Rattle.cfa_journal.specs.declared.records.Record.TheVariants.{Run, Run2, Open, File, Repaired, Failed, Fail}
use Rattle.cfa_journal.specs.Audits as audits
use Rattle.cfa_journal.specs.Journals.{InPlace}
use Rattle.cfa_journal.specs.Positions.{version_of, is_two, is_between, is_within, InPlaceFrom}
use Rattle.cfa_history.specs.declared.endings.Ending.{Ending}
use Rattle.cfa_history.specs.declared.endings.Ending.TheVariants as endings
use Rattle.cfa_history.specs.declared.rows.Counts.{Counts}
use Rattle.cfa_history.specs.declared.rows.Row.{Row}
use Rattle.cfa_history.specs.Ids.{id_cmp}
use Rattle.cfa_history.specs.Instances.{Instance, ending_of, instances, is_repaired, is_failed, is_left_open}
use Rattle.cfa_history.specs.Rows.{row_with, none_counted, one_if, with_instance}
use Rattle.cfa_history.specs.Tables.{Entries, counts_in, tally, tallied, rows_in}
use Rattle.cfa_history.specs.Histories.{IsComplete}
use Rattle.cfa_history.proofs.RowLemmas.{id_total, t_first, t_second, less}

-- What the rows count together.

below_none : (q : PromiseId) (first : PromiseId × Counts) (es : Entries) → id_cmp q first.0 ≡ Less → T (below_all id_cmp first.0 es) → find id_cmp q es ≡ None
below_none q first [] before below = refl
below_none q first (e ∷ es) before below =
    ap (λ r. cond (is_eq r) (Some e.1) (find id_cmp q es)) (id_total.trans q first.0 e.0 before (less _ (t_first _ _ below)))
    ∙ below_none q first es before (t_second _ _ below)

module _ (f : Counts → ℕ) (w : Ending → ℕ) (none : f none_counted ≡ 0) (step : (c : Counts) (moment : ℕ) (ending : Ending) → f (with_instance c moment ending) ≡ f c + w ending) where
  abbrev total : Entries → ℕ
  total es = sum_by (λ e. f e.1) es

  total-cons : (e : PromiseId × Counts) (es : Entries) → total (e ∷ es) ≡ f e.1 + total es
  total-cons e es = sum_by-cons (λ (e : PromiseId × Counts). f e.1) e es

  total_put : (k : PromiseId) (v : Counts) (es : Entries) → T (is_sorted id_cmp es) → total (put id_cmp k v es) + f (counts_in k es) ≡ total es + f v
  total_put k v [] sorted =
      let one = total-cons (k, v) [] in
      omega (arith, one, none)
  total_put k v (e ∷ es) sorted =
      let rest : total (put id_cmp k v es) + f (counts_in k es) ≡ total es + f v = total_put k v es (t_second (below_all id_cmp e.0 es) (is_sorted id_cmp es) sorted) in
      let other : total (e ∷ es) ≡ f e.1 + total es = total-cons e es in
      elim (id_cmp k e.0) as (λ r. id_cmp k e.0 ≡ r → total (by_order r ((k, v) ∷ e ∷ es) ((e.0, v) ∷ es) (e ∷ put id_cmp k v es)) + f (unwrap_or (cond (is_eq r) (Some e.1) (find id_cmp k es)) none_counted) ≡ total (e ∷ es) + f v) [
        | Less ↦ λ before.
            let gone : f (unwrap_or (find id_cmp k es) none_counted) ≡ 0 = ap (λ o. f (unwrap_or o none_counted)) (below_none k e es before (t_first _ _ sorted)) ∙ none in
            let one = total-cons (k, v) (e ∷ es) in
            omega (arith, gone, one)
        | Equal ↦ λ _.
            let one = total-cons (e.0, v) es in
            omega (arith, one, other)
        | Greater ↦ λ _.
            let one = total-cons e (put id_cmp k v es) in
            omega (arith, one, other, rest)
      ] refl

  total_tallied : (es : Entries) (told : List Instance) → T (is_sorted id_cmp es) → total (tallied es told) ≡ total es + sum_by (λ i. w i.ending) told
  total_tallied es [] sorted = omega arith
  total_tallied es (i ∷ rest) sorted =
      let v = with_instance (counts_in i.id es) i.moment i.ending in
      let put_is = total_put i.id v es sorted in
      let stepped = step (counts_in i.id es) i.moment i.ending in
      let more = total_tallied (tally es i.id i.moment i.ending) rest (is_sorted-put id_cmp id_total i.id v es sorted) in
      let one = sum_by-cons (λ (i : Instance). w i.ending) i rest in
      omega (arith, put_is, stepped, more, one)

  total_rows : (g : Row → ℕ) → ((id : PromiseId) (c : Counts) → g (row_with id c) ≡ f c) → (es : Entries) → sum_by g (rows_in es) ≡ total es
  total_rows g same [] = refl
  total_rows g same (e ∷ es) =
      let a = sum_by-cons g (row_with e.0 e.1) (rows_in es) in
      let b = total-cons e es in
      let first = same e.0 e.1 in
      let rest = total_rows g same es in
      omega (arith, a, b, first, rest)

  summed : (g : Row → ℕ) → ((id : PromiseId) (c : Counts) → g (row_with id c) ≡ f c) → (told : List Instance) → sum_by g (rows_in (tallied [] told)) ≡ sum_by (λ i. w i.ending) told
  summed g same told =
      let all = total_tallied [] told tt in
      let rows = total_rows g same (tallied [] told) in
      omega (arith, all, rows)

-- What the records tell.

-- the end that is still to come of the instance in which a position is
abbrev pending : (Ending → Bool) → Position → List Record → ℕ
pending test Start records = 0
pending test (Between version) records = 0
pending test (Within version n) records = one_if (test (ending_of records))

none_between : (test : Ending → Bool) (p : Position) (records : List Record) → is_between p ≡ true → pending test p records ≡ 0
none_between test Start records e = absurd (false≢true e)
none_between test (Between version) records e = refl
none_between test (Within version n) records e = absurd (false≢true e)

one_within : (test : Ending → Bool) (n : ℕ) (p : Position) (records : List Record) → is_within n p ≡ true → pending test p records ≡ one_if (test (ending_of records))
one_within test n Start records e = absurd (false≢true e)
one_within test n (Between version) records e = absurd (false≢true e)
one_within test n (Within version m) records e = refl

none_ended : (test : Ending → Bool) (p : Position) (records : List Record) → test (ending_of records) ≡ false → pending test p records ≡ 0
none_ended test Start records e = refl
none_ended test (Between version) records e = refl
none_ended test (Within version n) records e = ap one_if e

-- a test of records that asks how an instance ended
record Asks (of_record : Record → Bool) (of_ending : Ending → Bool) : Type 0 where
  run : (moment : ℕ) → of_record (Run moment) ≡ false
  run2 : (moment : ℕ) → of_record (Run2 moment) ≡ false
  open_ : (n : ℕ) (id : PromiseId) (key : List ℕ) → of_record (Open n id key) ≡ false
  file : (n : ℕ) (path : List ℕ) (before after : Digest) → of_record (File n path before after) ≡ false
  repaired : (n changes : ℕ) → of_record (Repaired n changes) ≡ of_ending (endings.Repaired changes)
  failed : (n reason : ℕ) → of_record (Failed n reason) ≡ of_ending endings.Failed
  fail : (n : ℕ) (id : PromiseId) (key : List ℕ) (reason : ℕ) → of_record (Fail n id key reason) ≡ of_ending endings.Failed
  left : of_ending endings.LeftOpen ≡ false

module _ (of_record : Record → Bool) (of_ending : Ending → Bool) (asks : Asks of_record of_ending) where
  abbrev ended : ℕ → List Record → ℕ
  ended moment records = sum_by (λ i. one_if (of_ending i.ending)) (instances moment records)

  count-cons : (r : Record) (rest : List Record) → count_by of_record (r ∷ rest) ≡ one_if (of_record r) + count_by of_record rest
  count-cons r rest = sum_by-cons (λ (r : Record). one_if (of_record r)) r rest

  ended-cons : (i : Instance) (rest : List Instance) → sum_by (λ i. one_if (of_ending i.ending)) (i ∷ rest) ≡ one_if (of_ending i.ending) + sum_by (λ i. one_if (of_ending i.ending)) rest
  ended-cons i rest = sum_by-cons (λ (i : Instance). one_if (of_ending i.ending)) i rest

  told_by_records : (moment : ℕ) (p : Position) (records : List Record) → InPlaceFrom p records → count_by of_record records ≡ ended moment records + pending of_ending p records
  told_by_records moment p [] place =
      let none = none_ended of_ending p [] asks.left in
      omega (arith, none)
  told_by_records moment p (Run next ∷ rest) place =
      let count = count-cons (Run next) rest in
      let other : one_if (of_record (Run next)) ≡ 0 = ap one_if (asks.run next) in
      let more = told_by_records next (Between One) rest place.1 in
      let none = none_ended of_ending p (Run next ∷ rest) asks.left in
      omega (arith, count, other, more, none)
  told_by_records moment p (Run2 next ∷ rest) place =
      let count = count-cons (Run2 next) rest in
      let other : one_if (of_record (Run2 next)) ≡ 0 = ap one_if (asks.run2 next) in
      let more = told_by_records next (Between Two) rest place.1 in
      let none = none_ended of_ending p (Run2 next ∷ rest) asks.left in
      omega (arith, count, other, more, none)
  told_by_records moment p (Open n id key ∷ rest) place =
      let count = count-cons (Open n id key) rest in
      let other : one_if (of_record (Open n id key)) ≡ 0 = ap one_if (asks.open_ n id key) in
      let more = told_by_records moment (Within (version_of p) n) rest place.1 in
      let none = none_between of_ending p (Open n id key ∷ rest) place.0.1 in
      let one = ended-cons (record { id = id; moment = moment; ending = ending_of rest }) (instances moment rest) in
      omega (arith, count, other, more, none, one)
  told_by_records moment p (File n path before after ∷ rest) place =
      let count = count-cons (File n path before after) rest in
      let other : one_if (of_record (File n path before after)) ≡ 0 = ap one_if (asks.file n path before after) in
      let more = told_by_records moment (Within (version_of p) n) rest place.1 in
      let same = one_within of_ending n p (File n path before after ∷ rest) (and_parts (is_two (version_of p)) (is_within n p) place.0.1).1 in
      omega (arith, count, other, more, same)
  told_by_records moment p (Repaired n changes ∷ rest) place =
      let count = count-cons (Repaired n changes) rest in
      let one : one_if (of_record (Repaired n changes)) ≡ one_if (of_ending (endings.Repaired changes)) = ap one_if (asks.repaired n changes) in
      let more = told_by_records moment (Between (version_of p)) rest place.1 in
      let same = one_within of_ending n p (Repaired n changes ∷ rest) place.0.1 in
      omega (arith, count, one, more, same)
  told_by_records moment p (Failed n reason ∷ rest) place =
      let count = count-cons (Failed n reason) rest in
      let one : one_if (of_record (Failed n reason)) ≡ one_if (of_ending endings.Failed) = ap one_if (asks.failed n reason) in
      let more = told_by_records moment (Between (version_of p)) rest place.1 in
      let same = one_within of_ending n p (Failed n reason ∷ rest) place.0.1 in
      omega (arith, count, one, more, same)
  told_by_records moment p (Fail n id key reason ∷ rest) place =
      let count = count-cons (Fail n id key reason) rest in
      let one : one_if (of_record (Fail n id key reason)) ≡ one_if (of_ending endings.Failed) = ap one_if (asks.fail n id key reason) in
      let more = told_by_records moment (Between (version_of p)) rest place.1 in
      let none = none_between of_ending p (Fail n id key reason ∷ rest) place.0.1 in
      let first = ended-cons (record { id = id; moment = moment; ending = endings.Failed }) (instances moment rest) in
      omega (arith, count, one, more, none, first)

  all_told : (records : List Record) → InPlace records → ended 0 records ≡ count_by of_record records
  all_told records place =
      let all = told_by_records 0 Start records place in
      omega (arith, all)

asks_repaired : Asks audits.is_repaired is_repaired
asks_repaired = record {
  run = λ moment. refl;
  run2 = λ moment. refl;
  open_ = λ n id key. refl;
  file = λ n path before after. refl;
  repaired = λ n changes. refl;
  failed = λ n reason. refl;
  fail = λ n id key reason. refl;
  left = refl;
}

asks_failed : Asks audits.is_failed is_failed
asks_failed = record {
  run = λ moment. refl;
  run2 = λ moment. refl;
  open_ = λ n id key. refl;
  file = λ n path before after. refl;
  repaired = λ n changes. refl;
  failed = λ n reason. refl;
  fail = λ n id key reason. refl;
  left = refl;
}

-- What was left open.

abbrev if_not : Bool → ℕ
if_not b = if b then 0 else 1

done_here : (version : Version) (n : ℕ) (rest : List Record) → InPlaceFrom (Within version n) rest → one_if (is_left_open (ending_of rest)) ≡ if_not (audits.is_done n (audits.past_files rest))
done_here version n [] place = refl
done_here version n (Run moment ∷ rest) place = refl
done_here version n (Run2 moment ∷ rest) place = refl
done_here version n (Open m id key ∷ rest) place = refl
done_here version n (File m path before after ∷ rest) place =
    let same : n ≡ m = eqb-true n m (and_parts (is_two version) (n == m) place.0.1).1 in
    subst (λ k. one_if (is_left_open (ending_of rest)) ≡ if_not (audits.is_done k (audits.past_files rest))) (sym same) (done_here version m rest place.1)
done_here version n (Repaired m changes ∷ rest) place = ap if_not (sym place.0.1)
done_here version n (Failed m reason ∷ rest) place = ap if_not (sym place.0.1)
done_here version n (Fail m id key reason ∷ rest) place = refl

abbrev left : ℕ → List Record → ℕ
left moment records = sum_by (λ i. one_if (is_left_open i.ending)) (instances moment records)

left-cons : (i : Instance) (rest : List Instance) → sum_by (λ i. one_if (is_left_open i.ending)) (i ∷ rest) ≡ one_if (is_left_open i.ending) + sum_by (λ i. one_if (is_left_open i.ending)) rest
left-cons i rest = sum_by-cons (λ (i : Instance). one_if (is_left_open i.ending)) i rest

all_left : (moment : ℕ) (p : Position) (records : List Record) → InPlaceFrom p records → left moment records ≡ audits.left_open records
all_left moment p [] place = refl
all_left moment p (Run next ∷ rest) place = all_left next (Between One) rest place.1
all_left moment p (Run2 next ∷ rest) place = all_left next (Between Two) rest place.1
all_left moment p (Open n id key ∷ rest) place =
    let first = left-cons (record { id = id; moment = moment; ending = ending_of rest }) (instances moment rest) in
    let here = done_here (version_of p) n rest place.1 in
    let more = all_left moment (Within (version_of p) n) rest place.1 in
    omega (arith, first, here, more)
all_left moment p (File n path before after ∷ rest) place = all_left moment (Within (version_of p) n) rest place.1
all_left moment p (Repaired n changes ∷ rest) place = all_left moment (Between (version_of p)) rest place.1
all_left moment p (Failed n reason ∷ rest) place = all_left moment (Between (version_of p)) rest place.1
all_left moment p (Fail n id key reason ∷ rest) place =
    let first = left-cons (record { id = id; moment = moment; ending = endings.Failed }) (instances moment rest) in
    let more = all_left moment (Between (version_of p)) rest place.1 in
    omega (arith, first, more)

pub is_complete : (records : List Record) → InPlace records → IsComplete records (rows_in (tallied [] (instances 0 records)))
is_complete records place = record {
  repaired =
      summed (λ c. c.repaired) (λ ending. one_if (is_repaired ending)) refl (λ c moment ending. refl) (λ row. row.repaired) (λ id c. refl) (instances 0 records)
      ∙ all_told audits.is_repaired is_repaired asks_repaired records place;
  failed =
      summed (λ c. c.failed) (λ ending. one_if (is_failed ending)) refl (λ c moment ending. refl) (λ row. row.failed) (λ id c. refl) (instances 0 records)
      ∙ all_told audits.is_failed is_failed asks_failed records place;
  opened =
      summed (λ c. c.left_open) (λ ending. one_if (is_left_open ending)) refl (λ c moment ending. refl) (λ row. row.left_open) (λ id c. refl) (instances 0 records)
      ∙ all_left 0 Start records place;
}
