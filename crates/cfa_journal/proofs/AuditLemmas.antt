-- Counting the records of a run, one after the other.
use Rattle.std.proofs.Common.{◌≡◌, ℕ, ◌+◌, ◌-◌, ◌≤◌, ◌<◌, true, false, Bool, List, [], ◌∷◌, count_by, get_or, length, take, drop, if◌then◌else◌, refl, sym, ap, ◌∙◌, arith}
use Rattle.std.proofs.Math.Seq.{take-length}
use Rattle.std.proofs.lemmas.List.{length-drop, drop_more}
use Rattle.std.proofs.lemmas.List.Sums.{sum_by-cons}
use Rattle.cfa_journal.specs.declared.records.Record.{Record}
use Rattle.cfa_journal.specs.declared.records.Record.TheVariants.{Run, Run2, Open, File, Repaired, Failed, Fail}
use Rattle.cfa_journal.specs.declared.storing.RecordRef.{RecordRef}
use Rattle.cfa_journal.specs.declared.storing.RecordRef.TheVariants as refs
use Rattle.cfa_journal.specs.declared.audits.AuditedRun.{AuditedRun}
use Rattle.cfa_journal.specs.Stored.{record_of}
use Rattle.cfa_journal.specs.Audits.{up_to_run, is_repaired, is_failed, is_done, past_files, left_open, counted}

-- what is counted so far, and what is counted of the rest
abbrev pub with_rest : AuditedRun → List Record → AuditedRun
with_rest run rest = record {
  moment = run.moment;
  repaired = run.repaired + count_by is_repaired (up_to_run rest);
  failed = run.failed + count_by is_failed (up_to_run rest);
  opened = run.opened + left_open (up_to_run rest);
}

-- a `run` is no `done`
done_up_to_run : (n : ℕ) (rest : List Record) → is_done n (past_files (up_to_run rest)) ≡ is_done n (past_files rest)
done_up_to_run n [] = refl
done_up_to_run n (Run moment ∷ rest) = refl
done_up_to_run n (Run2 moment ∷ rest) = refl
done_up_to_run n (Open m id key ∷ rest) = refl
done_up_to_run n (File m path before after ∷ rest) = done_up_to_run n rest
done_up_to_run n (Repaired m changes ∷ rest) = refl
done_up_to_run n (Failed m reason ∷ rest) = refl
done_up_to_run n (Fail m id key reason ∷ rest) = refl

abbrev opens : Bool → ℕ
opens done = if done then 0 else 1

same_counts : (moment : ℕ) (a a' b b' c c' : ℕ) → a ≡ a' → b ≡ b' → c ≡ c' → ◌≡◌ {A = AuditedRun} (record { moment = moment; repaired = a; failed = b; opened = c }) (record { moment = moment; repaired = a'; failed = b'; opened = c' })
same_counts moment a a' b b' c c' e f g =
    ap (λ x. record { moment = moment; repaired = x; failed = b; opened = c }) e
    ∙ ap (λ x. record { moment = moment; repaired = a'; failed = x; opened = c }) f
    ∙ ap (λ x. record { moment = moment; repaired = a'; failed = b'; opened = x }) g

open_counted : (run : AuditedRun) (done : Bool) → (if done then run else record run { opened = run.opened + 1 }) ≡ record run { opened = run.opened + opens done }
open_counted run true = same_counts run.moment run.repaired run.repaired run.failed run.failed run.opened (run.opened + 0) refl refl (omega arith)
open_counted run false = refl

-- one record more of a run
pub record OneMore (run : AuditedRun) (item : Record) (rest : List Record) : Type 0 where
  pub repaired : (counted run item (past_files rest)).repaired ≤ run.repaired + 1
  pub failed : (counted run item (past_files rest)).failed ≤ run.failed + 1
  pub opened : (counted run item (past_files rest)).opened ≤ run.opened + 1
  pub so_far : with_rest (counted run item (past_files rest)) rest ≡ with_rest run (item ∷ rest)

opens_small : (done : Bool) → opens done ≤ 1
opens_small true = omega arith
opens_small false = omega arith

abbrev weight : Bool → ℕ
weight counts = if counts then 1 else 0

-- one more that is counted
one_yes : (test : Record → Bool) (item : Record) (rest : List Record) (n : ℕ) → test item ≡ true → n + 1 + count_by test rest ≡ n + count_by test (item ∷ rest)
one_yes test item rest n counts =
    let first : weight (test item) ≡ 1 = ap weight counts in
    let more : count_by test (item ∷ rest) ≡ weight (test item) + count_by test rest = sum_by-cons (λ r. weight (test r)) item rest in
    omega (arith, first, more)

module _ (run : AuditedRun) (rest : List Record) where
  pub one_more : (item : Record) → ((moment : ℕ) → item ≡ Run moment → ⊥) → ((moment : ℕ) → item ≡ Run2 moment → ⊥) → OneMore run item rest
  one_more (Run moment) not_run not_run2 = absurd (not_run moment refl)
  one_more (Run2 moment) not_run not_run2 = absurd (not_run2 moment refl)
  one_more (Open n id key) not_run not_run2 =
      let done = is_done n (past_files rest) in
      let more : AuditedRun = record run { opened = run.opened + opens done } in
      let counts : counted run (Open n id key) (past_files rest) ≡ more = open_counted run done in
      let small : opens done ≤ 1 = opens_small done in
      let done' = is_done n (past_files (up_to_run rest)) in
      let same : opens done' ≡ opens done = ap opens (done_up_to_run n rest) in
      let c : run.opened + opens done + left_open (up_to_run rest) ≡ run.opened + (opens done' + left_open (up_to_run rest)) = omega arith in
      record {
        repaired = rw counts (omega arith);
        failed = rw counts (omega arith);
        opened = rw counts (omega arith);
        so_far = ap (λ r. with_rest r rest) counts ∙ same_counts run.moment _ _ _ _ _ _ refl refl c;
      }
  one_more (File n path before after) not_run not_run2 = record { repaired = omega arith; failed = omega arith; opened = omega arith; so_far = refl }
  one_more (Repaired n changes) not_run not_run2 = record {
    repaired = omega arith;
    failed = omega arith;
    opened = omega arith;
    so_far = same_counts run.moment _ _ _ _ _ _ (one_yes is_repaired (Repaired n changes) (up_to_run rest) run.repaired refl) refl refl;
  }
  one_more (Failed n reason) not_run not_run2 = record {
    repaired = omega arith;
    failed = omega arith;
    opened = omega arith;
    so_far = same_counts run.moment _ _ _ _ _ _ refl (one_yes is_failed (Failed n reason) (up_to_run rest) run.failed refl) refl;
  }
  one_more (Fail n id key reason) not_run not_run2 = record {
    repaired = omega arith;
    failed = omega arith;
    opened = omega arith;
    so_far = same_counts run.moment _ _ _ _ _ _ refl (one_yes is_failed (Fail n id key reason) (up_to_run rest) run.failed refl) refl;
  }

-- a record with its parts borrowed is a `run` where the record is one
pub no_run : (r : RecordRef) → ((moment : ℕ) → r ≡ refs.Run moment → ⊥) → (moment : ℕ) → record_of r ≡ Run moment → ⊥
no_run (refs.Run moment) other moment' is = other moment refl
no_run (refs.Run2 moment) other moment' is = cc
no_run (refs.Open n id key) other moment' is = cc
no_run (refs.File n path before after) other moment' is = cc
no_run (refs.Repaired n changes) other moment' is = cc
no_run (refs.Failed n reason) other moment' is = cc
no_run (refs.Fail n id key reason) other moment' is = cc

pub no_run2 : (r : RecordRef) → ((moment : ℕ) → r ≡ refs.Run2 moment → ⊥) → (moment : ℕ) → record_of r ≡ Run2 moment → ⊥
no_run2 (refs.Run moment) other moment' is = cc
no_run2 (refs.Run2 moment) other moment' is = other moment refl
no_run2 (refs.Open n id key) other moment' is = cc
no_run2 (refs.File n path before after) other moment' is = cc
no_run2 (refs.Repaired n changes) other moment' is = cc
no_run2 (refs.Failed n reason) other moment' is = cc
no_run2 (refs.Fail n id key reason) other moment' is = cc

to_the_end : (records : List Record) (i : ℕ) → take (length records - i) (drop i records) ≡ drop i records
to_the_end records i = ap (λ k. take k (drop i records)) (sym (length-drop i records)) ∙ take-length (drop i records)

-- the loop, one record on
module _ (records : List Record) (i : ℕ) (run run' : AuditedRun) (item : Record) (before : i < length records) (item_is : item ≡ get_or records i item)
    (more : OneMore run item (drop (i + 1) records)) (counts : run' ≡ counted run item (past_files (take (length records - (i + 1)) (drop (i + 1) records)))) where
  pub counts_is : run' ≡ counted run item (past_files (drop (i + 1) records))
  counts_is = counts ∙ ap (λ rest. counted run item (past_files rest)) (to_the_end records (i + 1))

  pub goes_on : with_rest run' (drop (i + 1) records) ≡ with_rest run (drop i records)
  goes_on =
      ap (λ r. with_rest r (drop (i + 1) records)) counts_is
      ∙ more.so_far
      ∙ ap (λ x. with_rest run (x ∷ drop (i + 1) records)) item_is
      ∙ ap (with_rest run) (sym (drop_more records i item before))
