-- What is read of a journal, and that it has one answer.
use Rattle.std.proofs.Common.{◌≡◌, ◌<◌, ◌≤◌, ◌↔◌, ◌⊎◌, inl, inr, ℕ, List, Some, Option, Result, Ok, Err, IfSome, refl, sym, ap, subst, ◌∙◌, length, arith}
use Rattle.std.proofs.lemmas.Bool.{cases_order}
use Rattle.cfa_base.specs.lemmas.Options.{some_weaker, one_some}
use Rattle.cfa_outside.specs.Inputs.{Library}
use Rattle.cfa_output.specs.declared.ends.Stop.{Stop}
use Rattle.cfa_output.specs.declared.ends.Stop.TheVariants.{Memory}
use Rattle.cfa_output.specs.Lines.{journal_bad_line}
use Rattle.cfa_journal.specs.declared.journals.JournalErr.{JournalErr}
use Rattle.cfa_journal.specs.declared.journals.JournalErr.TheVariants.{BadRecord, TooLong, NoMemory}
use Rattle.cfa_journal.specs.declared.journals.TheConstants.{MOST_JOURNAL_BYTES}
use Rattle.cfa_journal.specs.declared.records.Record.{Record}
use Rattle.cfa_journal.specs.Journals.{IsJournal, HasBadRecord, OneJournal, NeverBoth, OneBadRecord}
use Rattle.cfa_journal.specs.Audits.{runs_of}
use Rattle.cfa_sources.specs.Sources.{Texts}
use Rattle.cfa_main.specs.Audits.{audit_text, bytes_of, AuditsAs, RefusesJournal, too_long, bad_record}
use Rattle.cfa_main.specs.Stages.{JournalTells}

-- ---- what was read

pub audits_as : (told : Option Library) (name bytes text : List ℕ) (records : List Record) (torn : ℕ) →
    IfSome told (λ lib. bytes_of lib.texts name ≡ Some bytes) → length bytes ≤ 16777216 → IsJournal bytes records torn →
    text ≡ audit_text (runs_of records) torn → IfSome told (λ lib. AuditsAs lib.texts name text)
audits_as told name bytes text records torn found short is_journal text_is = some_weaker told _ _ (λ lib _ is. record {
  bytes = bytes;
  found = is;
  short = short;
  records = records;
  torn = torn;
  is_journal = is_journal;
  text_is = text_is;
}) found

abbrev IsBad : {J : Type 0} → Result J JournalErr → Type 0
IsBad (Err (BadRecord line)) = Unit {0}
IsBad _ = ⊥

bad_is_short : {J : Type 0} (line : ℕ) (bytes : List ℕ) → (◌≡◌ {A = Result J JournalErr} (Err (BadRecord line)) (Err TooLong)) ↔ (MOST_JOURNAL_BYTES < length bytes) → length bytes ≤ 16777216
bad_is_short line bytes long = by (cases_order 16777216 (length bytes)) where
  by : (16777216 ≡ length bytes) ⊎ ((16777216 < length bytes) ⊎ (length bytes < 16777216)) → length bytes ≤ 16777216
  by (inl same) = omega (arith, same)
  by (inr (inl over)) = absurd (subst IsBad (long.1 over) tt)
  by (inr (inr under)) = omega (arith, under)

abbrev IsTold : Result (List ℕ) Stop → Type 0
IsTold (Ok line) = Unit {0}
IsTold (Err stop) = ⊥

is_told : (line : List ℕ) (stop : Stop) → ◌≡◌ {A = Result (List ℕ) Stop} (Ok line) (Err stop) → ⊥
is_told line stop e = subst IsTold e tt

pub refuses_journal : {J : Type 0} (told : Option Library) (name bytes line : List ℕ) (error : JournalErr) →
    IfSome told (λ lib. bytes_of lib.texts name ≡ Some bytes) → ((number : ℕ) → error ≡ BadRecord number → HasBadRecord bytes number) →
    (◌≡◌ {A = Result J JournalErr} (Err error) (Err TooLong)) ↔ (MOST_JOURNAL_BYTES < length bytes) → JournalTells name error (Ok line) →
    IfSome told (λ lib. RefusesJournal lib.texts name line)
refuses_journal told name bytes line (BadRecord number) found bad long tells = some_weaker told _ _ (λ lib _ is.
    subst (RefusesJournal lib.texts name) (sym tells) (bad_record {bytes = bytes} is (bad_is_short number bytes long) (bad number refl))) found
refuses_journal told name bytes line TooLong found bad long tells = some_weaker told _ _ (λ lib _ is.
    subst (RefusesJournal lib.texts name) (sym tells) (too_long {bytes = bytes} is (long.0 refl))) found
refuses_journal told name bytes line NoMemory found bad long tells = absurd (is_told line Memory tells)

-- ---- one answer

one_found : (texts : Texts) (name a b : List ℕ) → bytes_of texts name ≡ Some a → bytes_of texts name ≡ Some b → a ≡ b
one_found texts name a b first second = one_some first second

module _ (one : OneJournal) (never_both : NeverBoth) (one_bad : OneBadRecord) where
  pub audit_is_one : (texts : Texts) (name a b : List ℕ) → AuditsAs texts name a → AuditsAs texts name b → a ≡ b
  audit_is_one texts name a b r s =
      let same : r.bytes ≡ s.bytes = one_found texts name r.bytes s.bytes r.found s.found in
      let is = one s.bytes r.records s.records r.torn s.torn (subst (λ t. IsJournal t r.records r.torn) same r.is_journal) s.is_journal in
      r.text_is ∙ ap (λ (rs : List Record). audit_text (runs_of rs) r.torn) is.0 ∙ ap (audit_text (runs_of s.records)) is.1 ∙ sym s.text_is

  pub journal_line_is_one : (texts : Texts) (name a b : List ℕ) → RefusesJournal texts name a → RefusesJournal texts name b → a ≡ b
  journal_line_is_one texts name _ _ (too_long found over) (too_long found' over') = refl
  journal_line_is_one texts name _ _ (too_long {bytes = t} found over) (bad_record {bytes = u} found' short bad) =
      absurd (omega (arith, ap length (one_found texts name t u found found'), over, short))
  journal_line_is_one texts name _ _ (bad_record {bytes = t} found short bad) (too_long {bytes = u} found' over) =
      absurd (omega (arith, ap length (one_found texts name t u found found'), over, short))
  journal_line_is_one texts name _ _ (bad_record {bytes = t} {line = k} found short bad) (bad_record {bytes = u} {line = l} found' short' bad') =
      let same : t ≡ u = one_found texts name t u found found' in
      ap (journal_bad_line name) (one_bad u k l (subst (λ x. HasBadRecord x k) same bad) bad')

  pub journal_never_both : (texts : Texts) (name text line : List ℕ) → AuditsAs texts name text → RefusesJournal texts name line → ⊥
  journal_never_both texts name text _ r (too_long {bytes = u} found over) =
      omega (arith, ap length (one_found texts name r.bytes u r.found found), over, r.short)
  journal_never_both texts name text _ r (bad_record {bytes = u} {line = k} found short bad) =
      let same : u ≡ r.bytes = one_found texts name u r.bytes found r.found in
      never_both r.bytes r.records r.torn k r.is_journal (subst (λ x. HasBadRecord x k) same bad)
