-- What a history is made of, and that it has one answer.
use Rattle.std.proofs.Common.{◌≡◌, ◌<◌, ◌≤◌, ◌^◌, ℕ, List, Option, Some, IfSome, refl, sym, ap, subst, ◌∙◌, count_by, length, arith}
use Rattle.cfa_base.specs.lemmas.Options.{some_weaker, one_some}
use Rattle.cfa_outside.specs.Inputs.{Library}
use Rattle.cfa_journal.specs.declared.records.Record.{Record}
use Rattle.cfa_journal.specs.Journals.{IsJournal, OneJournal, NeverBoth, OneBadRecord}
use Rattle.cfa_journal.specs.Audits.{runs_of}
use Rattle.cfa_history.specs.declared.gaps.Gap.{Gap}
use Rattle.cfa_history.specs.declared.rows.Row.{Row}
use Rattle.cfa_history.specs.Gaps.{gaps_of}
use Rattle.cfa_history.specs.Histories.{is_run}
use Rattle.cfa_history.specs.Instances.{instances}
use Rattle.cfa_history.specs.Laws.{NoMoreRecords, RowsAreOne}
use Rattle.cfa_history.specs.Rows.{IsTold}
use Rattle.cfa_sources.specs.Sources.{Texts}
use Rattle.cfa_main.specs.Audits.{audit_text, bytes_of, AuditsAs, RefusesJournal}
use Rattle.cfa_main.specs.Histories.{history_text, IsHistoryText, RecountsAs}
use Rattle.cfa_main.proofs.AuditLemmas.{journal_never_both}

-- ---- what was read

pub recounts_as : (told : Option Library) (name bytes text : List ℕ) (records : List Record) (torn : ℕ) →
    IfSome told (λ lib. bytes_of lib.texts name ≡ Some bytes) → length bytes ≤ 16777216 → IsJournal bytes records torn →
    IsHistoryText records torn text → IfSome told (λ lib. RecountsAs lib.texts name text)
recounts_as told name bytes text records torn found short is_journal is_text = some_weaker told _ _ (λ lib _ is. record {
  bytes = bytes;
  found = is;
  short = short;
  records = records;
  torn = torn;
  is_journal = is_journal;
  is_text = is_text;
}) found

pub few_records : NoMoreRecords → (bytes : List ℕ) (records : List Record) (torn : ℕ) → length bytes ≤ 16777216 → IsJournal bytes records torn → length records < 2 ^ 32
few_records no_more bytes records torn short is_journal = omega (arith, short, no_more bytes records torn is_journal)

-- the text of a history, of the parts that were found
pub is_history_text : (records : List Record) (torn : ℕ) (text : List ℕ) (rows items : List Row) (gaps slice : List Gap) (runs : ℕ) → IsTold (instances 0 records) rows → items ≡ rows → slice ≡ gaps → gaps ≡ gaps_of records →
    runs ≡ count_by is_run records → text ≡ history_text items slice runs torn → IsHistoryText records torn text
is_history_text records torn text rows items gaps slice runs told items_are slice_is gaps_are runs_are is = record {
  rows = rows;
  told = told;
  text_is = is ∙ ap (λ (rs : List Row). history_text rs slice runs torn) items_are ∙ ap (λ (gs : List Gap). history_text rows gs runs torn) (slice_is ∙ gaps_are)
      ∙ ap (λ (n : ℕ). history_text rows (gaps_of records) n torn) runs_are;
}

-- ---- one answer

audited : (texts : Texts) (name text : List ℕ) (r : RecountsAs texts name text) → AuditsAs texts name (audit_text (runs_of r.records) r.torn)
audited texts name text r = record {
  bytes = r.bytes;
  found = r.found;
  short = r.short;
  records = r.records;
  torn = r.torn;
  is_journal = r.is_journal;
  text_is = refl;
}

pub history_never_both : OneJournal → NeverBoth → OneBadRecord → (texts : Texts) (name text line : List ℕ) → RecountsAs texts name text → RefusesJournal texts name line → ⊥
history_never_both one never_both one_bad texts name text line r refuses =
    journal_never_both one never_both one_bad texts name (audit_text (runs_of r.records) r.torn) line (audited texts name text r) refuses

text_of_one : RowsAreOne → (records : List Record) (torn : ℕ) (a b : List ℕ) → IsHistoryText records torn a → IsHistoryText records torn b → a ≡ b
text_of_one rows_one records torn a b r s =
    let rows : r.rows ≡ s.rows = rows_one (instances 0 records) r.rows s.rows r.told s.told in
    r.text_is ∙ ap (λ (rs : List Row). history_text rs (gaps_of records) (count_by is_run records) torn) rows ∙ sym s.text_is

pub history_is_one : OneJournal → RowsAreOne → (texts : Texts) (name a b : List ℕ) → RecountsAs texts name a → RecountsAs texts name b → a ≡ b
history_is_one one rows_one texts name a b r s =
    let same : r.bytes ≡ s.bytes = one_some r.found s.found in
    let is = one s.bytes r.records s.records r.torn s.torn (subst (λ t. IsJournal t r.records r.torn) same r.is_journal) s.is_journal in
    let moved : IsHistoryText s.records s.torn a = subst (λ n. IsHistoryText s.records n a) is.1 (subst (λ rs. IsHistoryText rs r.torn a) is.0 r.is_text) in
    text_of_one rows_one s.records s.torn a b moved s.is_text
