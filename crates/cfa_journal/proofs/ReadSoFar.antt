-- What the loop over the lines of a journal keeps, a line at a time.
use Rattle.std.proofs.Common.{◌≡◌, ℕ, ◌+◌, ◌≤◌, List, [], ◌∷◌, ◌++◌, Some, None, length, sym, ap, ◌∙◌, subst, arith, length-append}
use Rattle.cfa_rows.specs.Cuts.{IsCut}
use Rattle.cfa_rows.specs.Rows.{Reads}
use Rattle.cfa_rows.specs.lemmas.Rows.{written-push}
use Rattle.cfa_journal.specs.declared.records.Record.{Record}
use Rattle.cfa_journal.specs.declared.positions.Position.{Position}
use Rattle.cfa_journal.specs.declared.positions.Position.TheVariants.{Start}
use Rattle.cfa_journal.specs.Records.{record_text}
use Rattle.cfa_journal.specs.Positions.{MayStand, behind, behind_all}
use Rattle.cfa_journal.specs.Journals.{journal_text, InPlace, HasBadRecord}
use Rattle.cfa_journal.proofs.JournalLemmas.{InPlace-push, behind_all-push}

module _ (bytes : List ℕ) where
  -- the records that were read, where the next one stands, what is left of the bytes, and the number of the next line
  pub record IsReadSoFar (records : List Record) (position : Position) (rest : List ℕ) (number : ℕ) : Type 0 where
    pub whole : journal_text records ++ rest ≡ bytes
    pub in_place : InPlace records
    pub standing : position ≡ behind_all Start records
    pub counted : number ≡ length records + 1
    pub within : length records + length rest ≤ length bytes

  module _ (records : List Record) (position : Position) (rest line behind_line : List ℕ) (number : ℕ) (so_far : IsReadSoFar records position rest number) (cut : IsCut 10 rest line behind_line) where
    cut_here : journal_text records ++ (line ++ 10 ∷ behind_line) ≡ bytes
    cut_here = ap (λ x. journal_text records ++ x) (sym cut.whole) ∙ so_far.whole

    pub stops_here : Reads record_text (MayStand position) line None → HasBadRecord bytes number
    stops_here none = record {
      before = records;
      line = line;
      rest = behind_line;
      whole = cut_here;
      in_place = so_far.in_place;
      a_line = cut.first;
      no_record = subst (λ p. Reads record_text (MayStand p) line None) so_far.standing none;
      counted = so_far.counted;
    }

    pub goes_on : (r : Record) (items : List Record) → Reads record_text (MayStand position) line (Some r) → items ≡ records ++ r ∷ [] → IsReadSoFar items (behind position r) behind_line (number + 1)
    goes_on r items reads pushed =
        let stands = subst (λ p. MayStand p r) so_far.standing reads.0 in
        let longer : length items ≡ length records + 1 = ap length pushed ∙ length-append records (r ∷ []) in
        let shorter : length rest ≡ length line + (length behind_line + 1) = ap length cut.whole ∙ length-append line (10 ∷ behind_line) ∙ omega arith in
        let counted = so_far.counted in
        let within = so_far.within in
        record {
          whole =
              ap (λ x. journal_text x ++ behind_line) pushed
              ∙ written-push record_text records r behind_line
              ∙ ap (λ x. journal_text records ++ (x ++ 10 ∷ behind_line)) reads.1
              ∙ cut_here;
          in_place = subst InPlace (sym pushed) (InPlace-push Start records r so_far.in_place stands);
          standing = ap (λ p. behind p r) so_far.standing ∙ sym (behind_all-push Start records r) ∙ ap (behind_all Start) (sym pushed);
          counted = omega arith;
          within = omega arith;
        }
