-- What the loop over the lines of bytes keeps, a line at a time.
use Rattle.std.proofs.Common.{◌≡◌, ℕ, ◌+◌, ◌≤◌, List, [], ◌∷◌, ◌++◌, Option, Some, None, length, sym, ap, ◌∙◌, subst, arith, length-append}
use Rattle.cfa_rows.specs.Cuts.{IsCut}
use Rattle.cfa_rows.specs.Rows.{written, last_of, InOrder, Reads, HasBadLine}
use Rattle.cfa_rows.specs.lemmas.Rows.{InOrder-push, written-push}

module _ {R : Type 0} (form : R → List ℕ) (follows : Option R → R → Type 0) (bytes : List ℕ) where
  -- the rows that were read, what is left of the bytes, and the number of the next line
  pub record IsReadSoFar (rows : List R) (rest : List ℕ) (number : ℕ) : Type 0 where
    pub whole : written form rows ++ rest ≡ bytes
    pub in_order : InOrder follows None rows
    pub counted : number ≡ length rows + 1
    pub within : length rows + length rest ≤ length bytes

  module _ (rows : List R) (rest line behind : List ℕ) (number : ℕ) (last : Option R) (so_far : IsReadSoFar rows rest number) (cut : IsCut 10 rest line behind) (at_last : last ≡ last_of rows) where
    cut_here : written form rows ++ (line ++ 10 ∷ behind) ≡ bytes
    cut_here = ap (λ x. written form rows ++ x) (sym cut.whole) ∙ so_far.whole

    pub stops_here : Reads form (follows last) line None → HasBadLine form follows bytes number
    stops_here none = record {
      before = rows;
      line = line;
      rest = behind;
      whole = cut_here;
      in_order = so_far.in_order;
      a_line = cut.first;
      no_row = subst (λ l. Reads form (follows l) line None) at_last none;
      counted = so_far.counted;
    }

    pub goes_on : (row : R) (items : List R) → Reads form (follows last) line (Some row) → items ≡ rows ++ row ∷ [] → IsReadSoFar items behind (number + 1)
    goes_on row items reads pushed =
        let follows_last = subst (λ l. follows l row) at_last reads.0 in
        let longer : length items ≡ length rows + 1 = ap length pushed ∙ length-append rows (row ∷ []) in
        let shorter : length rest ≡ length line + (length behind + 1) = ap length cut.whole ∙ length-append line (10 ∷ behind) ∙ omega arith in
        let counted = so_far.counted in
        let within = so_far.within in
        record {
          whole =
              ap (λ x. written form x ++ behind) pushed
              ∙ written-push form rows row behind
              ∙ ap (λ x. written form rows ++ (x ++ 10 ∷ behind)) reads.1
              ∙ cut_here;
          in_order = subst (InOrder follows None) (sym pushed) (InOrder-push follows None rows row so_far.in_order follows_last);
          counted = omega arith;
          within = omega arith;
        }
