-- Tables: bytes are one table or have one first bad row.
use Rattle.std.proofs.Common.{◌≡◌, ℕ, suc, ◌+◌, ◌<◌, List, [], ◌∷◌, ◌++◌, length, Option, Some, None, refl, sym, ap, ◌∙◌, arith, inl, inr}
use Rattle.std.proofs.lemmas.List.{append-nil}
use Rattle.cfa_base.specs.Lacking.{Lacks}
use Rattle.cfa_rows.specs.Rows.{written, last_after, InOrder, Reads}
use Rattle.cfa_rows.specs.lemmas.Cuts.{one_cut, no_cut, Lacks-from_test}
use Rattle.cfa_rows.specs.lemmas.Rows.{TellsRows, first_line, one_reading, never_bad}
use Rattle.cfa_tables.specs.Tables.{Rises, IsWhole, HasBadPiece}
use Rattle.cfa_tables.specs.Laws.{TellsTables}

-- what stands where a row is to stand, and is none
data IsBadAt {R : Type 0} (form : R → List ℕ) (follows : Option R → R → Type 0) (last : Option R) (bytes : List ℕ) : Type 0 where
  a_line : (line rest : List ℕ) → line ++ 10 ∷ rest ≡ bytes → Lacks 10 line → Reads form (follows last) line None → IsBadAt form follows last bytes
  torn : Lacks 10 bytes → 0 < length bytes → IsBadAt form follows last bytes

module _ {R : Type 0} (form : R → List ℕ) (follows : Option R → R → Type 0) (tells : TellsRows form follows) where
  -- no row stands there
  bad_is_no_row : (last : Option R) (row : R) (behind bytes : List ℕ) → follows last row → IsBadAt form follows last bytes → bytes ≡ form row ++ 10 ∷ behind → ⊥
  bad_is_no_row last row behind bytes fits (a_line line rest whole lacks none) e =
      let cut = one_cut 10 line rest (form row) behind lacks (tells.lines last row fits) (whole ∙ e) in
      none row fits (sym cut.0)
  bad_is_no_row last row behind bytes fits (torn lacks some) e = no_cut 10 bytes (form row) behind lacks e

  one_bad : (last : Option R) (before other : List R) (front front' : List ℕ) → InOrder follows last before → InOrder follows last other → IsBadAt form follows (last_after last before) front → IsBadAt form follows (last_after last other) front' → written form before ++ front ≡ written form other ++ front' → length before ≡ length other
  one_bad last [] [] front front' order order' bad bad' e = refl
  one_bad last [] (row ∷ other) front front' order order' bad bad' e = absurd (bad_is_no_row last row (written form other ++ front') front order'.0 bad (e ∙ first_line form row other front'))
  one_bad last (row ∷ before) [] front front' order order' bad bad' e = absurd (bad_is_no_row last row (written form before ++ front) front' order.0 bad' (sym e ∙ first_line form row before front))
  one_bad last (row ∷ before) (row' ∷ other) front front' order order' bad bad' e =
      let cut = one_cut 10 (form row) (written form before ++ front) (form row') (written form other ++ front') (tells.lines last row order.0) (tells.lines last row' order'.0) (sym (first_line form row before front) ∙ e ∙ first_line form row' other front') in
      let same : row ≡ row' = tells.rows last row row' order.0 order'.0 cut.0 in
      let order'' : InOrder follows (Some row) other = rw same order'.1 in
      let bad'' : IsBadAt form follows (last_after (Some row) other) front' = rw same bad' in
      ap suc (one_bad (Some row) before other front front' order.1 order'' bad bad'' cut.1)

  -- a first bad piece, as rows and what stands where the next is to stand
  record IsBad (bytes : List ℕ) (line : ℕ) : Type 0 where
    before : List R
    front : List ℕ
    whole : written form before ++ front ≡ bytes
    in_order : InOrder follows None before
    bad : IsBadAt form follows (last_after None before) front
    counted : line ≡ length before + 1

  is_bad : (bytes : List ℕ) (line : ℕ) → HasBadPiece form follows bytes line → IsBad bytes line
  is_bad bytes line (inl bad) = record {
    before = bad.before;
    front = bad.line ++ 10 ∷ bad.rest;
    whole = bad.whole;
    in_order = bad.in_order;
    bad = a_line bad.line bad.rest refl bad.a_line bad.no_row;
    counted = bad.counted;
  }
  is_bad bytes line (inr ends) = record {
    before = ends.before;
    front = ends.piece;
    whole = ends.whole;
    in_order = ends.in_order;
    bad = torn ends.torn ends.some;
    counted = ends.counted;
  }

  pub one_bad_piece : (bytes : List ℕ) (line other : ℕ) → HasBadPiece form follows bytes line → HasBadPiece form follows bytes other → line ≡ other
  one_bad_piece bytes line other bad bad' =
      let a = is_bad bytes line bad in
      let b = is_bad bytes other bad' in
      let same = one_bad None a.before b.before a.front b.front a.in_order b.in_order a.bad b.bad (a.whole ∙ sym b.whole) in
      a.counted ∙ ap (λ n. n + 1) same ∙ sym b.counted

  pub one_whole : (bytes : List ℕ) (rows other : List R) → IsWhole form follows bytes rows → IsWhole form follows bytes other → rows ≡ other
  one_whole bytes rows other is is' = (one_reading form follows tells None rows other [] [] is.1 is'.1 (Lacks-from_test 10 [] refl) (Lacks-from_test 10 [] refl) (ap (λ x. x ++ []) (is.0 ∙ sym is'.0))).0

  pub never_both : (bytes : List ℕ) (rows : List R) (line : ℕ) → IsWhole form follows bytes rows → HasBadPiece form follows bytes line → ⊥
  never_both bytes rows line is (inl bad) = never_bad form follows tells None rows bad.before [] bad.line bad.rest is.1 (Lacks-from_test 10 [] refl) bad.in_order bad.a_line bad.no_row (append-nil (written form rows) ∙ is.0 ∙ sym bad.whole)
  never_both bytes rows line is (inr ends) =
      let same = one_reading form follows tells None rows ends.before [] ends.piece is.1 ends.in_order (Lacks-from_test 10 [] refl) ends.torn (append-nil (written form rows) ∙ is.0 ∙ sym ends.whole) in
      omega (arith, ap length same.1, ends.some)

pub tells_tables : {X : Type 0} (form : List ℕ × X → List ℕ) (IsRow : List ℕ × X → Type 0) → TellsRows form (Rises IsRow) → TellsTables form IsRow
tells_tables form IsRow tells = record {
  one = one_whole form (Rises IsRow) tells;
  never_both = never_both form (Rises IsRow) tells;
  one_bad_row = one_bad_piece form (Rises IsRow) tells;
}
