-- Rows in order: one more row, and that bytes are rows in one way.
use Rattle.std.proofs.Common.{◌≡◌, ℕ, suc, ◌-◌, List, [], ◌∷◌, ◌++◌, length, Option, Some, None, refl, sym, ap, ◌∙◌, arith, append_assoc}
use Rattle.std.specs.Prelude.{slice_get}
use Rattle.cfa_base.specs.Lacking.{Lacks}
use Rattle.cfa_rows.specs.lemmas.Cuts.{one_cut, no_cut}
use Rattle.cfa_rows.specs.Rows.{written, last_after, last_of, InOrder, Reads}

last_after-slice_get : {R : Type 0} (last : Option R) (first : R) (rows : List R) → last_after last (first ∷ rows) ≡ slice_get (first ∷ rows) (length rows)
last_after-slice_get last first [] = refl
last_after-slice_get last first (second ∷ rows) = last_after-slice_get (Some first) second rows

-- the last of some rows stands at the last place
pub last_of-slice_get : {R : Type 0} (rows : List R) → slice_get rows (length rows - 1) ≡ last_of rows
last_of-slice_get [] = refl
last_of-slice_get (first ∷ rows) =
    let at : length (first ∷ rows) - 1 ≡ length rows = omega arith in
    ap (slice_get (first ∷ rows)) at ∙ sym (last_after-slice_get None first rows)

pub InOrder-push : {R : Type 0} (follows : Option R → R → Type 0) (last : Option R) (rows : List R) (row : R) → InOrder follows last rows → follows (last_after last rows) row → InOrder follows last (rows ++ row ∷ [])
InOrder-push follows last [] row order next = (next, tt)
InOrder-push follows last (first ∷ rows) row order next = (order.0, InOrder-push follows (Some first) rows row order.1 next)

pub written-push : {R : Type 0} (form : R → List ℕ) (rows : List R) (row : R) (rest : List ℕ) → written form (rows ++ row ∷ []) ++ rest ≡ written form rows ++ (form row ++ 10 ∷ rest)
written-push form [] row rest = append_assoc (form row ++ 10 ∷ []) [] rest ∙ append_assoc (form row) (10 ∷ []) rest
written-push form (first ∷ rows) row rest =
    append_assoc (form first ++ 10 ∷ []) (written form (rows ++ row ∷ [])) rest
    ∙ ap (λ x. (form first ++ 10 ∷ []) ++ x) (written-push form rows row rest)
    ∙ sym (append_assoc (form first ++ 10 ∷ []) (written form rows) (form row ++ 10 ∷ rest))

-- how a line's form and place tell its row
pub record TellsRows {R : Type 0} (form : R → List ℕ) (follows : Option R → R → Type 0) : Type 0 where
  pub lines : (last : Option R) (row : R) → follows last row → Lacks 10 (form row)
  pub rows : (last : Option R) (row other : R) → follows last row → follows last other → form row ≡ form other → row ≡ other

pub first_line : {R : Type 0} (form : R → List ℕ) (row : R) (rows : List R) (rest : List ℕ) → written form (row ∷ rows) ++ rest ≡ form row ++ 10 ∷ (written form rows ++ rest)
first_line form row rows rest =
    append_assoc (form row ++ 10 ∷ []) (written form rows) rest ∙ append_assoc (form row) (10 ∷ []) (written form rows ++ rest)

-- bytes are rows in one way
pub one_reading : {R : Type 0} (form : R → List ℕ) (follows : Option R → R → Type 0) → TellsRows form follows → (last : Option R) (rows other : List R) (rest rest' : List ℕ) → InOrder follows last rows → InOrder follows last other → Lacks 10 rest → Lacks 10 rest' → written form rows ++ rest ≡ written form other ++ rest' → (rows ≡ other) × (rest ≡ rest')
one_reading form follows tells last [] [] rest rest' order order' torn torn' e = (refl, e)
one_reading form follows tells last [] (row ∷ rows) rest rest' order order' torn torn' e = absurd (no_cut 10 rest (form row) (written form rows ++ rest') torn (e ∙ first_line form row rows rest'))
one_reading form follows tells last (row ∷ rows) [] rest rest' order order' torn torn' e = absurd (no_cut 10 rest' (form row) (written form rows ++ rest) torn' (sym e ∙ first_line form row rows rest))
one_reading form follows tells last (row ∷ rows) (row' ∷ rows') rest rest' order order' torn torn' e =
    let cut = one_cut 10 (form row) (written form rows ++ rest) (form row') (written form rows' ++ rest') (tells.lines last row order.0) (tells.lines last row' order'.0) (sym (first_line form row rows rest) ∙ e ∙ first_line form row' rows' rest') in
    let same : row ≡ row' = tells.rows last row row' order.0 order'.0 cut.0 in
    let order'' : InOrder follows (Some row) rows' = rw same order'.1 in
    let more = one_reading form follows tells (Some row) rows rows' rest rest' order.1 order'' torn torn' cut.1 in
    let tail : rows ≡ rows' = more.0 in
    (cc, more.1)

-- what is rows in order has no bad line
pub never_bad : {R : Type 0} (form : R → List ℕ) (follows : Option R → R → Type 0) → TellsRows form follows → (last : Option R) (rows before : List R) (rest line behind : List ℕ) → InOrder follows last rows → Lacks 10 rest → InOrder follows last before → Lacks 10 line → Reads form (follows (last_after last before)) line None → written form rows ++ rest ≡ written form before ++ (line ++ 10 ∷ behind) → ⊥
never_bad form follows tells last [] [] rest line behind order torn order' a_line none e = no_cut 10 rest line behind torn e
never_bad form follows tells last [] (row ∷ before) rest line behind order torn order' a_line none e = no_cut 10 rest (form row) (written form before ++ (line ++ 10 ∷ behind)) torn (e ∙ first_line form row before (line ++ 10 ∷ behind))
never_bad form follows tells last (row ∷ rows) [] rest line behind order torn order' a_line none e =
    let cut = one_cut 10 (form row) (written form rows ++ rest) line behind (tells.lines last row order.0) a_line (sym (first_line form row rows rest) ∙ e) in
    none row order.0 cut.0
never_bad form follows tells last (row ∷ rows) (row' ∷ before) rest line behind order torn order' a_line none e =
    let cut = one_cut 10 (form row) (written form rows ++ rest) (form row') (written form before ++ (line ++ 10 ∷ behind)) (tells.lines last row order.0) (tells.lines last row' order'.0) (sym (first_line form row rows rest) ∙ e ∙ first_line form row' before (line ++ 10 ∷ behind)) in
    let same : row ≡ row' = tells.rows last row row' order.0 order'.0 cut.0 in
    let order'' : InOrder follows (Some row) before = rw same order'.1 in
    let none' : Reads form (follows (last_after (Some row) before)) line None = rw same none in
    never_bad form follows tells (Some row) rows before rest line behind order.1 torn order'' a_line none' cut.1

-- the first bad line stands behind one number of rows
pub one_bad : {R : Type 0} (form : R → List ℕ) (follows : Option R → R → Type 0) → TellsRows form follows → (last : Option R) (before other : List R) (line rest line' rest' : List ℕ) → InOrder follows last before → InOrder follows last other → Lacks 10 line → Lacks 10 line' → Reads form (follows (last_after last before)) line None → Reads form (follows (last_after last other)) line' None → written form before ++ (line ++ 10 ∷ rest) ≡ written form other ++ (line' ++ 10 ∷ rest') → length before ≡ length other
one_bad form follows tells last [] [] line rest line' rest' order order' a_line a_line' none none' e = refl
one_bad form follows tells last [] (row ∷ other) line rest line' rest' order order' a_line a_line' none none' e =
    let cut = one_cut 10 line rest (form row) (written form other ++ (line' ++ 10 ∷ rest')) a_line (tells.lines last row order'.0) (e ∙ first_line form row other (line' ++ 10 ∷ rest')) in
    absurd (none row order'.0 (sym cut.0))
one_bad form follows tells last (row ∷ before) [] line rest line' rest' order order' a_line a_line' none none' e =
    let cut = one_cut 10 (form row) (written form before ++ (line ++ 10 ∷ rest)) line' rest' (tells.lines last row order.0) a_line' (sym (first_line form row before (line ++ 10 ∷ rest)) ∙ e) in
    absurd (none' row order.0 cut.0)
one_bad form follows tells last (row ∷ before) (row' ∷ other) line rest line' rest' order order' a_line a_line' none none' e =
    let cut = one_cut 10 (form row) (written form before ++ (line ++ 10 ∷ rest)) (form row') (written form other ++ (line' ++ 10 ∷ rest')) (tells.lines last row order.0) (tells.lines last row' order'.0) (sym (first_line form row before (line ++ 10 ∷ rest)) ∙ e ∙ first_line form row' other (line' ++ 10 ∷ rest')) in
    let same : row ≡ row' = tells.rows last row row' order.0 order'.0 cut.0 in
    let order'' : InOrder follows (Some row) other = rw same order'.1 in
    let none'' : Reads form (follows (last_after (Some row) other)) line' None = rw same none' in
    let more : length before ≡ length other = one_bad form follows tells (Some row) before other line rest line' rest' order.1 order'' a_line a_line' none none'' cut.1 in
    ap suc more
