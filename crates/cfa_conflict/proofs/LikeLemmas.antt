-- Rows that are like others: of those with the same acts one is kept.
use Rattle.std.proofs.Common.{◌≡◌, ℕ, ◌+◌, ◌<◌, ◌≤◌, inl, inr, List, [], ◌∷◌, ◌++◌, length, get_or, take, Bool, true, false, ◌||◌, refl, sym, ap, subst, ◌∙◌, eq-eqb}
use Rattle.std.proofs.lemmas.Bool.{and_parts, and_from, or_left, or_right, or_cases, eqb-true}
use Rattle.std.proofs.lemmas.List.{map_push, take_more, take_all}
use Rattle.std.proofs.lemmas.List.Folds.{list_any-append, list_any_at}
use Rattle.std.proofs.lemmas.Slice.Eq.{bytes_eq-Decides}
use Rattle.std.specs.Cmp.Lexicographic.{pointwise}
use Rattle.std.specs.List.{list_any}
use Rattle.std.specs.Prelude.{nat_eq}
use Rattle.std.specs.Str.{bytes_eq}
use Rattle.cfa_base.specs.Index.{Text}
use Rattle.cfa_resolve.specs.declared.instances.Instance.{Instance}
use Rattle.cfa_acts.specs.declared.acts.Act.{Act}
use Rattle.cfa_acts.specs.Same.{is_same}
use Rattle.cfa_conflict.specs.Targets.{Row, seen_row, seen_rows, acts_at, is_row, is_like, HaveLikes}
use Rattle.cfa_conflict.proofs.PlaceLemmas.{Seen}
use Rattle.cfa_conflict.specs.lemmas.Anywhere.{in_left, in_right}

any_seen : (test : Row → Bool) (rows : List Seen) → list_any test (seen_rows rows) ≡ list_any (λ (row : Seen). test (seen_row row)) rows
any_seen test [] = refl
any_seen test (row ∷ rows) = ap (λ b. test (seen_row row) || b) (any_seen test rows)

-- a row of the target is of an instance with the same acts
pub like_at : (instances : List Instance) (rows : List Seen) (target : Text) (place i : ℕ) (d : Seen) (acts others : List Act) → i < length rows
    → bytes_eq target (get_or rows i d).0.now ≡ true
    → acts ≡ acts_at instances place → others ≡ acts_at instances (get_or rows i d).1 → pointwise is_same others acts ≡ true
    → list_any (is_like instances target place) (seen_rows rows) ≡ true
like_at instances rows target place i d acts others lt at here there same =
    let row = get_or rows i d in
    let alike = pointwise is_same (acts_at instances row.1) (acts_at instances place) in
    let are : alike ≡ true =
    ap (λ l. pointwise is_same l (acts_at instances place)) (sym there) ∙ ap (pointwise is_same others) (sym here) ∙ same in
    any_seen (is_like instances target place) rows
    ∙ list_any_at (λ (r : Seen). is_like instances target place (seen_row r)) rows i d lt
    (and_from (bytes_eq target row.0.now) (nat_eq place row.1 || alike) at (or_right (nat_eq place row.1) alike are))

-- a row is like itself
like_itself : (instances : List Instance) (row : Seen) → is_like instances row.0.now row.1 (seen_row row) ≡ true
like_itself instances row =
    and_from (bytes_eq row.0.now row.0.now) (nat_eq row.1 row.1 || pointwise is_same (acts_at instances row.1) (acts_at instances row.1))
    ((bytes_eq-Decides row.0.now row.0.now).1 refl)
    (or_left (nat_eq row.1 row.1) (pointwise is_same (acts_at instances row.1) (acts_at instances row.1)) (eq-eqb row.1 row.1 refl))

-- ---- along the rows

last_is : (b : Bool) → (b || false) ≡ true → b ≡ true
last_is true is = refl
last_is false is = is

module _ (instances : List Instance) (all : List Seen) (rows more : List Row) (i : ℕ) (d : Seen) (lt : i < length all) (before : HaveLikes instances (seen_rows (take i all)) rows) where
  likes_more : ((test : Row → Bool) → list_any test rows ≡ true → list_any test more ≡ true)
      → list_any (is_like instances (get_or all i d).0.now (get_or all i d).1) more ≡ true → HaveLikes instances (seen_rows (take (i + 1) all)) more
  likes_more keeps like = λ target place among.
      let row = get_or all i d in
      let test = is_row target place in
      let grown : take (i + 1) all ≡ take i all ++ row ∷ [] = take_more all i d lt in
      let split : list_any test (seen_rows (take i all) ++ seen_row row ∷ []) ≡ true =
      ap (list_any test) (sym (map_push seen_row (take i all) row)) ∙ ap (λ (l : List Seen). list_any test (seen_rows l)) (sym grown) ∙ among in
      let either : (list_any test (seen_rows (take i all)) || list_any test (seen_row row ∷ [])) ≡ true =
      sym (list_any-append test (seen_rows (take i all)) (seen_row row ∷ [])) ∙ split in
      elim (or_cases (list_any test (seen_rows (take i all))) (list_any test (seen_row row ∷ [])) either) [
        | inl earlier ↦ keeps (is_like instances target place) (before target place earlier)
        | inr last ↦
            let parts = and_parts (bytes_eq target row.0.now) (nat_eq place row.1) (last_is (test (seen_row row)) last) in
            let at : target ≡ row.0.now = (bytes_eq-Decides target row.0.now).0 parts.0 in
            let here : place ≡ row.1 = eqb-true place row.1 parts.1 in
            subst (λ (t : Text). list_any (is_like instances t place) more ≡ true) (sym at)
            (subst (λ (n : ℕ). list_any (is_like instances row.0.now n) more ≡ true) (sym here) like)
      ]

  pub likes_pushed : more ≡ rows ++ seen_row (get_or all i d) ∷ [] → HaveLikes instances (seen_rows (take (i + 1) all)) more
  likes_pushed grown =
      let row = get_or all i d in
      likes_more
      (λ test among. ap (list_any test) grown ∙ in_left test rows (seen_row row ∷ []) among)
      (ap (list_any (is_like instances row.0.now row.1)) grown
      ∙ in_right (is_like instances row.0.now row.1) rows (seen_row row ∷ [])
      (or_left (is_like instances row.0.now row.1 (seen_row row)) false (like_itself instances row)))

  pub likes_found : more ≡ rows → list_any (is_like instances (get_or all i d).0.now (get_or all i d).1) rows ≡ true → HaveLikes instances (seen_rows (take (i + 1) all)) more
  likes_found same like =
      let row = get_or all i d in
      likes_more
      (λ test among. ap (list_any test) same ∙ among)
      (ap (list_any (is_like instances row.0.now row.1)) same ∙ like)

pub likes_done : (instances : List Instance) (all : List Seen) (rows kept : List Row) (i : ℕ) → length all ≤ i → seen_rows all ≡ rows → HaveLikes instances (seen_rows (take i all)) kept
    → HaveLikes instances rows kept
likes_done instances all rows kept i past same likes = λ target place among.
    likes target place
    (ap (λ (l : List Seen). list_any (is_row target place) (seen_rows l)) (take_all i all past) ∙ ap (list_any (is_row target place)) same ∙ among)
