-- The place after some bytes of a file: its line is the number of newlines before it, from 1, and its column the number
-- of bytes since the last of them, from 1.
use Rattle.std.proofs.Common.{◌≡◌, ℕ, zero, suc, ◌+◌, ◌-◌, ◌≤◌, ◌<◌, true, false, List, [], ◌∷◌, ◌++◌, length, get_or, take, refl, ap, sym, ◌∙◌, ⊎_elim, arith, add-one, subst}
use Rattle.std.specs.Prelude.{not, count_by}
use Rattle.std.specs.List.{suffix_len, after_last}
use Rattle.std.proofs.lemmas.Bool.{cases_Bool, cond-true, cond-false, not_from_true, not_from_false}
use Rattle.std.proofs.lemmas.List.{take_more, take_all, length-drop}
use Rattle.std.proofs.lemmas.List.Sums.{count_by_more_yes, count_by_more_no, suffix_len-take_no, suffix_len-take_yes, suffix_len-le-length}
use Rattle.cfa_base.specs.declared.places.Place.{Place}
use Rattle.cfa_base.specs.Lexing.{is_newline, place_past, place_after, first_place}

abbrev pub place_of : ℕ → List ℕ → Place
place_of file bytes = record { file = file; line = count_by is_newline bytes + 1; col = length (after_last is_newline bytes) + 1 }

place_after_push : (place : Place) (bytes : List ℕ) (b : ℕ) → place_after place (bytes ++ b ∷ []) ≡ place_past (place_after place bytes) b
place_after_push place [] b = refl
place_after_push place (x ∷ xs) b = place_after_push (place_past place x) xs b

past_newline : (place : Place) (b : ℕ) → is_newline b ≡ true → place_past place b ≡ record { file = place.file; line = place.line + 1; col = 1 }
past_newline place b is = cond-true (is_newline b) _ _ is

past_other : (place : Place) (b : ℕ) → is_newline b ≡ false → place_past place b ≡ record { file = place.file; line = place.line; col = place.col + 1 }
past_other place b isnt = cond-false (is_newline b) _ _ isnt

abbrev front_place_is : ℕ → List ℕ → Place
front_place_is file bytes = record { file = file; line = count_by is_newline bytes + 1; col = suffix_len (λ b. not (is_newline b)) bytes + 1 }

-- the same of the first n bytes
front_place : (file : ℕ) (bytes : List ℕ) (n : ℕ) → n ≤ length bytes →
    place_after (first_place file) (take n bytes) ≡ front_place_is file (take n bytes)
front_place file bytes zero within = refl
front_place file bytes (suc n) within =
    let inside : n < length bytes = omega arith in
    let b = get_or bytes n 0 in
    let back : n + 1 - 1 ≡ n = omega arith in
    let before = front_place file bytes n (omega arith) in
    let pushed : place_after (first_place file) (take (n + 1) bytes) ≡ place_past (place_after (first_place file) (take n bytes)) b =
    ap (place_after (first_place file)) (take_more bytes n 0 inside) ∙ place_after_push (first_place file) (take n bytes) b in
    let whole : place_after (first_place file) (take (n + 1) bytes) ≡ front_place_is file (take (n + 1) bytes) =
    ⊎_elim
    (λ is.
    let counts = count_by_more_yes is_newline bytes n 0 inside is in
    let none = suffix_len-take_no (λ x. not (is_newline x)) bytes (n + 1) 0 (omega arith) (omega arith) (ap (λ m. not (is_newline (get_or bytes m 0))) back ∙ not_from_true (is_newline b) is) in
    pushed ∙ (ap (λ p. place_past p b) before ∙ (past_newline _ b is
    ∙ (λ i. record { file = file; line = sym counts i + 1; col = sym none i + 1 }))))
    (λ isnt.
    let counts = count_by_more_no is_newline bytes n 0 inside isnt in
    let one_more : suffix_len (λ x. not (is_newline x)) (take n bytes) + 1 ≡ suffix_len (λ x. not (is_newline x)) (take (n + 1) bytes) =
    omega (
      arith,
      suffix_len-take_yes (λ x. not (is_newline x)) bytes (n + 1) 0 (omega arith) (omega arith) (ap (λ m. not (is_newline (get_or bytes m 0))) back ∙ not_from_false (is_newline b) isnt),
      ap (λ m. suffix_len (λ x. not (is_newline x)) (take m bytes)) back,
    ) in
    pushed ∙ (ap (λ p. place_past p b) before ∙ (past_other _ b isnt
    ∙ (λ i. record { file = file; line = sym counts i + 1; col = one_more i + 1 }))))
    (cases_Bool (is_newline b)) in
    subst (λ (m : ℕ). place_after (first_place file) (take m bytes) ≡ front_place_is file (take m bytes)) (add-one n) whole

pub end_place_is : (file : ℕ) (bytes : List ℕ) → place_after (first_place file) bytes ≡ place_of file bytes
end_place_is file bytes =
    let whole = subst (λ (x : List ℕ). place_after (first_place file) x ≡ front_place_is file x) (take_all (length bytes) bytes (omega arith)) (front_place file bytes (length bytes) (omega arith)) in
    let last : suffix_len (λ x. not (is_newline x)) bytes ≡ length (after_last is_newline bytes) =
    omega (arith, length-drop (length bytes - suffix_len (λ x. not (is_newline x)) bytes) bytes, suffix_len-le-length (λ x. not (is_newline x)) bytes) in
    whole ∙ (λ i. record { file = file; line = count_by is_newline bytes + 1; col = last i + 1 })
