-- Texts of small letters, digits and `/` alone, as the names and the contents of a demo are: in quotes each is a quoted text
-- with itself as its content, and a place behind it is on the same line.
use Rattle.std.proofs.Common.{◌≡◌, refl, ◌∙◌, ap, ℕ, ◌-◌, ◌≤◌, ◌<◌, false, ◌==◌, ◌⊎◌, inl, inr, List, [], ◌∷◌, ◌++◌, length, take, arith}
use Rattle.std.specs.Prelude.{IsTrue, ⊤, codes}
use Rattle.std.specs.Fmt.{decimal}
use Rattle.std.specs.Str.Parse.{AllDigits}
use Rattle.std.proofs.lemmas.Bool.{ne_eqb}
use Rattle.std.proofs.lemmas.Fmt.{decimal_is_IsNumeral}
use Rattle.std.proofs.lemmas.Str.Parse.{digit_from_value}
use Rattle.std.proofs.lemmas.List.{length-append, take_at}
use Rattle.cfa_base.specs.declared.places.Place.{Place}
use Rattle.cfa_base.specs.Lexing.{is_quoted, closes, content_of, unescaped, place_past, place_after}
use Rattle.cfa_demo_laws.specs.Trees.{quoted, file_of, class_of}

abbrev pub IsPlainByte : ℕ → Type 0
IsPlainByte b = ((47 ≤ b) × (b ≤ 57)) ⊎ ((97 ≤ b) × (b ≤ 122))

abbrev pub IsPlain : List ℕ → Type 0
IsPlain [] = ⊤
IsPlain (b ∷ bs) = IsPlainByte b × IsPlain bs

-- no other byte is among these
pub other_byte : (b c : ℕ) → IsPlainByte b → (c < 47) ⊎ ((57 < c) × (c < 97)) → (b == c) ≡ false
other_byte b c (inl h) (inl k) = ne_eqb b c (λ e. omega (arith, e))
other_byte b c (inl h) (inr k) = ne_eqb b c (λ e. omega (arith, e))
other_byte b c (inr h) (inl k) = ne_eqb b c (λ e. omega (arith, e))
other_byte b c (inr h) (inr k) = ne_eqb b c (λ e. omega (arith, e))

-- ---- which texts are plain

digits_are_plain : (ds : List ℕ) → AllDigits 10 ds → IsPlain ds
digits_are_plain [] d = tt
digits_are_plain (c ∷ cs) d = (inl (let r = digit_from_value c d.0 in (omega arith, omega arith)), digits_are_plain cs d.1)

pub decimal_is_plain : (k : ℕ) → k < 10000 → IsPlain (decimal k)
decimal_is_plain k below = digits_are_plain (decimal k) (decimal_is_IsNumeral k (omega arith)).0.1

pub file_is_plain : (k : ℕ) → k < 10000 → IsPlain (file_of k)
file_is_plain k below =
    (inl (omega arith, omega arith), (inr (omega arith, omega arith), (inl (omega arith, omega arith), (inr (omega arith, omega arith), decimal_is_plain k below))))

pub class_is_plain : (k : ℕ) → k < 10000 → IsPlain (class_of k)
class_is_plain k below = (inr (omega arith, omega arith), decimal_is_plain k below)

pub true_is_plain : IsPlain (codes "true")
true_is_plain = (inr (omega arith, omega arith), (inr (omega arith, omega arith), (inr (omega arith, omega arith), (inr (omega arith, omega arith), tt))))

pub mode_is_plain : IsPlain (codes "644")
mode_is_plain = (inl (omega arith, omega arith), (inl (omega arith, omega arith), (inl (omega arith, omega arith), tt)))

-- ---- in quotes

closes_step : (b : ℕ) (xs : List ℕ) → (b == 34) ≡ false → (b == 92) ≡ false → IsTrue (closes 34 false xs) → IsTrue (closes 34 false (b ∷ xs))
closes_step b xs quote backslash h = rw (quote, backslash) h

closes_plain : (content : List ℕ) → IsPlain content → IsTrue (closes 34 false (content ++ 34 ∷ []))
closes_plain [] p = refl
closes_plain (b ∷ bs) p =
    closes_step b (bs ++ 34 ∷ []) (other_byte b 34 p.0 (inl (omega arith))) (other_byte b 92 p.0 (inr (omega arith, omega arith))) (closes_plain bs p.1)

pub quoted_plain : (content : List ℕ) → IsPlain content → IsTrue (is_quoted (quoted content))
quoted_plain content p = closes_plain content p

unescaped_step : (b : ℕ) (xs : List ℕ) → (b == 92) ≡ false → unescaped false (b ∷ xs) ≡ b ∷ unescaped false xs
unescaped_step b xs backslash = rw (backslash) refl

unescaped_plain : (content : List ℕ) → IsPlain content → unescaped false content ≡ content
unescaped_plain [] p = refl
unescaped_plain (b ∷ bs) p =
    unescaped_step b bs (other_byte b 92 p.0 (inr (omega arith, omega arith))) ∙ ap (λ x. b ∷ x) (unescaped_plain bs p.1)

pub content_plain : (content : List ℕ) → IsPlain content → content_of (quoted content) ≡ content
content_plain content p =
    let long : length (34 ∷ content ++ 34 ∷ []) - 2 ≡ length content = omega (arith, length-append content (34 ∷ [])) in
    ap (λ n. unescaped false (take n (content ++ 34 ∷ []))) long
    ∙ (ap (unescaped false) (take_at content (34 ∷ []) (length content) refl) ∙ unescaped_plain content p)

-- ---- places

pub record OnLine (line : ℕ) (place : Place) : Type 0 where
  pub file_is : place.file ≡ 0
  pub line_is : place.line ≡ line

past_step : (line b : ℕ) (place : Place) → (b == 10) ≡ false → OnLine line place → OnLine line (place_past place b)
past_step line b place other on = record { file_is = rw other on.file_is; line_is = rw other on.line_is }

past_plain : (line : ℕ) (content : List ℕ) (place : Place) → IsPlain content → OnLine line place → OnLine line (place_after place (content ++ 34 ∷ []))
past_plain line [] place p on = record { file_is = on.file_is; line_is = on.line_is }
past_plain line (b ∷ bs) place p on = past_plain line bs (place_past place b) p.1 (past_step line b place (other_byte b 10 p.0 (inl (omega arith))) on)

-- behind a plain text in quotes
pub past_quoted : (line : ℕ) (content : List ℕ) (place : Place) → IsPlain content → OnLine line place → OnLine line (place_after place (quoted content))
past_quoted line content place p on =
    past_plain line content (place_past place 34) p (record { file_is = on.file_is; line_is = on.line_is })
