-- A number that can't be read is none of a demo.
use Rattle.std.proofs.Common.{◌≡◌, ℕ, ◌^◌, ◌<◌, ◌≤◌, ◌&&◌, nat_le, List, length, ltb, true, false, Bool, None, Some, cond, Err, sym, ap, ◌∙◌, ⊎_elim, arith}
use Rattle.std.proofs.lemmas.Bool.{and_parts, cases_lt}
use Rattle.std.proofs.lemmas.Bool.Decides.{nat_tests}
use Rattle.std.proofs.lemmas.Str.Parse.{parse_digits}
use Rattle.std.specs.Str.{all_ascii_digits}
use Rattle.std.specs.Str.Parse.{ParsesUnsigned, digits_value}
use Rattle.cfa_base.specs.Decimals.{is_decimal}
use Rattle.cfa_base.specs.lemmas.Numerals.{numerals}
use Rattle.cfa_words.specs.Demos.{is_demo_number, demo_number}

digits_of : (ds : List ℕ) → is_decimal ds ≡ true → (0 < length ds) × (all_ascii_digits ds ≡ true)
digits_of ds is =
    let outer = and_parts (ltb 0 (length ds) && all_ascii_digits ds) _ is in
    let inner = and_parts (ltb 0 (length ds)) (all_ascii_digits ds) outer.0 in
    (grind (arith, nat_tests, inner.0), inner.1)

too_great : (text : List ℕ) → 2 ^ 32 ≤ digits_value 10 text → is_demo_number text ≡ false
too_great text past =
    let over : nat_le (digits_value 10 text) 10000 ≡ false = grind (arith, nat_tests, past) in
    grind (arith, over)

pub no_number : (E : Type 0) (text bytes : List ℕ) (e : E) → bytes ≡ text → is_decimal bytes ≡ true → ParsesUnsigned {E = E} 32 10 text (Err e) → None ≡ demo_number text
no_number E text bytes e same is p =
    let digits = digits_of text (sym (ap is_decimal same) ∙ is) in
    let no = parse_digits numerals {E = E} 32 text (Err e) p digits.1 in
    let past : 2 ^ 32 ≤ digits_value 10 text = ⊎_elim (λ below. absurd (no (digits.0, below))) (λ above. above) (cases_lt (digits_value 10 text) (2 ^ 32)) in
    sym (ap (λ (b : Bool). cond b (Some (digits_value 10 text)) None) (too_great text past))
