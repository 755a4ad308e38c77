-- The escaped field of a text is its percent-encoding by the code's set, so that decoding gives the text back.
use Rattle.std.proofs.Common.{Fits, w8, get_or, ◌≡◌, ℕ, ◌+◌, ◌/◌, ◌%◌, ◌<◌, ◌≤◌, List, [], ◌∷◌, ◌++◌, true, false, not, ltb, All, refl, sym, ap, ◌∙◌, subst, ⊎_elim, arith}
use Rattle.std.proofs.lemmas.Bool.{cases_Bool, cond_both, and_parts, agree_below, agree_below_at, ltb-true}
use Rattle.std.proofs.lemmas.Bool.Decides.{nat_tests}
use Rattle.std.proofs.lemmas.List.Elements.{All-nil, All-cons, All-head, All-tail, All-append, All-from_get_or}
use Rattle.std.specs.Fmt.{digit_glyph}
use Rattle.std.specs.Str.{IsUtf8}
use lib.Utf8.{scalar, scalars, scalar_cases, next, encode, encodes}
use Rattle.percent_encoding.specs.AsciiSet.{contains, should_percent_encode}
use Rattle.percent_encoding.specs.Percent.{percent_encode_byte, percent_encode, percent_decode}
use Rattle.percent_encoding.proofs.PercentLemmas.{IsByte, percent_encode-nil, percent_encode_escaped, percent_encode_kept, round_trip}
use Rattle.cfa_base.specs.declared.escapes.TheConstants.{ESCAPED}
use Rattle.cfa_base.specs.Escapes.{is_kept, escape_of, escaped}
use Rattle.cfa_base.specs.lemmas.Escapes.{escaped-nil, escaped_kept, escaped_other}

set_agrees : agree_below (contains ESCAPED) (λ b. not (is_kept b)) 128 ≡ true
set_agrees = refl

outside_ascii : (b : ℕ) → 128 ≤ b → is_kept b ≡ false
outside_ascii b high = grind (arith, nat_tests)

kept_is_ascii : (b : ℕ) → is_kept b ≡ true → b < 128
kept_is_ascii b kept = grind (arith, nat_tests)

kept_by_set : (b : ℕ) → is_kept b ≡ true → should_percent_encode ESCAPED b ≡ false
unfolding should_percent_encode
kept_by_set b kept =
    let ascii = kept_is_ascii b kept in
    let out : contains ESCAPED b ≡ not (is_kept b) = agree_below_at (contains ESCAPED) (λ b. not (is_kept b)) 128 b set_agrees ascii in
    let none : contains ESCAPED b ≡ false = out ∙ ap not kept in
    rw none (grind (arith, nat_tests))

escaped_by_set : (b : ℕ) → is_kept b ≡ false → should_percent_encode ESCAPED b ≡ true
unfolding should_percent_encode
escaped_by_set b other =
    ⊎_elim
    (λ below.
    let ascii = ltb-true b 128 below in
    let out : contains ESCAPED b ≡ not (is_kept b) = agree_below_at (contains ESCAPED) (λ b. not (is_kept b)) 128 b set_agrees ascii in
    let one : contains ESCAPED b ≡ true = out ∙ ap not other in
    rw one (grind (arith, nat_tests)))
    (λ above. grind (arith, nat_tests))
    (cases_Bool (ltb b 128))

escape_is : (b : ℕ) → b < 256 → percent_encode_byte b ≡ escape_of b
unfolding percent_encode_byte escape_of
escape_is b small =
    let high : b / 16 % 16 ≡ b / 16 = omega arith in
    ap (λ d. 37 ∷ digit_glyph true d ∷ digit_glyph true (b % 16) ∷ []) high

pub percent_encode-escaped : (text : List ℕ) → All IsByte text → percent_encode ESCAPED text ≡ escaped text
percent_encode-escaped [] bytes = percent_encode-nil ESCAPED ∙ sym escaped-nil
percent_encode-escaped (b ∷ bs) bytes =
    let rest = percent_encode-escaped bs (All-tail IsByte b bs bytes) in
    let small = All-head IsByte b bs bytes in
    ⊎_elim
    (λ kept. percent_encode_kept ESCAPED b bs (kept_by_set b kept) ∙ ap (λ x. b ∷ x) rest ∙ sym (escaped_kept b bs kept))
    (λ other. percent_encode_escaped ESCAPED b bs (escaped_by_set b other) ∙ ap (λ x. x ++ percent_encode ESCAPED bs) (escape_is b small) ∙ ap (λ x. escape_of b ++ x) rest ∙ sym (escaped_other b bs other))
    (cases_Bool (is_kept b))

one_byte : (a : ℕ) → a < 256 → All IsByte (a ∷ [])
one_byte a h = All-cons IsByte a [] h (All-nil IsByte)

two_bytes : (a b : ℕ) → a < 256 → b < 256 → All IsByte (a ∷ b ∷ [])
two_bytes a b h i = All-cons IsByte a (b ∷ []) h (one_byte b i)

three_bytes : (a b c : ℕ) → a < 256 → b < 256 → c < 256 → All IsByte (a ∷ b ∷ c ∷ [])
three_bytes a b c h i j = All-cons IsByte a (b ∷ c ∷ []) h (two_bytes b c i j)

four_bytes : (a b c d : ℕ) → a < 256 → b < 256 → c < 256 → d < 256 → All IsByte (a ∷ b ∷ c ∷ d ∷ [])
four_bytes a b c d h i j k = All-cons IsByte a (b ∷ c ∷ d ∷ []) h (three_bytes b c d i j k)

encode_bytes : (c : ℕ) → c < 1114112 → All IsByte (encode c)
unfolding encode
encode_bytes c fits =
    let P : List ℕ → Type 0 = All IsByte in
    cond_both (ltb c 128) (c ∷ []) _ P (λ low. let here = ltb-true c 128 low in one_byte c (omega arith))
    (λ _. cond_both (ltb c 2048) ((192 + c / 64) ∷ next c ∷ []) _ P (λ low. let here = ltb-true c 2048 low in two_bytes (192 + c / 64) (next c) (omega arith) (omega arith))
    (λ _. cond_both (ltb c 65536) ((224 + c / 4096) ∷ next (c / 64) ∷ next c ∷ []) ((240 + c / 262144) ∷ next (c / 4096) ∷ next (c / 64) ∷ next c ∷ []) P (λ low. let here = ltb-true c 65536 low in three_bytes (224 + c / 4096) (next (c / 64)) (next c) (omega arith) (omega arith) (omega arith))
    (λ _. four_bytes (240 + c / 262144) (next (c / 4096)) (next (c / 64)) (next c) (omega arith) (omega arith) (omega arith) (omega arith))))

scalar_bound : (c : ℕ) → scalar c ≡ true → c < 1114112
scalar_bound c s = ⊎_elim (λ low. omega arith) (λ high. high.1) (scalar_cases c s)

encodes_bytes : (cs : List ℕ) → scalars cs ≡ true → All IsByte (encodes cs)
encodes_bytes [] all = All-nil IsByte
encodes_bytes (c ∷ cs) all =
    let parts = and_parts (scalar c) (scalars cs) all in
    All-append IsByte (encode c) (encodes cs) (encode_bytes c (scalar_bound c parts.0)) (encodes_bytes cs parts.1)

pub text_bytes : (text : List ℕ) → IsUtf8 text → All IsByte text
text_bytes text (cs, (all, same)) = subst (All IsByte) same (encodes_bytes cs all)

pub bytes_fit : (text : List ℕ) → ((i : ℕ) → Fits w8 (get_or text i 0)) → All IsByte text
bytes_fit text fit = All-from_get_or IsByte text 0 (λ i h. omega (arith, fit i))

-- a field decodes to its text
pub percent_decode-escaped : (text : List ℕ) → IsUtf8 text → percent_decode (escaped text) ≡ text
percent_decode-escaped text utf8 =
    let bytes = text_bytes text utf8 in
    ap percent_decode (sym (percent_encode-escaped text bytes)) ∙ round_trip ESCAPED text refl bytes
