-- The bytes of a text in UTF-8, and which of them are those of its characters.
use Rattle.std.proofs.Common.{get_or, ◌≡◌, ℕ, ◌+◌, ◌/◌, ◌<◌, ◌≤◌, suc, List, [], ◌∷◌, Bool, true, false, ltb, refl, sym, ap, ◌∙◌, subst, ⊎_elim, arith, nat_eq, chars, IsUtf8}
use Rattle.std.proofs.lemmas.Bool.{cond_both, and_parts, or_parts, or_from, ltb-true, ne_eqb, cases_lt}
use Rattle.std.proofs.lemmas.List.Elements.{All-nil, All-cons, All-append, All-from_get_or}
use Rattle.std.proofs.lemmas.List.Folds.{list_any_none}
use Rattle.std.proofs.lemmas.Str.{encodes-chars, NoCharPasses-byte, chars-IsAscii}
use Rattle.std.specs.List.{list_any}
use Rattle.std.specs.Str.{NonePass, IsAscii}
use lib.Utf8.{scalar, scalars, scalar_cases, next, encode, encodes}
use Rattle.cfa_edit_proof.specs.Plain.{is_in, share, shares_character}
use Rattle.cfa_edit_proof.proofs.PlainTexts.{AllPlain, all_ascii}
use Rattle.cfa_edit_proof.proofs.Searches.{AreBytes}

-- ---- bytes

abbrev IsByte : ℕ → Type 0
IsByte b = b < 256

one_byte : (a : ℕ) → a < 256 → AreBytes (a ∷ [])
one_byte a h = All-cons IsByte a [] h (All-nil IsByte)

two_bytes : (a b : ℕ) → a < 256 → b < 256 → AreBytes (a ∷ b ∷ [])
two_bytes a b h i = All-cons IsByte a (b ∷ []) h (one_byte b i)

three_bytes : (a b c : ℕ) → a < 256 → b < 256 → c < 256 → AreBytes (a ∷ b ∷ c ∷ [])
three_bytes a b c h i j = All-cons IsByte a (b ∷ c ∷ []) h (two_bytes b c i j)

four_bytes : (a b c d : ℕ) → a < 256 → b < 256 → c < 256 → d < 256 → AreBytes (a ∷ b ∷ c ∷ d ∷ [])
four_bytes a b c d h i j k = All-cons IsByte a (b ∷ c ∷ d ∷ []) h (three_bytes b c d i j k)

encode_bytes : (c : ℕ) → c < 1114112 → AreBytes (encode c)
unfolding encode
encode_bytes c fits =
    cond_both (ltb c 128) (c ∷ []) _ AreBytes (λ low. let here = ltb-true c 128 low in one_byte c (omega arith))
    (λ _. cond_both (ltb c 2048) ((192 + c / 64) ∷ next c ∷ []) _ AreBytes (λ low. let here = ltb-true c 2048 low in two_bytes (192 + c / 64) (next c) (omega arith) (omega arith))
    (λ _. cond_both (ltb c 65536) ((224 + c / 4096) ∷ next (c / 64) ∷ next c ∷ []) ((240 + c / 262144) ∷ next (c / 4096) ∷ next (c / 64) ∷ next c ∷ []) AreBytes (λ low. let here = ltb-true c 65536 low in three_bytes (224 + c / 4096) (next (c / 64)) (next c) (omega arith) (omega arith) (omega arith))
    (λ _. four_bytes (240 + c / 262144) (next (c / 4096)) (next (c / 64)) (next c) (omega arith) (omega arith) (omega arith) (omega arith))))

scalar_bound : (c : ℕ) → scalar c ≡ true → c < 1114112
scalar_bound c s = ⊎_elim (λ low. omega arith) (λ high. high.1) (scalar_cases c s)

encodes_bytes : (cs : List ℕ) → scalars cs ≡ true → AreBytes (encodes cs)
encodes_bytes [] all = All-nil IsByte
encodes_bytes (c ∷ cs) all =
    let parts = and_parts (scalar c) (scalars cs) all in
    All-append IsByte (encode c) (encodes cs) (encode_bytes c (scalar_bound c parts.0)) (encodes_bytes cs parts.1)

pub text_bytes : (text : List ℕ) → IsUtf8 text → AreBytes text
text_bytes text (cs, (all, same)) = subst AreBytes same (encodes_bytes cs all)

-- ---- an ASCII byte is a character

none_pass : (p : ℕ → Bool) (cs : List ℕ) → list_any p cs ≡ false → NonePass p cs
none_pass p [] none = tt
none_pass p (c ∷ cs) none =
    let both = or_parts (p c) (list_any p cs) none in
    (both.0, none_pass p cs both.1)

not_in_ascii : (p : List ℕ) → IsAscii p → (b : ℕ) → 128 ≤ b → is_in p b ≡ false
not_in_ascii [] ascii b high = refl
not_in_ascii (d ∷ ds) ascii b high =
    let low : d < 128 = ascii 0 in
    or_from (nat_eq b d) (is_in ds b) (ne_eqb b d (λ same. omega (arith, low, high, same))) (not_in_ascii ds (λ i. ascii (suc i)) b high)

-- where no character of a text is one of a plain text, no byte is
pub bytes_apart : (value text : List ℕ) → IsUtf8 value → AllPlain text → shares_character value text ≡ false → share value text ≡ false
bytes_apart value text utf8 plain none =
    let ascii = all_ascii text plain in
    let apart : share (chars value) text ≡ false = ap (share (chars value)) (sym (chars-IsAscii text ascii)) ∙ none in
    list_any_none (is_in text) value
    (All-from_get_or (λ b. is_in text b ≡ false) value 0
    (λ i lt. ⊎_elim
    (λ (low : get_or value i 0 < 128). NoCharPasses-byte (is_in text) value i (chars value, encodes-chars value utf8, none_pass (is_in text) (chars value) apart) lt low)
    (λ (high : 128 ≤ get_or value i 0). not_in_ascii text ascii (get_or value i 0) high)
    (cases_lt (get_or value i 0) 128)))
