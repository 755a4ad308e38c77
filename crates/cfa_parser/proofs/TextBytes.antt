-- What the spelling of a token means is UTF-8 where the spelling is.
use Rattle.std.proofs.Common.{◌≡◌, ℕ, ◌+◌, ◌-◌, ◌<◌, ◌≤◌, Bool, true, false, cond, if◌then◌else◌, ◌||◌, ◌&&◌, ◌==◌, IsTrue, List, [], ◌∷◌, ◌++◌, length, take, drop, get_or, refl, ap, ◌∙◌, sym, subst, append-nil, arith, ltb, length-append}
use Rattle.std.specs.Str.{IsUtf8}
use Rattle.std.proofs.lemmas.Bool.{ltb-true, ltb-false, le-ltb, false≢true, and_parts}
use Rattle.std.proofs.lemmas.Str.{IsUtf8-nil, IsUtf8-append, IsUtf8-between, IsCharBoundary-after_ascii, IsCharBoundary-before_ascii, encode_ascii, length-encode, len_utf8_bounds}
use Rattle.cfa_base.specs.declared.tokens.Kind.TheVariants.{Text}
use Rattle.cfa_base.specs.Lexing.{is_quote, closes, is_quoted, is_reference, is_escapable, unescaped, content_of, name_of}
use Rattle.cfa_base.specs.lemmas.Boundaries.{ascii_last, ends_ascii, spelled_ends}
use Rattle.cfa_base.specs.lemmas.Taking.{Brackets, parentheses, braces, reference_of}
use borrow.Author.Tests.{ne_eqb}
use lib.Utf8.{scalar, scalars, low_scalar, encode, encodes}

-- bytes of characters past ASCII
abbrev High : List ℕ → Type 0
High [] = Unit {0}
High (x ∷ xs) = (128 ≤ x) × High xs

high_of : (s t u : Bool) (one two three four : List ℕ) → s ≡ false → High two → High three → High four → High (cond s one (cond t two (cond u three four)))
high_of true t u one two three four e h i j = absurd (false≢true (sym e))
high_of false true u one two three four e h i j = h
high_of false false true one two three four e h i j = i
high_of false false false one two three four e h i j = j

encode_high : (c : ℕ) → 128 ≤ c → High (encode c)
unfolding encode
encode_high c past =
    high_of (ltb c 128) (ltb c 2048) (ltb c 65536) _ _ _ _ (le-ltb c 128 past)
    (omega arith, (omega arith, tt)) (omega arith, (omega arith, (omega arith, tt))) (omega arith, (omega arith, (omega arith, (omega arith, tt))))

other_than : (x n : ℕ) → 128 ≤ x → n < 128 → (x == n) ≡ false
other_than x n high low = ne_eqb x n (λ (e : x ≡ n). omega (arith, e, high, low))

not_escapable : (x : ℕ) → 128 ≤ x → is_escapable x ≡ false
not_escapable x high =
    ap (λ t. (t || (x == 39)) || (x == 92)) (other_than x 34 high (omega arith))
    ∙ (ap (λ t. t || (x == 92)) (other_than x 39 high (omega arith)) ∙ other_than x 92 high (omega arith))

unescaped_high : (xs rest : List ℕ) → High xs → unescaped false (xs ++ rest) ≡ xs ++ unescaped false rest
unescaped_high [] rest h = refl
unescaped_high (x ∷ xs) rest h =
    ap (λ t. (if t then [] else x ∷ []) ++ unescaped t (xs ++ rest)) (other_than x 92 h.0 (omega arith)) ∙ ap (λ z. x ∷ z) (unescaped_high xs rest h.1)

behind_high : (xs rest : List ℕ) → 0 < length xs → High xs → unescaped true (xs ++ rest) ≡ 92 ∷ xs ++ unescaped false rest
behind_high [] rest some h = absurd (omega (arith, some))
behind_high (x ∷ xs) rest some h =
    ap (λ t. (if t then x ∷ [] else 92 ∷ x ∷ []) ++ unescaped false (xs ++ rest)) (not_escapable x h.0) ∙ ap (λ z. 92 ∷ x ∷ z) (unescaped_high xs rest h.1)

scalar_utf8 : (c : ℕ) → scalar c ≡ true → IsUtf8 (encode c)
scalar_utf8 c h = (c ∷ [], (ap (λ t. t && true) h, append-nil (encode c)))

ascii_utf8 : (c : ℕ) → c < 128 → IsUtf8 (c ∷ [])
ascii_utf8 c h = subst IsUtf8 (encode_ascii c h) (scalar_utf8 c (low_scalar c (omega arith)))

either_utf8 : (t : Bool) (xs ys : List ℕ) → IsUtf8 xs → IsUtf8 ys → IsUtf8 (if t then xs else ys)
either_utf8 true xs ys h i = h
either_utf8 false xs ys h i = i

low_utf8 : (behind : Bool) (c : ℕ) (rest : List ℕ) → c < 128 → ((behind : Bool) → IsUtf8 (unescaped behind rest)) → IsUtf8 (unescaped behind (c ∷ rest))
low_utf8 true c rest low later =
    IsUtf8-append (if is_escapable c then c ∷ [] else 92 ∷ c ∷ []) (unescaped false rest)
    (either_utf8 (is_escapable c) (c ∷ []) (92 ∷ c ∷ []) (ascii_utf8 c low) (IsUtf8-append (92 ∷ []) (c ∷ []) (ascii_utf8 92 (omega arith)) (ascii_utf8 c low))) (later false)
low_utf8 false c rest low later =
    IsUtf8-append (if c == 92 then [] else c ∷ []) (unescaped (c == 92) rest) (either_utf8 (c == 92) [] (c ∷ []) IsUtf8-nil (ascii_utf8 c low)) (later (c == 92))

high_utf8 : (behind : Bool) (xs rest : List ℕ) → 0 < length xs → High xs → IsUtf8 xs → IsUtf8 (unescaped false rest) → IsUtf8 (unescaped behind (xs ++ rest))
high_utf8 true xs rest some h utf8 later =
    subst IsUtf8 (sym (behind_high xs rest some h)) (IsUtf8-append (92 ∷ []) (xs ++ unescaped false rest) (ascii_utf8 92 (omega arith)) (IsUtf8-append xs (unescaped false rest) utf8 later))
high_utf8 false xs rest some h utf8 later = subst IsUtf8 (sym (unescaped_high xs rest h)) (IsUtf8-append xs (unescaped false rest) utf8 later)

char_utf8 : (behind low : Bool) (c : ℕ) (rest : List ℕ) → ltb c 128 ≡ low → scalar c ≡ true → ((behind : Bool) → IsUtf8 (unescaped behind rest)) → IsUtf8 (unescaped behind (encode c ++ rest))
char_utf8 behind true c rest is s later =
    let below : c < 128 = ltb-true c 128 is in
    subst (λ z. IsUtf8 (unescaped behind (z ++ rest))) (sym (encode_ascii c below)) (low_utf8 behind c rest below later)
char_utf8 behind false c rest is s later =
    let past : 128 ≤ c = ltb-false c 128 is in
    high_utf8 behind (encode c) rest (omega (arith, length-encode c, len_utf8_bounds c)) (encode_high c past) (scalar_utf8 c s) (later false)

encodes_utf8 : (cs : List ℕ) → scalars cs ≡ true → (behind : Bool) → IsUtf8 (unescaped behind (encodes cs))
encodes_utf8 [] h false = IsUtf8-nil
encodes_utf8 [] h true = ascii_utf8 92 (omega arith)
encodes_utf8 (c ∷ cs) h behind =
    let parts = and_parts (scalar c) (scalars cs) h in
    char_utf8 behind (ltb c 128) c (encodes cs) refl parts.0 (encodes_utf8 cs parts.1)

unescaped_utf8 : (bytes : List ℕ) → IsUtf8 bytes → IsUtf8 (unescaped false bytes)
unescaped_utf8 bytes utf8 = subst (λ z. IsUtf8 (unescaped false z)) utf8.1.1 (encodes_utf8 utf8.0 utf8.1.0 false)

-- what stands between some ASCII bytes and a last one
inner_utf8 : (text : List ℕ) (k : ℕ) → IsUtf8 text → k + 2 ≤ length text → get_or text k 0 < 128 → IsTrue (ends_ascii text) → IsUtf8 (take (length text - (k + 2)) (drop (k + 1) text))
inner_utf8 text k utf8 long front ends =
    let last = ascii_last text ends in
    let cut : (length text - 1) - (k + 1) ≡ length text - (k + 2) = omega arith in
    subst (λ (n : ℕ). IsUtf8 (take n (drop (k + 1) text))) cut
    (IsUtf8-between text (k + 1) (length text - 1) utf8 (omega arith) (IsCharBoundary-after_ascii text k utf8 (omega arith) front) (IsCharBoundary-before_ascii text (length text - 1) (omega (arith, last.0)) last.1))

quote_ascii : (b : ℕ) → is_quote b ≡ true → b < 128
quote_ascii b is = by_test (ltb b 128) refl
  where
    by_test : (t : Bool) → ltb b 128 ≡ t → b < 128
    by_test true e = ltb-true b 128 e
    by_test false e =
        let high : 128 ≤ b = ltb-false b 128 e in
        let none : is_quote b ≡ false = ap (λ t. t || (b == 39)) (other_than b 34 high (omega arith)) ∙ other_than b 39 high (omega arith) in
        absurd (false≢true (sym none ∙ is))

quoted_utf8 : (text : List ℕ) → IsUtf8 text → IsTrue (is_quoted text) → IsUtf8 (take (length text - 2) (drop 1 text))
quoted_utf8 [] utf8 quoted = absurd (false≢true quoted)
quoted_utf8 (b ∷ []) utf8 quoted = absurd (false≢true (and_parts (is_quote b) false quoted).1)
quoted_utf8 (b ∷ c ∷ bs) utf8 quoted =
    inner_utf8 (b ∷ c ∷ bs) 0 utf8 (omega arith) (quote_ascii b (and_parts (is_quote b) (closes b false (c ∷ bs)) quoted).0) (spelled_ends Text (b ∷ c ∷ bs) quoted)

content_utf8 : (text : List ℕ) → IsUtf8 text → IsTrue (is_quoted text) → IsUtf8 (content_of text)
content_utf8 text utf8 quoted = unescaped_utf8 (take (length text - 2) (drop 1 text)) (quoted_utf8 text utf8 quoted)

opening_ascii : {opening closing : ℕ} → Brackets opening closing → opening < 128
opening_ascii parentheses = omega arith
opening_ascii braces = omega arith

closing_ends : (xs : List ℕ) {opening closing : ℕ} → Brackets opening closing → IsTrue (ends_ascii (xs ++ closing ∷ []))
closing_ends [] parentheses = refl
closing_ends [] braces = refl
closing_ends (x ∷ []) parentheses = refl
closing_ends (x ∷ []) braces = refl
closing_ends (x ∷ y ∷ xs) brackets = closing_ends (y ∷ xs) brackets

reference_utf8 : (sign : ℕ) (text : List ℕ) → IsUtf8 text → IsTrue (is_reference sign text) → IsUtf8 (name_of text)
reference_utf8 sign text utf8 reference =
    let parts = reference_of sign text reference in
    let whole : List ℕ = sign ∷ parts.opening ∷ name_of text ++ parts.closing ∷ [] in
    let long : 1 + 2 ≤ length text = subst (λ (z : List ℕ). 1 + 2 ≤ length z) (sym parts.is) (omega (arith, length-append (name_of text) (parts.closing ∷ []))) in
    let front : get_or text 1 0 < 128 = subst (λ (z : List ℕ). get_or z 1 0 < 128) (sym parts.is) (opening_ascii parts.brackets) in
    let ends : IsTrue (ends_ascii text) = subst (λ (z : List ℕ). IsTrue (ends_ascii z)) (sym parts.is) (closing_ends (sign ∷ parts.opening ∷ name_of text) parts.brackets) in
    inner_utf8 text 1 utf8 long front ends

-- the slices of the code

pub cut_content : (text bytes content : List ℕ) → bytes ≡ text → content ≡ unescaped false (take ((length text - 1) - 1) (drop 1 bytes)) → content ≡ content_of text
cut_content text bytes content same is =
    is ∙ (ap (λ z. unescaped false (take ((length text - 1) - 1) (drop 1 z))) same
    ∙ ap (λ n. unescaped false (take n (drop 1 text))) (let e : (length text - 1) - 1 ≡ length text - 2 = omega arith in e))

pub cut_content_utf8 : (text bytes content : List ℕ) → bytes ≡ text → content ≡ unescaped false (take ((length text - 1) - 1) (drop 1 bytes)) → IsUtf8 text → IsTrue (is_quoted text) → IsUtf8 content
cut_content_utf8 text bytes content same is utf8 quoted = subst IsUtf8 (sym (cut_content text bytes content same is)) (content_utf8 text utf8 quoted)

pub cut_name : (text bytes name : List ℕ) → bytes ≡ text → name ≡ take ((length text - 1) - 2) (drop 2 bytes) → name ≡ name_of text
cut_name text bytes name same is =
    is ∙ (ap (λ z. take ((length text - 1) - 2) (drop 2 z)) same
    ∙ ap (λ n. take n (drop 2 text)) (let e : (length text - 1) - 2 ≡ length text - 3 = omega arith in e))

pub cut_name_utf8 : (sign : ℕ) (text bytes name : List ℕ) → bytes ≡ text → name ≡ take ((length text - 1) - 2) (drop 2 bytes) → IsUtf8 text → IsTrue (is_reference sign text) → IsUtf8 name
cut_name_utf8 sign text bytes name same is utf8 reference = subst IsUtf8 (sym (cut_name text bytes name same is)) (reference_utf8 sign text utf8 reference)
