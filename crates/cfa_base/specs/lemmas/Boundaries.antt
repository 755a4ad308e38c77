-- A text in UTF-8 may be cut behind a token, since a token ends with an ASCII byte.
use Rattle.std.proofs.Common.{◌≡◌, ℕ, suc, ◌+◌, ◌-◌, ◌≤◌, ◌<◌, Bool, true, false, ◌&&◌, ◌||◌, List, [], ◌∷◌, ◌++◌, length, get_or, take, refl, ap, sym, ◌∙◌, subst, ⊎_elim, arith}
use Rattle.std.specs.Prelude.{IsTrue, ◌==◌, nat_lt, nat_le}
use Rattle.std.specs.List.{list_all}
use Rattle.std.specs.Str.{IsUtf8, IsCharBoundary, bytes_eq}
use Rattle.std.proofs.lemmas.Bool.{false≢true, and_parts, or_cases, leb-true, lt-ltb, ltb-true, eqb-true, cases_Bool, cond-true, cond-false}
use Rattle.std.proofs.lemmas.Str.{IsCharBoundary-after_ascii}
use Rattle.std.proofs.lemmas.List.{get_or-take, length-take-le}
use Rattle.cfa_base.specs.declared.tokens.Kind.{Kind}
use Rattle.cfa_base.specs.declared.tokens.Kind.TheVariants.{Word, Text, Ref, ListRef, FatArrow, ThinArrow, DoubleColon, Colon, Comma, Semicolon, OpenBrace, CloseBrace, OpenParen, CloseParen, Bang, Dot, And, Or}
use Rattle.cfa_base.specs.Lexing.{is_word_byte, is_quote, is_quoted, closes, name_of, is_reference, spells}
use Rattle.cfa_base.specs.lemmas.Taking.{reference_of, Brackets, parentheses, braces}
use Rattle.cfa_base.specs.lemmas.EqualTexts.{is_text}

-- the last byte is ASCII
abbrev pub ends_ascii : List ℕ → Bool
ends_ascii [] = false
ends_ascii (b ∷ []) = nat_lt b 128
ends_ascii (b ∷ c ∷ bs) = ends_ascii (c ∷ bs)

word_byte_is_ascii : (b : ℕ) → IsTrue (is_word_byte b) → IsTrue (nat_lt b 128)
word_byte_is_ascii b word = lt-ltb b 128 (⊎_elim
    (λ digit. omega (arith, leb-true b 57 (and_parts (nat_le 48 b) (nat_le b 57) digit).1))
    (λ other. ⊎_elim
    (λ upper. omega (arith, leb-true b 90 (and_parts (nat_le 65 b) (nat_le b 90) upper).1))
    (λ rest. ⊎_elim
    (λ underscore. omega (arith, eqb-true b 95 underscore))
    (λ lower. omega (arith, leb-true b 122 (and_parts (nat_le 97 b) (nat_le b 122) lower).1))
    (or_cases (b == 95) (nat_le 97 b && nat_le b 122) rest))
    (or_cases (nat_le 65 b && nat_le b 90) ((b == 95) || (nat_le 97 b && nat_le b 122)) other))
    (or_cases (nat_le 48 b && nat_le b 57) ((nat_le 65 b && nat_le b 90) || ((b == 95) || (nat_le 97 b && nat_le b 122))) word))

word_ends : (b : ℕ) (bs : List ℕ) → IsTrue (list_all is_word_byte (b ∷ bs)) → IsTrue (ends_ascii (b ∷ bs))
word_ends b [] word = word_byte_is_ascii b (and_parts (is_word_byte b) true word).0
word_ends b (c ∷ bs) word = word_ends c bs (and_parts (is_word_byte b) (list_all is_word_byte (c ∷ bs)) word).1

closing_ends : (quote : ℕ) (behind : Bool) (b : ℕ) (bs : List ℕ) → IsTrue (nat_lt quote 128) → IsTrue (closes quote behind (b ∷ bs)) → IsTrue (ends_ascii (b ∷ bs))
closing_ends quote true b [] ascii closed = absurd (false≢true closed)
closing_ends quote true b (c ∷ bs) ascii closed = closing_ends quote false c bs ascii closed
closing_ends quote false b [] ascii closed =
    ⊎_elim
    (λ is. subst (λ (x : ℕ). IsTrue (nat_lt x 128)) (sym (eqb-true b quote is)) ascii)
    (λ isnt. absurd (false≢true (sym (cond-false (b == quote) true (closes quote (b == 92) []) isnt) ∙ closed)))
    (cases_Bool (b == quote))
closing_ends quote false b (c ∷ bs) ascii closed =
    ⊎_elim
    (λ is. absurd (false≢true (sym (cond-true (b == quote) false (closes quote (b == 92) (c ∷ bs)) is) ∙ closed)))
    (λ isnt. closing_ends quote (b == 92) c bs ascii (sym (cond-false (b == quote) false (closes quote (b == 92) (c ∷ bs)) isnt) ∙ closed))
    (cases_Bool (b == quote))

quote_is_ascii : (b : ℕ) → IsTrue (is_quote b) → IsTrue (nat_lt b 128)
quote_is_ascii b quote = lt-ltb b 128 (⊎_elim (λ double. omega (arith, eqb-true b 34 double)) (λ single. omega (arith, eqb-true b 39 single)) (or_cases (b == 34) (b == 39) quote))

text_ends : (text : List ℕ) → IsTrue (is_quoted text) → IsTrue (ends_ascii text)
text_ends [] quoted = absurd (false≢true quoted)
text_ends (b ∷ []) quoted = absurd (false≢true (and_parts (is_quote b) false quoted).1)
text_ends (b ∷ c ∷ bs) quoted = let parts = and_parts (is_quote b) (closes b false (c ∷ bs)) quoted in closing_ends b false c bs (quote_is_ascii b parts.0) parts.1

pushed_ends : (xs : List ℕ) (b : ℕ) → IsTrue (nat_lt b 128) → IsTrue (ends_ascii (xs ++ b ∷ []))
pushed_ends [] b ascii = ascii
pushed_ends (x ∷ []) b ascii = ascii
pushed_ends (x ∷ y ∷ xs) b ascii = pushed_ends (y ∷ xs) b ascii

bracket_is_ascii : {opening closing : ℕ} → Brackets opening closing → IsTrue (nat_lt closing 128)
bracket_is_ascii parentheses = refl
bracket_is_ascii braces = refl

reference_ends : (sign : ℕ) (text : List ℕ) → IsTrue (is_reference sign text) → IsTrue (ends_ascii text)
reference_ends sign text reference =
    let parts = reference_of sign text reference in
    subst (λ (x : List ℕ). IsTrue (ends_ascii x)) (sym parts.is) (pushed_ends (sign ∷ parts.opening ∷ name_of text) parts.closing (bracket_is_ascii parts.brackets))

symbol_ends : (text spelling : List ℕ) → IsTrue (ends_ascii spelling) → IsTrue (bytes_eq text spelling) → IsTrue (ends_ascii text)
symbol_ends text spelling ends same = subst (λ (x : List ℕ). IsTrue (ends_ascii x)) (sym (is_text text spelling same)) ends

pub spelled_ends : (kind : Kind) (text : List ℕ) → IsTrue (spells kind text) → IsTrue (ends_ascii text)
spelled_ends Word [] spelled = absurd (false≢true spelled)
spelled_ends Word (b ∷ bs) spelled = word_ends b bs spelled
spelled_ends Text text spelled = text_ends text spelled
spelled_ends Ref text spelled = reference_ends 36 text spelled
spelled_ends ListRef text spelled = reference_ends 64 text spelled
spelled_ends FatArrow text spelled = symbol_ends text _ refl spelled
spelled_ends ThinArrow text spelled = symbol_ends text _ refl spelled
spelled_ends DoubleColon text spelled = symbol_ends text _ refl spelled
spelled_ends Colon text spelled = symbol_ends text _ refl spelled
spelled_ends Comma text spelled = symbol_ends text _ refl spelled
spelled_ends Semicolon text spelled = symbol_ends text _ refl spelled
spelled_ends OpenBrace text spelled = symbol_ends text _ refl spelled
spelled_ends CloseBrace text spelled = symbol_ends text _ refl spelled
spelled_ends OpenParen text spelled = symbol_ends text _ refl spelled
spelled_ends CloseParen text spelled = symbol_ends text _ refl spelled
spelled_ends Bang text spelled = symbol_ends text _ refl spelled
spelled_ends Dot text spelled = symbol_ends text _ refl spelled
spelled_ends And text spelled = symbol_ends text _ refl spelled
spelled_ends Or text spelled = ⊎_elim (λ one. symbol_ends text (124 ∷ []) refl one) (λ two. symbol_ends text (124 ∷ 124 ∷ []) refl two) (or_cases (bytes_eq text (124 ∷ [])) (bytes_eq text (124 ∷ 124 ∷ [])) spelled)

pub ascii_last : (text : List ℕ) → IsTrue (ends_ascii text) → (0 < length text) × (get_or text (length text - 1) 0 < 128)
ascii_last [] ends = absurd (false≢true ends)
ascii_last (b ∷ []) ends = (omega arith, ltb-true b 128 ends)
ascii_last (b ∷ c ∷ bs) ends =
    let later = ascii_last (c ∷ bs) ends in
    let shift : length (b ∷ c ∷ bs) - 1 ≡ suc (length (c ∷ bs) - 1) = omega arith in
    (omega arith, subst (λ (n : ℕ). get_or (b ∷ c ∷ bs) n 0 < 128) (sym shift) later.1)

-- a text may be cut behind a front of it that spells a token
pub boundary_behind : (bytes : List ℕ) (kind : Kind) (n : ℕ) → IsUtf8 bytes → n ≤ length bytes → IsTrue (spells kind (take n bytes)) → IsCharBoundary bytes n
boundary_behind bytes kind n utf8 within spelled =
    let last = ascii_last (take n bytes) (spelled_ends kind (take n bytes) spelled) in
    let long : length (take n bytes) ≡ n = length-take-le n bytes within in
    let back : n - 1 + 1 ≡ n = omega arith in
    let before : n - 1 < n = omega arith in
    let byte : get_or bytes (n - 1) 0 < 128 = subst (λ (b : ℕ). b < 128) (ap (λ m. get_or (take n bytes) (m - 1) 0) long ∙ get_or-take n bytes (n - 1) 0 before) last.1 in
    subst (IsCharBoundary bytes) back (IsCharBoundary-after_ascii bytes (n - 1) utf8 (omega arith) byte)
