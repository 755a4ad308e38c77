-- Where a text that spells a token stands at the front of some bytes, what follows it tells whether it is the longest.
use Rattle.std.proofs.Common.{◌≡◌, ℕ, suc, ◌+◌, ◌≤◌, ◌<◌, Bool, true, false, ◌&&◌, ◌||◌, List, [], ◌∷◌, ◌++◌, length, take, drop, ◌-◌, get_or, refl, ap, sym, ◌∙◌, subst, ◌⊎◌, inl, inr, ⊎_elim, arith}
use Rattle.std.specs.Prelude.{IsTrue, not, if◌then◌else◌, ◌==◌}
use Rattle.std.specs.List.{list_all, before_first, after_first, position_or_len, prefix_len, take_while}
use Rattle.std.specs.Str.{bytes_eq}
use Rattle.std.proofs.lemmas.Bool.{false≢true, both_ways, or_left, or_right, or_cases, and_parts, not-true, cond-true, eq-eqb, and_from, not_from_false, cases_lt, cases_Bool, cond-false}
use Rattle.std.proofs.lemmas.List.{append_assoc, length-append, drop_all, take_at}
use Rattle.std.proofs.lemmas.List.Sums.{split_at_first, passes_at_first}
use Rattle.std.proofs.lemmas.List.Folds.{list_all-append}
use Rattle.cfa_base.specs.declared.tokens.Kind.{Kind}
use Rattle.cfa_base.specs.declared.tokens.Kind.TheVariants.{Word, Text, Ref, ListRef, FatArrow, ThinArrow, DoubleColon, Colon, Comma, Semicolon, OpenBrace, CloseBrace, OpenParen, CloseParen, Bang, Dot, And, Or}
use Rattle.cfa_base.specs.Lexing.{is_word_byte, is_word, is_dot, is_name_byte, is_nothing, is_quote, is_quoted, closes, is_name, name_of, is_reference, spells, Takes}
use Rattle.cfa_base.specs.Scanned.{kind_from}
use Rattle.cfa_base.specs.lemmas.Spelled.{spelled_at, quote_is}
use Rattle.cfa_base.specs.lemmas.Scanning.{front_first}
use Rattle.cfa_base.specs.lemmas.EqualTexts.{is_text}

-- a front that spells a token has the first byte of the bytes, and the kind that this byte gives
pub fronted : (kind : Kind) (front after : List ℕ) (b : ℕ) (bs : List ℕ) → front ++ after ≡ b ∷ bs → IsTrue (spells kind front) →
    (tail : List ℕ) × (front ≡ b ∷ tail) × (tail ++ after ≡ bs) × IsTrue (spells (kind_from b tail) (b ∷ tail))
fronted kind front after b bs cut spelled =
    let first = front_first kind front after b bs cut spelled in
    (first.0, first.1, first.2, spelled_at kind (b ∷ first.0) (subst (λ (x : List ℕ). IsTrue (spells kind x)) first.1 spelled))

-- a text is the longest where all that begins with its first byte, spells a token and stands there is no longer
pub takes_by : (kind : Kind) (b : ℕ) (bs rest : List ℕ) → IsTrue (spells kind (b ∷ bs)) →
    ((tail after : List ℕ) → tail ++ after ≡ bs ++ rest → IsTrue (spells (kind_from b tail) (b ∷ tail)) → length tail ≤ length bs) →
    Takes (b ∷ bs ++ rest) kind (b ∷ bs) rest
takes_by kind b bs rest spelled none_longer = record {
  cut = refl;
  spelled = spelled;
  longest = λ other front after cut also.
      let first = fronted other front after b (bs ++ rest) cut also in
      let within = none_longer first.0 after first.2 first.3 in
      omega (arith, ap length first.1);
}

-- Symbols.

-- what is one of the table's texts is no longer than it
within_bytes : (b : ℕ) (bs tail : List ℕ) → IsTrue (bytes_eq (b ∷ tail) (b ∷ bs)) → length tail ≤ length bs
within_bytes b bs tail same = omega (arith, ap length (is_text (b ∷ tail) (b ∷ bs) same))

pub takes_fat_arrow : (rest : List ℕ) → Takes (61 ∷ 62 ∷ rest) FatArrow (61 ∷ 62 ∷ []) rest
takes_fat_arrow rest = takes_by FatArrow 61 (62 ∷ []) rest refl (λ tail after cut spelled. within_bytes 61 (62 ∷ []) tail spelled)

pub takes_thin_arrow : (rest : List ℕ) → Takes (45 ∷ 62 ∷ rest) ThinArrow (45 ∷ 62 ∷ []) rest
takes_thin_arrow rest = takes_by ThinArrow 45 (62 ∷ []) rest refl (λ tail after cut spelled. within_bytes 45 (62 ∷ []) tail spelled)

pub takes_comma : (rest : List ℕ) → Takes (44 ∷ rest) Comma (44 ∷ []) rest
takes_comma rest = takes_by Comma 44 [] rest refl (λ tail after cut spelled. within_bytes 44 [] tail spelled)

pub takes_semicolon : (rest : List ℕ) → Takes (59 ∷ rest) Semicolon (59 ∷ []) rest
takes_semicolon rest = takes_by Semicolon 59 [] rest refl (λ tail after cut spelled. within_bytes 59 [] tail spelled)

pub takes_open_brace : (rest : List ℕ) → Takes (123 ∷ rest) OpenBrace (123 ∷ []) rest
takes_open_brace rest = takes_by OpenBrace 123 [] rest refl (λ tail after cut spelled. within_bytes 123 [] tail spelled)

pub takes_close_brace : (rest : List ℕ) → Takes (125 ∷ rest) CloseBrace (125 ∷ []) rest
takes_close_brace rest = takes_by CloseBrace 125 [] rest refl (λ tail after cut spelled. within_bytes 125 [] tail spelled)

pub takes_open_paren : (rest : List ℕ) → Takes (40 ∷ rest) OpenParen (40 ∷ []) rest
takes_open_paren rest = takes_by OpenParen 40 [] rest refl (λ tail after cut spelled. within_bytes 40 [] tail spelled)

pub takes_close_paren : (rest : List ℕ) → Takes (41 ∷ rest) CloseParen (41 ∷ []) rest
takes_close_paren rest = takes_by CloseParen 41 [] rest refl (λ tail after cut spelled. within_bytes 41 [] tail spelled)

pub takes_bang : (rest : List ℕ) → Takes (33 ∷ rest) Bang (33 ∷ []) rest
takes_bang rest = takes_by Bang 33 [] rest refl (λ tail after cut spelled. within_bytes 33 [] tail spelled)

pub takes_dot : (rest : List ℕ) → Takes (46 ∷ rest) Dot (46 ∷ []) rest
takes_dot rest = takes_by Dot 46 [] rest refl (λ tail after cut spelled. within_bytes 46 [] tail spelled)

pub takes_and : (rest : List ℕ) → Takes (38 ∷ rest) And (38 ∷ []) rest
takes_and rest = takes_by And 38 [] rest refl (λ tail after cut spelled. within_bytes 38 [] tail spelled)

-- the byte doesn't stand at the front
abbrev pub begins_other : ℕ → List ℕ → Bool
begins_other b [] = true
begins_other b (x ∷ xs) = not (x == b)

colons_within : (tail : List ℕ) → IsTrue (spells (kind_from 58 tail) (58 ∷ tail)) → (tail ≡ []) ⊎ (tail ≡ 58 ∷ [])
colons_within [] spelled = inl refl
colons_within (x ∷ xs) spelled = let same = is_text (58 ∷ x ∷ xs) (58 ∷ 58 ∷ []) spelled in inr (cc)

bars_within : (tail : List ℕ) → IsTrue (spells (kind_from 124 tail) (124 ∷ tail)) → (tail ≡ []) ⊎ (tail ≡ 124 ∷ [])
bars_within tail spelled =
    ⊎_elim
    (λ one. let same = is_text (124 ∷ tail) (124 ∷ []) one in inl (cc))
    (λ two. let same = is_text (124 ∷ tail) (124 ∷ 124 ∷ []) two in inr (cc))
    (or_cases (bytes_eq (124 ∷ tail) (124 ∷ [])) (bytes_eq (124 ∷ tail) (124 ∷ 124 ∷ [])) spelled)

pub bar_first : (b : ℕ) (tail : List ℕ) → IsTrue (spells Or (b ∷ tail)) → b ≡ 124
bar_first b tail spelled =
    ⊎_elim
    (λ one. let same = is_text (b ∷ tail) (124 ∷ []) one in cc)
    (λ two. let same = is_text (b ∷ tail) (124 ∷ 124 ∷ []) two in cc)
    (or_cases (bytes_eq (b ∷ tail) (124 ∷ [])) (bytes_eq (b ∷ tail) (124 ∷ 124 ∷ [])) spelled)

-- a tail that is empty or the one byte, where the byte doesn't follow, is empty
one_within : (b : ℕ) (tail after rest : List ℕ) → IsTrue (begins_other b rest) → tail ++ after ≡ rest → (tail ≡ []) ⊎ (tail ≡ b ∷ []) → length tail ≤ 0
one_within b tail after rest other cut is =
    ⊎_elim
    (λ none. omega (arith, ap length none))
    (λ one. let rest_is : b ∷ after ≡ rest = ap (λ x. x ++ after) (sym one) ∙ cut in
    absurd (both_ways (b == b) (not-true (b == b) (subst (λ (x : List ℕ). IsTrue (begins_other b x)) (sym rest_is) other)) (eq-eqb b b refl)))
    is

pub takes_double_colon : (rest : List ℕ) → Takes (58 ∷ 58 ∷ rest) DoubleColon (58 ∷ 58 ∷ []) rest
takes_double_colon rest = takes_by DoubleColon 58 (58 ∷ []) rest refl (λ tail after cut spelled.
    ⊎_elim (λ none. omega (arith, ap length none)) (λ one. omega (arith, ap length one)) (colons_within tail spelled))

pub takes_colon : (rest : List ℕ) → IsTrue (begins_other 58 rest) → Takes (58 ∷ rest) Colon (58 ∷ []) rest
takes_colon rest other = takes_by Colon 58 [] rest refl (λ tail after cut spelled. one_within 58 tail after rest other cut (colons_within tail spelled))

pub takes_double_bar : (rest : List ℕ) → Takes (124 ∷ 124 ∷ rest) Or (124 ∷ 124 ∷ []) rest
takes_double_bar rest = takes_by Or 124 (124 ∷ []) rest refl (λ tail after cut spelled.
    ⊎_elim (λ none. omega (arith, ap length none)) (λ one. omega (arith, ap length one)) (bars_within tail spelled))

pub takes_bar : (rest : List ℕ) → IsTrue (begins_other 124 rest) → Takes (124 ∷ rest) Or (124 ∷ []) rest
takes_bar rest other = takes_by Or 124 [] rest refl (λ tail after cut spelled. one_within 124 tail after rest other cut (bars_within tail spelled))

-- What passes a test up to the first byte that fails it.

-- the first byte, if there is one, fails the test
abbrev pub begins_failing : (ℕ → Bool) → List ℕ → Bool
begins_failing p [] = true
begins_failing p (b ∷ bs) = not (p b)

-- what passes from the front on passes, and what stands behind it fails
pub prefix_passes : (p : ℕ → Bool) (xs : List ℕ) → IsTrue (list_all p (take_while p xs)) × IsTrue (begins_failing p (drop (prefix_len p xs) xs))
prefix_passes p [] = (refl, refl)
prefix_passes p (x ∷ xs) =
    ⊎_elim
    (λ passes. let later = prefix_passes p xs in
    let longer : prefix_len p (x ∷ xs) ≡ suc (prefix_len p xs) = cond-true (p x) _ _ passes ∙ omega arith in (
      subst (λ (n : ℕ). IsTrue (list_all p (take n (x ∷ xs)))) (sym longer) (and_from (p x) (list_all p (take_while p xs)) passes later.0),
      subst (λ (n : ℕ). IsTrue (begins_failing p (drop n (x ∷ xs)))) (sym longer) later.1,
    ))
    (λ fails. let stops : prefix_len p (x ∷ xs) ≡ 0 = cond-false (p x) _ _ fails in (
      subst (λ (n : ℕ). IsTrue (list_all p (take n (x ∷ xs)))) (sym stops) refl,
      subst (λ (n : ℕ). IsTrue (begins_failing p (drop n (x ∷ xs)))) (sym stops) (not_from_false (p x) fails),
    ))
    (cases_Bool (p x))

-- of what passes a test no more stands at the front of the bytes than what passes up to a byte that fails
pub passes_within : (p : ℕ → Bool) (xs after text rest : List ℕ) → IsTrue (list_all p xs) → IsTrue (begins_failing p rest) →
    xs ++ after ≡ text ++ rest → length xs ≤ length text
passes_within p [] after text rest pass end cut = omega arith
passes_within p (x ∷ xs) after [] (r ∷ rest) pass end cut =
    let same : x ≡ r = cc in
    absurd (both_ways (p r) (not-true (p r) end) (subst (λ (b : ℕ). IsTrue (p b)) same (and_parts (p x) (list_all p xs) pass).0))
passes_within p (x ∷ xs) after [] [] pass end cut = cc
passes_within p (x ∷ xs) after (t ∷ text) rest pass end cut =
    let tails : xs ++ after ≡ text ++ rest = cc in
    omega (arith, passes_within p xs after text rest (and_parts (p x) (list_all p xs) pass).1 end tails)

pub all_weaker : (p q : ℕ → Bool) → ((b : ℕ) → IsTrue (p b) → IsTrue (q b)) → (xs : List ℕ) → IsTrue (list_all p xs) → IsTrue (list_all q xs)
all_weaker p q weaker [] pass = refl
all_weaker p q weaker (x ∷ xs) pass =
    let parts = and_parts (p x) (list_all p xs) pass in
    and_from (q x) (list_all q xs) (weaker x parts.0) (all_weaker p q weaker xs parts.1)

-- Words.

pub takes_word : (text rest : List ℕ) → IsTrue (is_word text) → IsTrue (begins_failing is_word_byte rest) → Takes (text ++ rest) Word text rest
takes_word [] rest word end = absurd (false≢true word)
takes_word (b ∷ bs) rest word end =
    takes_by Word b bs rest word (λ tail after cut spelled. passes_within is_word_byte tail after bs rest (and_parts (is_word_byte b) (list_all is_word_byte tail) (as_word tail spelled)).1 end cut)
  where
    as_word : (tail : List ℕ) → IsTrue (spells (kind_from b tail) (b ∷ tail)) → IsTrue (spells Word (b ∷ tail))
    as_word tail spelled = subst (λ (k : Kind). IsTrue (spells k (b ∷ tail))) (cond-true (is_word_byte b) Word _ (and_parts (is_word_byte b) (list_all is_word_byte bs) word).0) spelled

-- Texts.

closes_step : (ends : Bool) (xs ys : List ℕ) (c d : Bool) → (IsTrue c → IsTrue d → length xs ≤ length ys) →
    IsTrue (if ends then is_nothing xs else c) → IsTrue (if ends then is_nothing ys else d) → length xs ≤ length ys
closes_step true [] ys c d later closed also = omega arith
closes_step true (x ∷ xs) ys c d later closed also = absurd (false≢true closed)
closes_step false xs ys c d later closed also = later closed also

-- of two texts that close at the front of the same bytes neither is longer
pub closes_within : (quote : ℕ) (behind : Bool) (xs after ys rest : List ℕ) → IsTrue (closes quote behind xs) → IsTrue (closes quote behind ys) →
    xs ++ after ≡ ys ++ rest → length xs ≤ length ys
closes_within quote behind [] after ys rest closed also cut = omega arith
closes_within quote behind (x ∷ xs) after [] rest closed also cut = absurd (false≢true also)
closes_within quote true (x ∷ xs) after (y ∷ ys) rest closed also cut =
    let tails : xs ++ after ≡ ys ++ rest = cc in
    omega (arith, closes_within quote false xs after ys rest closed also tails)
closes_within quote false (x ∷ xs) after (y ∷ ys) rest closed also cut =
    let first : y ≡ x = cc in
    let tails : xs ++ after ≡ ys ++ rest = cc in
    let within = closes_step (x == quote) xs ys (closes quote (x == 92) xs) (closes quote (x == 92) ys)
    (λ c d. closes_within quote (x == 92) xs after ys rest c d tails)
    closed (subst (λ (b : ℕ). IsTrue (closes quote false (b ∷ ys))) first also) in
    omega arith

pub takes_text : (text rest : List ℕ) → IsTrue (is_quoted text) → Takes (text ++ rest) Text text rest
takes_text [] rest quoted = absurd (false≢true quoted)
takes_text (b ∷ bs) rest quoted =
    takes_by Text b bs rest quoted (λ tail after cut spelled. closes_within b false tail after bs rest (and_parts (is_quote b) (closes b false tail) (as_text tail spelled)).1 parts.1 cut)
  where
    parts : IsTrue (is_quote b) × IsTrue (closes b false bs)
    parts = and_parts (is_quote b) (closes b false bs) quoted

    as_text : (tail : List ℕ) → IsTrue (spells (kind_from b tail) (b ∷ tail)) → IsTrue (spells Text (b ∷ tail))
    as_text tail spelled = subst (λ (k : Kind). IsTrue (spells k (b ∷ tail))) (quote_is b tail parts.0) spelled

-- References.

word_bytes : (text : List ℕ) → IsTrue (is_word text) → IsTrue (list_all is_name_byte text)
word_bytes [] word = refl
word_bytes (b ∷ bs) word = all_weaker is_word_byte is_name_byte (λ x passes. or_left (is_word_byte x) (is_dot x) passes) (b ∷ bs) word

dotted_bytes : (text : List ℕ) → IsTrue (is_word (before_first is_dot text)) → IsTrue (is_word (after_first is_dot text)) → IsTrue (list_all is_name_byte text)
dotted_bytes text before after =
    ⊎_elim
    (λ (inside : position_or_len is_dot text < length text).
    let passes = passes_at_first is_dot text 0 inside in
    let split = split_at_first is_dot text 0 inside in
    let dot = get_or text (position_or_len is_dot text) 0 in
    let rest : IsTrue (list_all is_name_byte (dot ∷ after_first is_dot text)) =
    and_from (is_name_byte dot) (list_all is_name_byte (after_first is_dot text)) (or_right (is_word_byte dot) (is_dot dot) passes) (word_bytes (after_first is_dot text) after) in
    ap (list_all is_name_byte) split
    ∙ (list_all-append is_name_byte (before_first is_dot text) (dot ∷ after_first is_dot text)
    ∙ and_from (list_all is_name_byte (before_first is_dot text)) (list_all is_name_byte (dot ∷ after_first is_dot text)) (word_bytes (before_first is_dot text) before) rest))
    (λ (past : length text ≤ position_or_len is_dot text).
    absurd (false≢true (subst (λ (x : List ℕ). IsTrue (is_word x)) (drop_all (position_or_len is_dot text + 1) text (omega arith)) after)))
    (cases_lt (position_or_len is_dot text) (length text))

-- a name holds no bracket
pub name_bytes : (text : List ℕ) → IsTrue (is_name text) → IsTrue (list_all is_name_byte text)
name_bytes text name =
    ⊎_elim (λ word. word_bytes text word)
    (λ dotted. let parts = and_parts (is_word (before_first is_dot text)) (is_word (after_first is_dot text)) dotted in dotted_bytes text parts.0 parts.1)
    (or_cases (is_word text) (is_word (before_first is_dot text) && is_word (after_first is_dot text)) name)

-- an opening bracket with its closing one
pub data Brackets : ℕ → ℕ → Type 0 where
  parentheses : Brackets 40 41
  braces : Brackets 123 125

-- the parts of a reference
pub record ReferenceOf (sign : ℕ) (text : List ℕ) : Type 0 where
  pub opening : ℕ
  pub closing : ℕ
  pub brackets : Brackets opening closing
  pub is : text ≡ sign ∷ opening ∷ name_of text ++ closing ∷ []
  pub named : IsTrue (is_name (name_of text))

pub reference_of : (sign : ℕ) (text : List ℕ) → IsTrue (is_reference sign text) → ReferenceOf sign text
reference_of sign text h =
    let parts = and_parts (is_name (name_of text)) (bytes_eq text (sign ∷ 40 ∷ name_of text ++ 41 ∷ []) || bytes_eq text (sign ∷ 123 ∷ name_of text ++ 125 ∷ [])) h in
    ⊎_elim
    (λ same. record { opening = 40; closing = 41; brackets = parentheses; is = is_text text _ same; named = parts.0 })
    (λ same. record { opening = 123; closing = 125; brackets = braces; is = is_text text _ same; named = parts.0 })
    (or_cases (bytes_eq text (sign ∷ 40 ∷ name_of text ++ 41 ∷ [])) (bytes_eq text (sign ∷ 123 ∷ name_of text ++ 125 ∷ [])) parts.1)

pub closing_is_no_name : {opening closing : ℕ} → Brackets opening closing → is_name_byte closing ≡ false
closing_is_no_name parentheses = refl
closing_is_no_name braces = refl

pub closing_is : {opening closing other : ℕ} → Brackets opening closing → Brackets opening other → closing ≡ other
closing_is parentheses parentheses = refl
closing_is braces braces = refl

brackets_within : (sign opening closing other_opening other_closing : ℕ) (name other after rest : List ℕ) → Brackets other_opening other_closing → IsTrue (list_all is_name_byte name) →
    (sign ∷ opening ∷ name ++ closing ∷ []) ++ after ≡ (sign ∷ other_opening ∷ other ++ other_closing ∷ []) ++ rest → length name ≤ length other
brackets_within sign opening closing other_opening other_closing name other after rest brackets passes cut =
    let inner : (name ++ closing ∷ []) ++ after ≡ (other ++ other_closing ∷ []) ++ rest = cc in
    passes_within is_name_byte name (closing ∷ after) other (other_closing ∷ rest) passes
    (not_from_false (is_name_byte other_closing) (closing_is_no_name brackets))
    (sym (append_assoc name (closing ∷ []) after) ∙ (inner ∙ append_assoc other (other_closing ∷ []) rest))

-- of two references at the front of the same bytes neither is longer
pub reference_within : (sign : ℕ) (front after text rest : List ℕ) → ReferenceOf sign front → ReferenceOf sign text → front ++ after ≡ text ++ rest → length front ≤ length text
reference_within sign front after text rest a b cut =
    let within = brackets_within sign a.opening a.closing b.opening b.closing (name_of front) (name_of text) after rest b.brackets (name_bytes (name_of front) a.named)
    (ap (λ x. x ++ after) (sym a.is) ∙ (cut ∙ ap (λ x. x ++ rest) b.is)) in
    omega (arith, ap length a.is, ap length b.is, length-append (name_of front) (a.closing ∷ []), length-append (name_of text) (b.closing ∷ []))

takes_reference : (kind : Kind) (sign : ℕ) → ((text : List ℕ) → spells kind text ≡ is_reference sign text) → ((bs : List ℕ) → kind_from sign bs ≡ kind) →
    (text rest : List ℕ) → IsTrue (is_reference sign text) → Takes (text ++ rest) kind text rest
takes_reference kind sign spelling there text rest reference =
    let parts = reference_of sign text reference in
    record {
      cut = refl;
      spelled = spelling text ∙ reference;
      longest = λ other front after cut spelled.
          let first = fronted other front after sign ((parts.opening ∷ name_of text ++ parts.closing ∷ []) ++ rest) (cut ∙ ap (λ x. x ++ rest) parts.is) spelled in
          let same_kind = subst (λ (k : Kind). IsTrue (spells k (sign ∷ first.0))) (there first.0) first.3 in
          let also : IsTrue (is_reference sign front) = subst (λ (x : List ℕ). IsTrue (is_reference sign x)) (sym first.1) (sym (spelling (sign ∷ first.0)) ∙ same_kind) in
          reference_within sign front after text rest (reference_of sign front also) parts cut;
    }

pub takes_ref : (text rest : List ℕ) → IsTrue (is_reference 36 text) → Takes (text ++ rest) Ref text rest
takes_ref = takes_reference Ref 36 (λ text. refl) (λ bs. refl)

pub takes_list_ref : (text rest : List ℕ) → IsTrue (is_reference 64 text) → Takes (text ++ rest) ListRef text rest
takes_list_ref = takes_reference ListRef 64 (λ text. refl) (λ bs. refl)

same_all : (xs : List ℕ) → IsTrue (bytes_eq xs xs)
same_all [] = refl
same_all (x ∷ xs) = and_from (x == x) (bytes_eq xs xs) (eq-eqb x x refl) (same_all xs)

-- what stands between the brackets of a reference that is written out
pub name_is : (sign opening closing : ℕ) (name : List ℕ) → name_of (sign ∷ opening ∷ name ++ closing ∷ []) ≡ name
name_is sign opening closing name =
    let long : length (sign ∷ opening ∷ name ++ closing ∷ []) - 3 ≡ length name = omega (arith, length-append name (closing ∷ [])) in
    ap (λ n. take n (name ++ closing ∷ [])) long ∙ take_at name (closing ∷ []) (length name) refl

-- a name in brackets behind a sign is a reference
pub reference_from : (sign opening closing : ℕ) (name : List ℕ) → Brackets opening closing → IsTrue (is_name name) → IsTrue (is_reference sign (sign ∷ opening ∷ name ++ closing ∷ []))
reference_from sign opening closing name brackets named =
    let text : List ℕ = sign ∷ opening ∷ name ++ closing ∷ [] in
    let same = sym (name_is sign opening closing name) in
    and_from (is_name (name_of text)) (bytes_eq text (sign ∷ 40 ∷ name_of text ++ 41 ∷ []) || bytes_eq text (sign ∷ 123 ∷ name_of text ++ 125 ∷ []))
    (subst (λ (x : List ℕ). IsTrue (is_name x)) same named)
    (spelled_out brackets (name_of text) same)
  where
    spelled_out : {opening closing : ℕ} → Brackets opening closing → (inner : List ℕ) → name ≡ inner →
        IsTrue (bytes_eq (sign ∷ opening ∷ name ++ closing ∷ []) (sign ∷ 40 ∷ inner ++ 41 ∷ []) || bytes_eq (sign ∷ opening ∷ name ++ closing ∷ []) (sign ∷ 123 ∷ inner ++ 125 ∷ []))
    spelled_out parentheses inner same = or_left (bytes_eq (sign ∷ 40 ∷ name ++ 41 ∷ []) (sign ∷ 40 ∷ inner ++ 41 ∷ [])) _
        (subst (λ (x : List ℕ). IsTrue (bytes_eq (sign ∷ 40 ∷ name ++ 41 ∷ []) (sign ∷ 40 ∷ x ++ 41 ∷ []))) same (same_all (sign ∷ 40 ∷ name ++ 41 ∷ [])))
    spelled_out braces inner same = or_right _ (bytes_eq (sign ∷ 123 ∷ name ++ 125 ∷ []) (sign ∷ 123 ∷ inner ++ 125 ∷ []))
        (subst (λ (x : List ℕ). IsTrue (bytes_eq (sign ∷ 123 ∷ name ++ 125 ∷ []) (sign ∷ 123 ∷ x ++ 125 ∷ []))) same (same_all (sign ∷ 123 ∷ name ++ 125 ∷ [])))
