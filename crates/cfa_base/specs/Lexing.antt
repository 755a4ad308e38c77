-- The tokens of a policy's text. Space, tab, carriage return and newline separate tokens, `#` outside a text begins a
-- comment up to the end of its line, and the longest token is taken. A text is a list of bytes here: the bytes of a
-- character past ASCII are all past 127, so that a rule on such bytes is the same rule on characters.
use Rattle.std.specs.Prelude.{◌≡◌, ℕ, ◌+◌, ◌-◌, ◌≤◌, Bool, true, false, ◌&&◌, ◌||◌, ◌==◌, not, nat_le, if◌then◌else◌, IsTrue, List, [], ◌∷◌, ◌++◌, length, take, drop, Option, Some, None, codes}
use Rattle.std.specs.List.{list_all, before_first, after_first}
use Rattle.std.specs.Str.{bytes_eq}
use Rattle.cfa_base.specs.declared.tokens.Kind.{Kind}
use Rattle.cfa_base.specs.declared.tokens.Kind.TheVariants.{Word, Text, Ref, ListRef, FatArrow, ThinArrow, DoubleColon, Colon, Comma, Semicolon, OpenBrace, CloseBrace, OpenParen, CloseParen, Bang, Dot, And, Or}
use Rattle.cfa_base.specs.declared.places.Place.{Place}
use Rattle.cfa_base.specs.Tokens.{Token}

-- The spellings.

-- an ASCII letter, digit or underscore
abbrev pub is_word_byte : ℕ → Bool
is_word_byte b = (nat_le 48 b && nat_le b 57) || ((nat_le 65 b && nat_le b 90) || ((b == 95) || (nat_le 97 b && nat_le b 122)))

-- one or more of these
abbrev pub is_word : List ℕ → Bool
is_word [] = false
is_word (b ∷ bs) = list_all is_word_byte (b ∷ bs)

abbrev pub is_dot : ℕ → Bool
is_dot b = b == 46

-- a byte of a word, or the dot between two
abbrev pub is_name_byte : ℕ → Bool
is_name_byte b = is_word_byte b || is_dot b

-- a word, or two words with a dot between them
abbrev pub is_name : List ℕ → Bool
is_name text = is_word text || (is_word (before_first is_dot text) && is_word (after_first is_dot text))

-- the bracket that closes an opening one
abbrev pub closing_of : ℕ → Option ℕ
closing_of opening = if opening == 40 then Some 41 else (if opening == 123 then Some 125 else None)

-- what stands between the brackets of a reference
abbrev pub name_of : List ℕ → List ℕ
name_of text = take (length text - 3) (drop 2 text)

-- a sign, which is `$` or `@`, with a name behind it in parentheses or in braces
abbrev pub is_reference : ℕ → List ℕ → Bool
is_reference sign text =
    is_name (name_of text)
    && (bytes_eq text (sign ∷ 40 ∷ name_of text ++ 41 ∷ []) || bytes_eq text (sign ∷ 123 ∷ name_of text ++ 125 ∷ []))

-- `"` or `'`
abbrev pub is_quote : ℕ → Bool
is_quote b = (b == 34) || (b == 39)

abbrev pub is_nothing : List ℕ → Bool
is_nothing [] = true
is_nothing (b ∷ bs) = false

-- the bytes behind an opening quote end with the next such quote; one behind a backslash is taken along
abbrev pub closes : (quote : ℕ) (behind_backslash : Bool) → List ℕ → Bool
closes quote behind [] = false
closes quote true (b ∷ bs) = closes quote false bs
closes quote false (b ∷ bs) = if b == quote then is_nothing bs else closes quote (b == 92) bs

-- a quote, and what stands up to the next such quote
abbrev pub is_quoted : List ℕ → Bool
is_quoted [] = false
is_quoted (b ∷ bs) = is_quote b && closes b false bs

-- whether a text spells a token of that kind
abbrev pub spells : Kind → List ℕ → Bool
spells Word text = is_word text
spells Text text = is_quoted text
spells Ref text = is_reference 36 text
spells ListRef text = is_reference 64 text
spells FatArrow text = bytes_eq text (codes "=>")
spells ThinArrow text = bytes_eq text (codes "->")
spells DoubleColon text = bytes_eq text (codes "::")
spells Colon text = bytes_eq text (codes ":")
spells Comma text = bytes_eq text (codes ",")
spells Semicolon text = bytes_eq text (codes ";")
spells OpenBrace text = bytes_eq text (codes "{")
spells CloseBrace text = bytes_eq text (codes "}")
spells OpenParen text = bytes_eq text (codes "(")
spells CloseParen text = bytes_eq text (codes ")")
spells Bang text = bytes_eq text (codes "!")
spells Dot text = bytes_eq text (codes ".")
spells And text = bytes_eq text (codes "&")
spells Or text = bytes_eq text (codes "|") || bytes_eq text (codes "||")

-- The meaning of a quoted text.

-- `"`, `'` or a backslash: a backslash before one of these is dropped
abbrev pub is_escapable : ℕ → Bool
is_escapable b = is_quote b || (b == 92)

-- the bytes without the backslashes that are dropped; `behind_backslash` says that one stands before them
abbrev pub unescaped : (behind_backslash : Bool) → List ℕ → List ℕ
unescaped false [] = []
unescaped true [] = 92 ∷ []
unescaped true (b ∷ bs) = (if is_escapable b then b ∷ [] else 92 ∷ b ∷ []) ++ unescaped false bs
unescaped false (b ∷ bs) = (if b == 92 then [] else b ∷ []) ++ unescaped (b == 92) bs

-- the content of a quoted text: what stands between its quotes, where a backslash before `"`, `'` or a backslash is
-- dropped and any other stays
abbrev pub content_of : List ℕ → List ℕ
content_of text = unescaped false (take (length text - 2) (drop 1 text))

-- Places.

abbrev pub is_newline : ℕ → Bool
is_newline b = b == 10

-- the place after one byte: a newline ends its line
abbrev pub place_past : Place → ℕ → Place
place_past place b =
    if is_newline b then record { file = place.file; line = place.line + 1; col = 1 }
    else record { file = place.file; line = place.line; col = place.col + 1 }

-- the place after some bytes that begin at a place
abbrev pub place_after : Place → List ℕ → Place
place_after place [] = place
place_after place (b ∷ bs) = place_after (place_past place b) bs

-- the place of a file's first byte
abbrev pub first_place : ℕ → Place
first_place file = record { file = file; line = 1; col = 1 }

-- The tokens in order.

-- space, tab, carriage return or newline
abbrev pub is_separator : ℕ → Bool
is_separator b = (b == 32) || ((b == 9) || ((b == 13) || is_newline b))

-- `#`
abbrev pub is_hash : ℕ → Bool
is_hash b = b == 35

-- the bytes up to the end of their first line, which is the newline or the end
abbrev pub line_of : List ℕ → List ℕ
line_of bytes = before_first is_newline bytes

-- the bytes from the end of their first line on
abbrev pub past_line : List ℕ → List ℕ
past_line bytes = drop (length (line_of bytes)) bytes

-- the longest token at the front of the bytes, and the rest: no longer front spells a token
pub record Takes (bytes : List ℕ) (kind : Kind) (text rest : List ℕ) : Type 0 where
  pub cut : text ++ rest ≡ bytes
  pub spelled : IsTrue (spells kind text)
  pub longest : (other : Kind) (front after : List ℕ) → front ++ after ≡ bytes → IsTrue (spells other front) → length front ≤ length text

-- no front of the bytes spells a token
abbrev pub BeginsNone : List ℕ → Type 0
BeginsNone bytes = (kind : Kind) (front after : List ℕ) → front ++ after ≡ bytes → ¬ IsTrue (spells kind front)

-- what stands where no token begins: a byte that begins none, or the opening quote of a text that isn't closed
pub data Fault : Type 0 where
  bad_byte : (place : Place) → Fault
  unclosed_text : (place : Place) → Fault

abbrev pub fault_at : Place → ℕ → Fault
fault_at place b = if is_quote b then unclosed_text place else bad_byte place

-- from a place on the bytes are these tokens, each with its place, up to the first fault, or to the end where there
-- is none
pub data Scans : Place → List ℕ → List Token → Option Fault → Type 0 where
  ends : {place : Place} → Scans place [] [] None
  a_separator : {place : Place} {b : ℕ} {rest : List ℕ} {tokens : List Token} {fault : Option Fault} →
      IsTrue (is_separator b) → Scans (place_past place b) rest tokens fault → Scans place (b ∷ rest) tokens fault
  a_comment : {place : Place} {b : ℕ} {rest : List ℕ} {tokens : List Token} {fault : Option Fault} →
      IsTrue (is_hash b) → Scans (place_after (place_past place b) (line_of rest)) (past_line rest) tokens fault →
      Scans place (b ∷ rest) tokens fault
  a_token : {place : Place} {bytes text rest : List ℕ} {kind : Kind} {tokens : List Token} {fault : Option Fault} →
      Takes bytes kind text rest → Scans (place_after place text) rest tokens fault →
      Scans place bytes (record { kind = kind; text = text; place = place } ∷ tokens) fault
  stops : {place : Place} {b : ℕ} {rest : List ℕ} →
      IsTrue (not (is_separator b || is_hash b)) → BeginsNone (b ∷ rest) → Scans place (b ∷ rest) [] (Some (fault_at place b))

-- from a place on the bytes are the spellings of these tokens in order, with separators and comments between
abbrev pub Lexes : Place → List ℕ → List Token → Type 0
Lexes place bytes tokens = Scans place bytes tokens None

-- from a place on the bytes have this as their first fault
abbrev pub FirstFault : Place → List ℕ → Fault → Type 0
FirstFault place bytes fault = (tokens : List Token) × Scans place bytes tokens (Some fault)
