-- Texts of one line: fields, numbers, words and names, and what is joined of them.
use Rattle.std.proofs.Common.{◌≡◌, ◌≢◌, ℕ, ◌<◌, ◌^◌, Bool, true, false, List, [], ◌∷◌, ◌++◌, map, cond, refl, sym, ap, ◌∙◌, arith}
use Rattle.std.specs.Fmt.{decimal}
use Rattle.std.specs.Prelude.{All}
use Rattle.std.specs.List.{join_with_byte, flat_map}
use Rattle.std.proofs.lemmas.Bool.{true≢false}
use Rattle.std.proofs.lemmas.List.Elements.{All-nil, All-cons, All-head, All-tail, All-append}
use Rattle.cfa_base.specs.Escapes.{escaped}
use Rattle.cfa_base.specs.Lexing.{is_word_byte}
use Rattle.cfa_edits.specs.Scripts.{IsOneLine}
use Rattle.cfa_edits.specs.lemmas.Parts.{IsSeparator, lacks_joined, lacks_escaped, all_escaped, lacks_decimal}
use Rattle.cfa_functions.specs.Functions.{canonical_byte, canonified}

-- no newline
abbrev pub IsOther : ℕ → Type 0
IsOther byte = byte ≢ 10

pub no_text : IsOneLine []
no_text = All-nil IsOther

pub led_line : (byte : ℕ) (text : List ℕ) → byte ≢ 10 → IsOneLine text → IsOneLine (byte ∷ text)
led_line byte text other line = All-cons IsOther byte text other line

pub both_lines : (text more : List ℕ) → IsOneLine text → IsOneLine more → IsOneLine (text ++ more)
both_lines text more line other = All-append IsOther text more line other

pub either_line : (b : Bool) (text other : List ℕ) → IsOneLine text → IsOneLine other → IsOneLine (cond b text other)
either_line true text other line line' = line
either_line false text other line line' = line'

-- ---- what is joined

pub no_lines : All IsOneLine []
no_lines = All-nil IsOneLine

pub one_more : (text : List ℕ) (texts : List (List ℕ)) → IsOneLine text → All IsOneLine texts → All IsOneLine (text ∷ texts)
one_more text texts line lines = All-cons IsOneLine text texts line lines

pub joined_line : (separator : ℕ) (texts : List (List ℕ)) → separator ≢ 10 → All IsOneLine texts → IsOneLine (join_with_byte separator texts)
joined_line = lacks_joined 10

pub led_lines : (separator : ℕ) (texts : List (List ℕ)) → separator ≢ 10 → All IsOneLine texts → IsOneLine (flat_map (λ text. separator ∷ text) texts)
led_lines separator [] other lines = no_text
led_lines separator (text ∷ texts) other lines =
    both_lines (separator ∷ text) (flat_map (λ text. separator ∷ text) texts)
    (led_line separator text other (All-head IsOneLine text texts lines))
    (led_lines separator texts other (All-tail IsOneLine text texts lines))

-- ---- fields

pub newline : IsSeparator 10
newline = record { low = omega arith; none = refl; no_digit = λ d lt. λ e. omega arith }

pub field_line : (text : List ℕ) → IsOneLine (escaped text)
field_line text = lacks_escaped 10 text newline

pub field_lines : (texts : List (List ℕ)) → All IsOneLine (map escaped texts)
field_lines texts = all_escaped 10 texts newline

pub decimal_line : (n : ℕ) → n < 2 ^ 64 → IsOneLine (decimal n)
decimal_line n small = lacks_decimal 10 n newline small

-- ---- names that are canonified

canonical_by : (b : ℕ) (t : Bool) → is_word_byte b ≡ t → cond t b 95 ≢ 10
canonical_by b true word = λ e. true≢false (sym word ∙ ap is_word_byte e)
canonical_by b false word = λ e. omega arith

pub canonical_line : (text : List ℕ) → IsOneLine (canonified text)
canonical_line [] = no_text
canonical_line (b ∷ text) = led_line (canonical_byte b) (canonified text) (canonical_by b (is_word_byte b) refl) (canonical_line text)

pub canonical_lines : (texts : List (List ℕ)) → All IsOneLine (map canonified texts)
canonical_lines [] = no_lines
canonical_lines (text ∷ texts) = one_more (canonified text) (map canonified texts) (canonical_line text) (canonical_lines texts)
