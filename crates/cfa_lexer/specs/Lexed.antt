-- What the lexer answers on a source: the tokens of its text, or the first refusal.
use Rattle.std.specs.Prelude.{◌≡◌, ℕ, ◌≤◌, ⊤, List, length, take}
use Rattle.std.specs.Str.{IsUtf8}
use Rattle.std.specs.Str.Lossy.{utf8_valid_len}
use Rattle.cfa_base.specs.declared.limits.TheConstants.{MOST_SOURCE_BYTES}
use Rattle.cfa_base.specs.declared.places.Place.{Place}
use Rattle.cfa_base.specs.Tokens as tokens
use Rattle.cfa_base.specs.Lexing.{Fault, bad_byte, unclosed_text, FirstFault, place_after, first_place}
use Rattle.cfa_lexer.specs.declared.tokens.Token.{Token}
use Rattle.cfa_lexer.specs.declared.errors.LexErr.{LexErr}
use Rattle.cfa_lexer.specs.declared.errors.LexErr.TheVariants.{BadByte, UnclosedText, NotText, TooLong, NoMemory}

-- a token without the memory that its text stands in
abbrev pub plain : Token → tokens.Token
plain t = record { kind = t.kind; text = t.text.now; place = t.place }

-- a source has at most so many bytes
abbrev pub max_len : ℕ
max_len = MOST_SOURCE_BYTES

-- a source is a text that isn't too long
pub record IsText (source : List ℕ) : Type 0 where
  pub fits : length source ≤ max_len
  pub utf8 : IsUtf8 source

-- the place at which a source that isn't too long stops being UTF-8
pub record StopsBeingText (source : List ℕ) (file : ℕ) (place : Place) : Type 0 where
  pub fits : length source ≤ max_len
  pub broken : ¬ IsUtf8 source
  pub at : place ≡ place_after (first_place file) (take (utf8_valid_len source) source)

-- what may be answered in place of the tokens of a text that fits
abbrev pub IsFaultOf : List ℕ → ℕ → LexErr → Type 0
IsFaultOf text file (BadByte place) = FirstFault (first_place file) text (bad_byte place)
IsFaultOf text file (UnclosedText place) = FirstFault (first_place file) text (unclosed_text place)
IsFaultOf text file (NotText place) = ⊥
IsFaultOf text file TooLong = ⊥
IsFaultOf text file NoMemory = ⊤

-- the error of a fault
abbrev pub err_of : Fault → LexErr
err_of (bad_byte place) = BadByte place
err_of (unclosed_text place) = UnclosedText place
