-- The tokens and the first fault of some bytes, computed: at each place the longest front that spells a token. That this
-- is what the bytes scan to is proved, not assumed.
use Rattle.std.specs.Prelude.{ℕ, zero, suc, Bool, true, false, ◌==◌, if◌then◌else◌, List, [], ◌∷◌, length, take, drop, Option, Some, None}
use Rattle.cfa_base.specs.declared.tokens.Kind.{Kind}
use Rattle.cfa_base.specs.declared.tokens.Kind.TheVariants.{Word, Text, Ref, ListRef, FatArrow, ThinArrow, DoubleColon, Colon, Comma, Semicolon, OpenBrace, CloseBrace, OpenParen, CloseParen, Bang, Dot, And, Or}
use Rattle.cfa_base.specs.declared.places.Place.{Place}
use Rattle.cfa_base.specs.Tokens.{Token}
use Rattle.cfa_base.specs.Lexing.{is_word_byte, is_nothing, is_quote, is_separator, is_hash, line_of, past_line, place_past, place_after, spells, Fault, fault_at}

-- the only kind that a text with this first byte and these further bytes may spell
abbrev pub kind_from : ℕ → List ℕ → Kind
kind_from b bs =
    if is_word_byte b then Word
    else (if is_quote b then Text
    else (if b == 36 then Ref
    else (if b == 64 then ListRef
    else (if b == 61 then FatArrow
    else (if b == 45 then ThinArrow
    else (if b == 58 then (if is_nothing bs then Colon else DoubleColon)
    else (if b == 44 then Comma
    else (if b == 59 then Semicolon
    else (if b == 123 then OpenBrace
    else (if b == 125 then CloseBrace
    else (if b == 40 then OpenParen
    else (if b == 41 then CloseParen
    else (if b == 33 then Bang
    else (if b == 46 then Dot
    else (if b == 38 then And
    else Or)))))))))))))))

-- the only kind that a text may spell
abbrev pub kind_at : List ℕ → Kind
kind_at [] = Word
kind_at (b ∷ bs) = kind_from b bs

abbrev pub longer_if : Bool → ℕ → ℕ → ℕ
longer_if true longer shorter = longer
longer_if false longer shorter = shorter

-- the length of the longest front of at most n bytes that spells a token, and 0 where there is none
abbrev pub longest_len : List ℕ → ℕ → ℕ
longest_len bytes zero = 0
longest_len bytes (suc n) = longer_if (spells (kind_at (take (suc n) bytes)) (take (suc n) bytes)) (suc n) (longest_len bytes n)

-- the tokens and the first fault that some bytes scan to
pub record Scanned : Type 0 where
  pub tokens : List Token
  pub fault : Option Fault

abbrev pub with_token : Token → Scanned → Scanned
with_token token scanned = record { tokens = token ∷ scanned.tokens; fault = scanned.fault }

module _ (later : Place → List ℕ → Scanned) where
  abbrev pub at_front : ℕ → Place → ℕ → List ℕ → Scanned
  at_front zero place b rest = record { tokens = []; fault = Some (fault_at place b) }
  at_front (suc n) place b rest =
      let text = take (suc n) (b ∷ rest) in
      with_token (record { kind = kind_at text; text = text; place = place }) (later (place_after place text) (drop (suc n) (b ∷ rest)))

  abbrev pub at_byte : (separates begins_comment : Bool) → Place → ℕ → List ℕ → Scanned
  at_byte true begins_comment place b rest = later (place_past place b) rest
  at_byte false true place b rest = later (place_after (place_past place b) (line_of rest)) (past_line rest)
  at_byte false false place b rest = at_front (longest_len (b ∷ rest) (length (b ∷ rest))) place b rest

-- what bytes from a place on scan to, at most n of them
abbrev pub scan : ℕ → Place → List ℕ → Scanned
scan zero place bytes = record { tokens = []; fault = None }
scan (suc n) place [] = record { tokens = []; fault = None }
scan (suc n) place (b ∷ rest) = at_byte (scan n) (is_separator b) (is_hash b) place b rest
