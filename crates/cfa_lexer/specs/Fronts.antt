-- What stands at the front of some bytes: a separator, a comment, or the longest token.
use Rattle.std.specs.Prelude.{◌≡◌, ℕ, ◌+◌, ◌≤◌, Bool, false, if◌then◌else◌, ◌==◌, IsTrue, List, [], ◌∷◌, length, take, drop, Option, Some, None, MatchOption}
use Rattle.cfa_base.specs.declared.tokens.Kind.{Kind}
use Rattle.cfa_base.specs.declared.tokens.Kind.TheVariants.{FatArrow, ThinArrow, DoubleColon, Colon, Comma, Semicolon, OpenBrace, CloseBrace, OpenParen, CloseParen, Bang, Dot, And, Or}
use Rattle.cfa_base.specs.Lexing.{is_separator, is_hash, line_of, Takes, BeginsNone}

-- how many bytes the separator or the comment at the front has; 0 where there is none
abbrev pub gap_len : List ℕ → ℕ
gap_len [] = 0
gap_len (b ∷ rest) = if is_separator b then 1 else (if is_hash b then length (line_of rest) + 1 else 0)

-- a length at which a front of the bytes passes a test; none where no front does
abbrev pub IsPassingLen : (List ℕ → Bool) → List ℕ → Option ℕ → Type 0
IsPassingLen test bytes len = MatchOption len ((n : ℕ) → test (take n bytes) ≡ false) (λ n. (n ≤ length bytes) × IsTrue (test (take n bytes)))

-- the longest symbol that two bytes begin with, and how many bytes it has: `=>` is 61 62, `->` 45 62, `::` 58 58,
-- `||` 124 124, `,` 44, `;` 59, `{` 123, `}` 125, `(` 40, `)` 41, `!` 33, `.` 46 and `&` 38
abbrev pub symbol_of : (first second : ℕ) → Option (Kind × ℕ)
symbol_of first second =
    if first == 61 then (if second == 62 then Some (FatArrow, 2) else None)
    else (if first == 45 then (if second == 62 then Some (ThinArrow, 2) else None)
    else (if first == 58 then (if second == 58 then Some (DoubleColon, 2) else Some (Colon, 1))
    else (if first == 124 then (if second == 124 then Some (Or, 2) else Some (Or, 1))
    else (if first == 44 then Some (Comma, 1)
    else (if first == 59 then Some (Semicolon, 1)
    else (if first == 123 then Some (OpenBrace, 1)
    else (if first == 125 then Some (CloseBrace, 1)
    else (if first == 40 then Some (OpenParen, 1)
    else (if first == 41 then Some (CloseParen, 1)
    else (if first == 33 then Some (Bang, 1)
    else (if first == 46 then Some (Dot, 1)
    else (if first == 38 then Some (And, 1)
    else None))))))))))))

-- the first n bytes are the longest token at the front
pub record IsFront (bytes : List ℕ) (kind : Kind) (n : ℕ) : Type 0 where
  pub within : n ≤ length bytes
  pub takes : Takes bytes kind (take n bytes) (drop n bytes)

-- the kind of the longest token at the front and how many bytes it has; none where no token begins there
abbrev pub TellsFront : List ℕ → Option (Kind × ℕ) → Type 0
TellsFront bytes front = MatchOption front (BeginsNone bytes) (λ t. IsFront bytes t.0 t.1)
