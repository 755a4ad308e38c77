-- The statement of a source at a place begins with a token and ends behind one, as does the block that it stands in.
use Rattle.std.specs.Prelude.{◌≡◌, ◌⊎◌, ℕ, ◌+◌, ◌^◌, ◌<◌, List, [], length, Contains}
use Rattle.cfa_base.specs.declared.places.Place.{Place}
use Rattle.cfa_base.specs.Lexing.{place_after}
use Rattle.cfa_lexer.specs.declared.tokens.Token.{Token}
use Rattle.cfa_uses.specs.declared.statements.Statement.{Statement}

-- behind a text that begins at a place, while lines and columns have numbers
abbrev pub IsBehind : Place → List ℕ → Place → Type 0
IsBehind place text end =
    place.line + length text < 2 ^ 32 → place.col + length text < 2 ^ 32 → end ≡ place_after place text

-- a token has this text and begins here
pub record Begins (tokens : List Token) (place : Place) (text : List ℕ) : Type 0 where
  pub token : Token
  pub listed : Contains tokens token
  pub at : token.place ≡ place
  pub spelled : token.text.now ≡ text

-- a token ends here
pub record Ends (tokens : List Token) (place : Place) : Type 0 where
  pub token : Token
  pub listed : Contains tokens token
  pub behind : IsBehind token.place token.text.now place

pub record IsStatement (tokens : List Token) (at : Place) (statement : Statement) : Type 0 where
  pub first : Begins tokens statement.from statement.word.now
  pub last : Ends tokens statement.to
  pub block : (word : List ℕ) × Begins tokens statement.block word
  -- the text at the place; empty where no token begins there
  pub here : (statement.text.now ≡ []) ⊎ Begins tokens at statement.text.now
