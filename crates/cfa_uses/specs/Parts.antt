-- Of the code alone: a part of a source begins with a token and ends behind one, and a statement is made of parts.
use Rattle.std.specs.Prelude.{◌≡◌, ◌⊎◌, ℕ, List, [], Contains}
use Rattle.cfa_base.specs.declared.places.Place.{Place}
use Rattle.cfa_lexer.specs.declared.tokens.Token.{Token}
use Rattle.cfa_uses.specs.declared.statements.Part.{Part}
use Rattle.cfa_uses.specs.declared.statements.Statement.{Statement}
use Rattle.cfa_uses.specs.Statements.{Begins, Ends}

pub record IsPart (tokens : List Token) (part : Part) : Type 0 where
  pub first : Begins tokens part.from part.word.now
  pub last : Ends tokens part.to

abbrev pub IsTextAt : List Token → Place → List ℕ → Type 0
IsTextAt tokens at text = (text ≡ []) ⊎ Begins tokens at text

pub record IsMadeOf (parts : List Part) (text : List ℕ) (statement : Statement) : Type 0 where
  pub first : (part : Part) × Contains parts part × (part.from ≡ statement.from) × (part.word.now ≡ statement.word.now)
  pub last : (part : Part) × Contains parts part × (part.to ≡ statement.to)
  pub block : (part : Part) × Contains parts part × (part.from ≡ statement.block)
  pub text_is : statement.text.now ≡ text
