-- Where the reading of tokens stops: at the first token with which no policy begins, whatever follows it and however deep
-- it is; at the end of tokens that a policy begins with, but that are none; or, before these, at the first token with
-- which policies begin, but none within the limit on levels, which is a token that opens a level.
use Rattle.std.specs.Prelude.{◌≡◌, ◌⊎◌, List, [], ◌∷◌, ◌++◌}
use Rattle.cfa_base.specs.declared.places.Place.{Place}
use Rattle.cfa_base.specs.Tokens.{Token}
use Rattle.cfa_tree.specs.Tree.{PolicyTree}
use Rattle.cfa_tree.specs.Grammar.{depth_limit, BeginsWithin, Begins, Reads}

-- one of the tokens, with a policy that begins with those before it
pub record BehindBeginning (tokens : List Token) (place : Place) : Type 0 where
  pub before : List Token
  pub here : Token
  pub after : List Token
  pub all : tokens ≡ before ++ here ∷ after
  pub placed : place ≡ here.place
  pub begins : BeginsWithin depth_limit before

-- no policy begins with the tokens up to one of them
pub record UnexpectedToken (tokens : List Token) (place : Place) : Type 0 where
  pub at : BehindBeginning tokens place
  pub none_begins : ¬ Begins (at.before ++ at.here ∷ [])

-- a policy begins with the tokens, but they are none
pub record UnexpectedEnd (tokens : List Token) (end place : Place) : Type 0 where
  pub placed : place ≡ end
  pub begins : BeginsWithin depth_limit tokens
  pub none_reads : (tree : PolicyTree) → ¬ Reads tokens tree

abbrev pub UnexpectedAt : List Token → (end place : Place) → Type 0
UnexpectedAt tokens end place = UnexpectedToken tokens place ⊎ UnexpectedEnd tokens end place

-- policies begin with the tokens up to one of them, but none within the limit
pub record TooDeepAt (tokens : List Token) (place : Place) : Type 0 where
  pub at : BehindBeginning tokens place
  pub begins : Begins (at.before ++ at.here ∷ [])
  pub none_within : ¬ BeginsWithin depth_limit (at.before ++ at.here ∷ [])
