-- Laws of reading: a text has one tree, and one answer. So the clauses of `parse` say which answer comes, and not only
-- what holds where one came.
use Rattle.std.specs.Prelude.{◌≡◌, List}
use Rattle.cfa_base.specs.declared.places.Place.{Place}
use Rattle.cfa_base.specs.Tokens.{Token}
use Rattle.cfa_tree.specs.Tree.{PolicyTree}
use Rattle.cfa_tree.specs.Grammar.{Levels, depth_limit, ReadsWithin}
use Rattle.cfa_parser.specs.Reading.{UnexpectedAt, TooDeepAt}

-- what a source may be answered
pub data Answer : Type 0 where
  tree : PolicyTree → Answer
  unexpected : Place → Answer
  too_deep : Place → Answer

-- the tokens, which end at a place, have this answer
abbrev pub Answers : List Token → (end : Place) → Answer → Type 0
Answers tokens end (tree t) = ReadsWithin depth_limit tokens t
Answers tokens end (unexpected place) = UnexpectedAt tokens end place
Answers tokens end (too_deep place) = TooDeepAt tokens place

-- whatever the limit, a text has one tree
abbrev pub OneTree : Type 0
OneTree = (limit other : Levels) (tokens : List Token) (a b : PolicyTree) → ReadsWithin limit tokens a → ReadsWithin other tokens b → a ≡ b

abbrev pub OneAnswer : Type 0
OneAnswer = (tokens : List Token) (end : Place) (a b : Answer) → Answers tokens end a → Answers tokens end b → a ≡ b
