-- A policy that was read from its files: one part for each, at most 17 of them, each the tree that the grammar reads from a
-- text of at most 1,048,576 bytes, with the number of its file in its places.
use Rattle.std.specs.Prelude.{◌≡◌, ℕ, ◌+◌, ◌≤◌, List, [], ◌∷◌, ◌++◌, length}
use Rattle.std.specs.Str.{IsUtf8}
use Rattle.cfa_base.specs.declared.limits.TheConstants.{MOST_INPUTS, MOST_SOURCE_BYTES}
use Rattle.cfa_base.specs.Tokens.{Token}
use Rattle.cfa_base.specs.Lexing.{Lexes, first_place}
use Rattle.cfa_tree.specs.Tree.{PolicyTree}
use Rattle.cfa_tree.specs.Grammar.{ReadsWithin, depth_limit}

-- the tree is read from a text as the file of this number
pub record IsRead (file : ℕ) (tree : PolicyTree) : Type 0 where
  pub source : List ℕ
  pub tokens : List Token
  pub fits : length source ≤ MOST_SOURCE_BYTES
  pub utf8 : IsUtf8 source
  pub lexes : Lexes (first_place file) source tokens
  pub reads : ReadsWithin depth_limit tokens tree

-- the trees of files from this number on
pub data AreRead : ℕ → List PolicyTree → Type 0 where
  no_file : {file : ℕ} → AreRead file []
  a_file : {file : ℕ} {tree : PolicyTree} {more : List PolicyTree} → IsRead file tree → AreRead (file + 1) more → AreRead file (tree ∷ more)

abbrev pub joined : List PolicyTree → PolicyTree
joined [] = []
joined (tree ∷ more) = tree ++ joined more

-- the main file, and its inputs behind it
pub record IsSourced (policy : PolicyTree) : Type 0 where
  pub parts : List PolicyTree
  pub count : length parts ≤ MOST_INPUTS + 1
  pub read : AreRead 0 parts
  pub whole : policy ≡ joined parts
