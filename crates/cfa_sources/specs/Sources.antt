-- The files of a policy: the main file, and behind it the inputs that its tree names, numbered from 0 in this order. Each
-- is read to a tree, or refused with the line of its first fault under its own name.
use Rattle.std.specs.Prelude.{ℕ, ◌+◌, ◌≡◌, ◌<◌, List, [], ◌∷◌, ◌++◌, codes, length, take, Option, Some, option_map}
use Rattle.cfa_base.specs.declared.limits.TheConstants.{MOST_SOURCE_BYTES}
use Rattle.cfa_base.specs.declared.places.Place.{Place}
use Rattle.cfa_base.specs.Tokens.{Token}
use Rattle.cfa_base.specs.Lexing.{Lexes, FirstFault, bad_byte, unclosed_text, place_after, first_place}
use Rattle.cfa_lexer.specs.Lexed.{IsText, StopsBeingText, max_len}
use Rattle.cfa_tree.specs.Tree.{PolicyTree}
use Rattle.cfa_tree.specs.Grammar.{depth_limit, ReadsWithin}
use Rattle.cfa_parser.specs.Reading.{UnexpectedAt, TooDeepAt}
use Rattle.cfa_outside.specs.Inputs.{text_of}
use Rattle.cfa_output.specs.Lines.{source_long_line}
use Rattle.cfa_served.specs.Control.{inputs_of}
use Rattle.cfa_sources.specs.Lines.{line_at}

-- texts by their names
abbrev pub Texts : Type 0
Texts = List (List ℕ × List ℕ)

-- ---- one file

-- what is read of a file: the text of its name, up to one byte more than a source may have
abbrev pub source_of : Texts → (name : List ℕ) → Option (List ℕ)
source_of texts name = option_map (take (MOST_SOURCE_BYTES + 1)) (text_of texts name)

-- the source is a text that reads as the tree, no longer and no deeper than may be, as the file of this number
pub record ReadsSource (file : ℕ) (source : List ℕ) (tree : PolicyTree) : Type 0 where
  pub tokens : List Token
  pub is_text : IsText source
  pub lexes : Lexes (first_place file) source tokens
  pub reads : ReadsWithin depth_limit tokens tree

-- the source of the file of this number and name is refused with this line: for its length first, then for what isn't
-- UTF-8, then for its first byte that begins no token or its text that isn't closed, then for its first token that can't
-- stand there or is too deep
pub data RefusesSource (file : ℕ) (name source : List ℕ) : (line : List ℕ) → Type 0 where
  too_long : max_len < length source → RefusesSource file name source (source_long_line name)
  not_text : (place : Place) → StopsBeingText source file place →
      RefusesSource file name source (line_at name place (codes "L3") (codes "NotText"))
  begins_no_token : (place : Place) → IsText source →
      FirstFault (first_place file) source (bad_byte place) →
      RefusesSource file name source (line_at name place (codes "L1") (codes "BadByte"))
  unclosed : (place : Place) → IsText source →
      FirstFault (first_place file) source (unclosed_text place) →
      RefusesSource file name source (line_at name place (codes "L2") (codes "UnclosedText"))
  unexpected : (tokens : List Token) (place : Place) → IsText source →
      Lexes (first_place file) source tokens →
      UnexpectedAt tokens (place_after (first_place file) source) place →
      RefusesSource file name source (line_at name place (codes "P1") (codes "Unexpected"))
  too_deep : (tokens : List Token) (place : Place) → IsText source →
      Lexes (first_place file) source tokens → TooDeepAt tokens place →
      RefusesSource file name source (line_at name place (codes "P2") (codes "TooDeep"))

-- the text of this name is there, and is read to the tree
pub record ReadsFile (texts : Texts) (file : ℕ) (name : List ℕ) (tree : PolicyTree) : Type 0 where
  pub source : List ℕ
  pub found : source_of texts name ≡ Some source
  pub reads : ReadsSource file source tree

-- the text of this name is there, and is refused with the line
pub record RefusesFile (texts : Texts) (file : ℕ) (name line : List ℕ) : Type 0 where
  pub source : List ℕ
  pub found : source_of texts name ≡ Some source
  pub refuses : RefusesSource file name source line

-- ---- several files

-- the files of these names are read to these trees, numbered from this number on
pub data ReadsFiles (texts : Texts) :
    (file : ℕ) → (names : List (List ℕ)) → (trees : List PolicyTree) → Type 0 where
  no_file : {file : ℕ} → ReadsFiles texts file [] []
  a_file : {file : ℕ} {name : List ℕ} {tree : PolicyTree}
      {names : List (List ℕ)} {trees : List PolicyTree} →
      ReadsFile texts file name tree → ReadsFiles texts (file + 1) names trees →
      ReadsFiles texts file (name ∷ names) (tree ∷ trees)

-- a file of this number and name is next among the inputs: all those before it are read
pub record InputIsNext (texts : Texts) (inputs : List (List ℕ))
    (file : ℕ) (name : List ℕ) : Type 0 where
  pub before : List (List ℕ)
  pub after : List (List ℕ)
  pub trees : List PolicyTree
  pub stands : inputs ≡ before ++ name ∷ after
  pub read : ReadsFiles texts 1 before trees
  pub number : file ≡ length before + 1

-- the main file is read first, and then the inputs that its tree names, one after the other
pub data IsNext (texts : Texts) (policy : List ℕ) : (file : ℕ) → (name : List ℕ) → Type 0 where
  main_file : IsNext texts policy 0 policy
  an_input : {main : PolicyTree} {file : ℕ} {name : List ℕ} →
      ReadsFile texts 0 policy main → InputIsNext texts (inputs_of main) file name →
      IsNext texts policy file name

-- all files of a policy are read: the main file, and the inputs that its tree names
pub record ReadsPolicy (texts : Texts) (policy : List ℕ)
    (main : PolicyTree) (inputs : List PolicyTree) : Type 0 where
  pub main_read : ReadsFile texts 0 policy main
  pub inputs_read : ReadsFiles texts 1 (inputs_of main) inputs

-- ---- which name is read next

-- this name alone is read
abbrev pub IsNamed : (name : List ℕ) → Texts → List ℕ → Type 0
IsNamed name texts next = next ≡ name

-- the name is that of the file of a policy that is read next
abbrev pub IsNextFile : (policy : List ℕ) → Texts → List ℕ → Type 0
IsNextFile policy texts next = (file : ℕ) × IsNext texts policy file next
