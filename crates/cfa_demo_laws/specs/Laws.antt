-- Laws of the demo policy: its text is read, without a fault, to the tree that is written out here, and this is valid. So a demo
-- is taken as the policy of this tree alone, and is never refused.
use Rattle.std.specs.Prelude.{◌≡◌, ℕ, ◌≤◌, List, [], ◌∷◌, codes}
use Rattle.cfa_base.specs.Tokens.{Token}
use Rattle.cfa_base.specs.Lexing.{Lexes, first_place}
use Rattle.cfa_demo.specs.Policies.{demo_text}
use Rattle.cfa_lexer.specs.Lexed.{IsText}
use Rattle.cfa_tree.specs.Tree.{PolicyTree}
use Rattle.cfa_tree.specs.Grammar.{depth_limit, ReadsWithin}
use Rattle.cfa_schema.specs.Valid.{Valid}
use Rattle.cfa_sources.specs.Sources.{Texts}
use Rattle.cfa_sources.specs.Checks.{Refuses, IsValidAs}
use Rattle.cfa_demo_laws.specs.Trees.{demo_tree}

-- the most promises that a demo has
abbrev pub most_promises : ℕ
most_promises = 10000

-- ---- its text

-- the text is one that isn't too long
abbrev pub DemoIsText : Type 0
DemoIsText = (n : ℕ) → n ≤ most_promises → IsText (demo_text n)

-- it is the text of tokens that read as the tree
abbrev pub DemoReads : Type 0
DemoReads =
    (n : ℕ) → n ≤ most_promises →
    (tokens : List Token) × Lexes (first_place 0) (demo_text n) tokens × ReadsWithin depth_limit tokens (demo_tree n)

-- ---- its tree

-- no line of the table of refusals applies to the tree
abbrev pub DemoIsValid : Type 0
DemoIsValid = (n : ℕ) → n ≤ most_promises → Valid (demo_tree n)

-- ---- the one text that it is read from, under its name

abbrev pub demo_name : List ℕ
demo_name = codes "demo"

abbrev pub demo_texts : (number : ℕ) → Texts
demo_texts number = (demo_name, demo_text number) ∷ []

abbrev pub DemoIsValidAs : Type 0
DemoIsValidAs = (n : ℕ) → n ≤ most_promises → IsValidAs (demo_texts n) demo_name (demo_tree n)

abbrev pub DemoIsOneTree : Type 0
DemoIsOneTree = (n : ℕ) (tree : PolicyTree) → n ≤ most_promises → IsValidAs (demo_texts n) demo_name tree → tree ≡ demo_tree n

abbrev pub DemoIsNeverRefused : Type 0
DemoIsNeverRefused = (n : ℕ) (line : List ℕ) → n ≤ most_promises → Refuses (demo_texts n) demo_name line → ⊥
