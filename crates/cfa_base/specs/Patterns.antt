-- The patterns of the crate `regex`. A whole match is one of the text between `\A(?:` and `)\z`, a match in part one of
-- the text itself. A text so built is a pattern where `regex` reads it and it isn't nested too deep.
use Rattle.std.specs.Prelude.{ℕ, Bool, false, List, [], ◌∷◌, ◌++◌, take, codes, Option, Some, None, is_some, nat_le, if◌then◌else◌, chars, Result, Ok, Err}
use Rattle.regex.specs.Patterns.{Re, Match, default_config, find_str, find_all_str}
use Rattle.regex.specs.Replace.{replaced_by}
use Rattle.regex_syntax.specs.Brackets.{Nested}
use Rattle.regex_syntax.specs.Grammar.{Names, read}
use Rattle.cfa_base.specs.Shown.{Shown, Untouched, HasFailed}
use Rattle.cfa_base.specs.declared.patterns.How.{How}
use Rattle.cfa_base.specs.declared.patterns.How.TheVariants.{Whole, Part}
use Rattle.cfa_base.specs.declared.patterns.PatternErr.{PatternErr}
use Rattle.cfa_base.specs.declared.patterns.PatternErr.TheVariants.{Bad, TooBig, NoMemory}

-- the text that `regex` is given
abbrev pub built_text : How → List ℕ → List ℕ
built_text Whole text = codes "\\A(?:" ++ text ++ codes ")\\z"
built_text Part text = text

-- a pattern as contracts see it: its text as in the policy, and how it was built
pub record PatternText : Type 0 where
  pub text : List ℕ
  pub how : How

abbrev pub pattern_of : How → List ℕ → PatternText
pattern_of how text = record { text = text; how = how }

-- the tree, unless it is nested too deep
abbrev pub within_limit : Option (Nested Re × Names) → Option Re
within_limit None = None
within_limit (Some found) = if nat_le found.0.depth default_config.nest_limit then Some found.0.value else None

-- what `regex` reads in a built text
unfoldable pub tree_of : List ℕ → Option Re
tree_of built = within_limit (read default_config (chars built))

-- the text, built so, is a pattern
unfoldable pub is_pattern : How → List ℕ → Bool
is_pattern how text = is_some (tree_of (built_text how text))

-- `regex` finds the tree in the text
abbrev pub finds : Option Re → List ℕ → Bool
finds None text = false
finds (Some tree) text = is_some (find_str tree text 0)

-- whether the pattern matches in the text; one that was built as a whole match then matches the whole text
unfoldable pub matches_in : PatternText → List ℕ → Bool
matches_in pattern text = finds (tree_of (built_text pattern.how pattern.text)) text

-- all of the matches, or the first alone
abbrev pub all_or_first : Bool → List Match → List Match
all_or_first all matches = if all then matches else take 1 matches

-- each of the matches of the tree, or the first alone, is replaced by the value as plain text
abbrev pub replaced_in : Option Re → List ℕ → List ℕ → Bool → List ℕ
replaced_in None text value all = text
replaced_in (Some tree) text value all = replaced_by (λ m. value) text 0 (all_or_first all (find_all_str tree text))

-- the text with the matches of the pattern from left to right, or with the first alone, replaced by the value
unfoldable pub replaced : PatternText → List ℕ → List ℕ → Bool → List ℕ
replaced pattern text value all = replaced_in (tree_of (built_text pattern.how pattern.text)) text value all

-- the text was refused for its size
abbrev pub refuses : List ℕ → List (List ℕ) → List (List ℕ)
refuses text refused = refused ++ text ∷ []

-- the text that a build refused for its size, if it did
abbrev pub refused_by : {T : Type 0} → List ℕ → Result T PatternErr → Option (List ℕ)
refused_by text (Ok _) = None
refused_by text (Err TooBig) = Some text
refused_by text (Err Bad) = None
refused_by text (Err NoMemory) = None

-- what a builder shows after a call that ends with the first text that is refused for its size, if one is: one of the
-- texts that the call builds. Where none is refused, the builder is as it was.
abbrev pub SizeRefusal :
    (Builds : List ℕ → Type 0) → Option (List ℕ) → (before after : Shown (List (List ℕ))) → Type 0
SizeRefusal Builds None before after = Untouched before after
SizeRefusal Builds (Some text) before after = Builds text × HasFailed (refuses text) before after
