-- How the compiled `regex` of a pattern stands to its text: it is what `regex` reads in the built text. What searches for
-- the pattern searches for that.
use Rattle.std.specs.Prelude.{◌≡◌, ℕ, List}
use Rattle.regex.specs.Patterns.{default_config}
use Rattle.regex.specs.Strings.{regex_source, regex_config, regex_pattern, matcher_pattern, IsReadFromSource}
use Rattle.regex.specs.declared.string.regex.Regex.{Regex}
use Rattle.regex.specs.declared.string.matcher.Matcher.{Matcher}
use Rattle.cfa_base.specs.Patterns.{built_text}
use Rattle.cfa_base.specs.declared.patterns.How.{How}

-- compiled from the built text, with the options that `regex` has by default
pub record IsBuilt (how : How) (text : List ℕ) (regex : Regex) : Type 0 where
  pub source : regex_source regex ≡ built_text how text
  pub config : regex_config regex ≡ default_config
  pub read : ∥ IsReadFromSource regex ∥₁

-- a matcher that searches for the compiled pattern
pub record IsMatcherOf (how : How) (text : List ℕ) (regex : Regex) (matcher : Matcher) : Type 0 where
  pub built : IsBuilt how text regex
  pub same : matcher_pattern matcher ≡ regex_pattern regex
