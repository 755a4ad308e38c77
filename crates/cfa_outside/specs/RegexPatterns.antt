-- What the builder of patterns by `regex` shows of itself. A build whose number is listed is refused for its size, unless
-- the text is no pattern; any other is refused where `regex` finds the pattern too big.
use Rattle.std.specs.Prelude.{ℕ, List, Bool, true, false, Some, Result, Ok, Err}
use Rattle.cfa_base.specs.Shown.{Shown}
use Rattle.cfa_base.specs.declared.patterns.PatternErr.{PatternErr}
use Rattle.cfa_base.specs.declared.patterns.PatternErr.TheVariants.{Bad, TooBig, NoMemory}
use Rattle.cfa_outside.specs.declared.regex_patterns.RegexPatterns.{RegexPatterns}
use Rattle.cfa_outside.specs.Turns.{Numbering}

-- the texts that were refused for their size, in order
abbrev pub refused_texts : RegexPatterns → List (List ℕ)
refused_texts patterns = patterns.refused

-- the builds so far; a refusal for the size is counted as a fault
abbrev pub turns_of : RegexPatterns → Numbering
turns_of patterns = patterns.turns

abbrev pub shown_of : RegexPatterns → Shown (List (List ℕ))
shown_of patterns = record { told = Some (refused_texts patterns); faults = patterns.turns.faults }

abbrev pub is_too_big : {X : Type 0} → Result X PatternErr → Bool
is_too_big (Ok _) = false
is_too_big (Err TooBig) = true
is_too_big (Err Bad) = false
is_too_big (Err NoMemory) = false
