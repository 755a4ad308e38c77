-- Of the code alone: what an argument that was read gives, and what is found in arguments, behind references.
use Rattle.std.specs.Prelude.{ℕ, List, Option, Some, None, Result, Ok, Err}
use Rattle.std.specs.Borrow.{Bor}
use Rattle.cfa_base.specs.Patterns.{is_pattern}
use Rattle.cfa_base.specs.declared.patterns.How.TheVariants.{Whole}
use Rattle.cfa_functions.specs.declared.answering.Answer.{Answer}
use Rattle.cfa_functions.specs.declared.answering.Lack.{Lack}
use Rattle.cfa_functions.specs.declared.answering.Lack.TheVariants.{Hidden}
use Rattle.cfa_functions.specs.declared.reading.Given.{Given}
use Rattle.cfa_functions.specs.declared.reading.Given.TheVariants.{Text, List as items_given, Unresolved, TooLong}
use Rattle.cfa_functions.specs.Functions.{Argument, a_text, a_list, unresolved, too_long, both, applied, found_by, where_holds, matches_whole, class_answer}

abbrev pub argument_of : Given → Argument
argument_of (Text content) = a_text content
argument_of (items_given items) = a_list items.now
argument_of Unresolved = unresolved
argument_of TooLong = too_long

abbrev pub seen : {A : Type 0} → Result (Bor A) Lack → Result A Lack
seen result = applied (λ x. x.now) result

abbrev pub seen_both : {A B : Type 0} → Result (Bor A × Bor B) Lack → Result (A × B) Lack
seen_both result = applied (λ a. (a.0.now, a.1.now)) result

-- a text that is none is hidden
abbrev pub text_or_hidden : Option (Bor (List ℕ)) → Result (List ℕ) Lack
text_or_hidden (Some text) = Ok text.now
text_or_hidden None = Err Hidden

-- what a pattern, where it reads, answers for a text
abbrev pub pattern_answer : Result (List ℕ) Lack → Result (List ℕ) Lack → Answer
pattern_answer pattern text =
    class_answer (applied (λ a. matches_whole a.0 a.1) (both (found_by (where_holds (is_pattern Whole)) pattern) text))

-- texts that were joined, unless they lack something
abbrev pub joined_so_far : Option Lack → List ℕ → Result (List ℕ) Lack
joined_so_far None whole = Ok whole
joined_so_far (Some lack) whole = Err lack
