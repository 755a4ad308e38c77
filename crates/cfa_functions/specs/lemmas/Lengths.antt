-- A text that a value gives has at most 65,536 bytes.
use Rattle.std.proofs.Common.{◌≡◌, ◌≤◌, ℕ, Bool, true, false, List, ◌++◌, length, codes, Option, Some, None, if◌then◌else◌, refl, arith}
use Rattle.std.specs.Prelude.{nat_le, Result, Ok, Err}
use Rattle.std.proofs.lemmas.Bool.Decides.{nat_tests}
use Rattle.std.specs.Fmt.{decimal}
use Rattle.cfa_base.specs.Joined.{joined}
use Rattle.cfa_tree.specs.Tree.{ValueTree, text, word, reference, list_reference, list, call}
use Rattle.cfa_vars.specs.Scopes.{InScope}
use Rattle.cfa_vars.specs.Expansion.{Chosen, filled, first_unresolved, done_or_too_long, told_of, expanded}
use Rattle.cfa_kinds.specs.declared.functions.TextFunction.{TextFunction}
use Rattle.cfa_kinds.specs.declared.functions.TextFunction.TheVariants.{Canonify, Concat, Join, Length, Nth}
use Rattle.cfa_kinds.specs.declared.functions.Function.{Function}
use Rattle.cfa_kinds.specs.declared.functions.Function.TheVariants.{OfText, OfClass}
use Rattle.cfa_kinds.specs.Functions.{function_named}
use Rattle.cfa_functions.specs.declared.answering.Answer.TheVariants.{Text, TooLong}
use Rattle.cfa_functions.specs.declared.answering.Lack.{Lack}
use Rattle.cfa_functions.specs.declared.answering.Lack.TheVariants.{Missing, Hidden}
use Rattle.cfa_functions.specs.declared.reading.ValueText.{ValueText}
use Rattle.cfa_functions.specs.declared.reading.ValueText.TheVariants.{Text as whole_text, Unresolved as text_unresolved, TooLong as text_too_long}
use Rattle.cfa_functions.specs.Functions.{Argument, applied, of_one, of_two, found_by, as_text, as_list, as_filled_list, as_number, canonified, concatenated, item_at, text_answer, text_made}
use Rattle.cfa_functions.specs.Calls.{expanded_text, answered_text, nested, text_given, arguments_given}

abbrev pub IsWithin : ValueText → Type 0
IsWithin (whole_text content) = length content ≤ 65536
IsWithin (text_unresolved name) = Unit {0}
IsWithin text_too_long = Unit {0}

within_so : (b : Bool) (whole : List ℕ) → nat_le (length whole) 65536 ≡ b → IsWithin (expanded_text (done_or_too_long (if b then Some whole else None)))
within_so true whole h = grind (arith, nat_tests)
within_so false whole h = tt

told_so : (o : Option (List ℕ)) (whole : List ℕ) → IsWithin (expanded_text (told_of o whole))
told_so (Some name) whole = tt
told_so None whole = within_so (nat_le (length whole) 65536) whole refl

expanded_short : (scopes : InScope) (choice : Chosen) (content : List ℕ) → IsWithin (expanded_text (expanded scopes choice content))
unfolding expanded
expanded_short scopes choice content = told_so (first_unresolved scopes choice content) (filled scopes choice content)

limited_so : (b : Bool) (whole : List ℕ) → nat_le (length whole) 65536 ≡ b → IsWithin (answered_text (if b then Text whole else TooLong))
limited_so true whole h = grind (arith, nat_tests)
limited_so false whole h = tt

answer_short : (r : Result (List ℕ) Lack) → IsWithin (answered_text (text_answer r))
answer_short (Ok whole) = limited_so (nat_le (length whole) 65536) whole refl
answer_short (Err Missing) = tt
answer_short (Err Hidden) = tt

made_short : (f : TextFunction) (arguments : List Argument) → IsWithin (answered_text (text_made f arguments))
made_short Canonify arguments = answer_short (applied canonified (of_one as_text arguments))
made_short Concat arguments = answer_short (concatenated arguments)
made_short Join arguments = answer_short (applied (λ a. joined a.0 a.1) (of_two as_text as_list arguments))
made_short Length arguments = answer_short (applied (λ items. decimal (length items)) (of_one as_list arguments))
made_short Nth arguments = answer_short (found_by (λ a. item_at a.0 a.1) (of_two as_filled_list as_number arguments))

nested_short : (f : Option Function) (arguments : Function → List Argument) → IsWithin (nested f arguments)
nested_short None arguments = tt
nested_short (Some (OfText f)) arguments = made_short f (arguments (OfText f))
nested_short (Some (OfClass f)) arguments = tt

-- a text that a value gives is within the limit
pub text_is_within : (scopes : InScope) (choice : Chosen) (v : ValueTree) → IsWithin (text_given scopes choice v)
text_is_within scopes choice (text content place) = expanded_short scopes choice content
text_is_within scopes choice (word name place) = expanded_short scopes choice name
text_is_within scopes choice (reference name place) = expanded_short scopes choice (codes "$(" ++ name ++ codes ")")
text_is_within scopes choice (list_reference name place) = tt
text_is_within scopes choice (list items place) = tt
text_is_within scopes choice (call name arguments place) = nested_short (function_named name) (λ f. arguments_given scopes choice f 0 arguments)
