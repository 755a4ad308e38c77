-- Worked rows of functions.
use Rattle.std.proofs.Common.{◌≡◌, ℕ, List, [], ◌∷◌, ◌++◌, true, false, Some, None, codes, refl}
use Rattle.cfa_tree.specs.Tree.{ValueTree, word, reference, list_reference, list, call, value_trees}
use Rattle.cfa_tree.specs.lemmas.Written.{here, quoted}
use Rattle.cfa_vars.specs.declared.scoping.Datum.TheVariants.{Text as text_of, List as list_of}
use Rattle.cfa_vars.specs.References.{reference_at, pieces, list_reference_of}
use Rattle.cfa_vars.specs.Scopes.{Table, InScope, look, key_of}
use Rattle.cfa_vars.specs.Expansion.{scalar, expanded}
use Rattle.cfa_kinds.specs.Functions.{function_named}
use Rattle.cfa_functions.specs.declared.answering.Answer.{Answer}
use Rattle.cfa_functions.specs.declared.answering.Answer.TheVariants.{Text, Class, Unresolved, TooLong}
use Rattle.cfa_functions.specs.declared.reading.ValueText.TheVariants.{Unresolved as text_unresolved}
use Rattle.cfa_functions.specs.declared.listing.ValueList.TheVariants.{Items, Unresolved as list_unresolved}
use Rattle.cfa_base.specs.Patterns.{is_pattern}
use Rattle.cfa_base.specs.declared.patterns.How.TheVariants.{Whole}
use Rattle.cfa_kinds.specs.declared.functions.TextFunction.TheVariants.{Concat, Join, Length, Nth}
use Rattle.cfa_kinds.specs.declared.functions.ClassFunction.TheVariants.{Strcmp, Regcmp}
use Rattle.cfa_kinds.specs.declared.functions.Function.TheVariants.{OfClass}
use Rattle.cfa_functions.specs.Functions.{a_text, a_list, unresolved, too_long, item_at, text_made, class_made}
use Rattle.cfa_functions.specs.Builds.{pattern_in}
use Rattle.cfa_functions.specs.Calls.{answer_of, text_given, list_given}
use Rattle.std.specs.Fmt.{digits}

-- the bundle `main`, in which x is `v`, l the list of p and q, and e an empty list, beside the bundle `b` with a list m
abbrev own : Table
own = (codes "x", text_of (codes "v")) ∷ (codes "l", list_of (codes "p" ∷ codes "q" ∷ [])) ∷ (codes "e", list_of []) ∷ []

abbrev main : InScope
main = record { own = own; own_name = codes "main"; shared = (codes "b", (codes "m", list_of (codes "r" ∷ [])) ∷ []) ∷ [] }

abbrev answers : List ℕ → List ValueTree → Answer → Type 0
answers name arguments answer = answer_of main [] name (value_trees arguments) ≡ answer

-- an umlaut is two bytes, so two underscores
canonify : answers (codes "canonify") (quoted (codes "a-b/" ++ 195 ∷ 188 ∷ []) ∷ []) (Text (codes "a_b___"))
unfolding answer_of function_named expanded scalar look key_of pieces reference_at list_reference_of
canonify = refl

nth : answers (codes "nth") (quoted (codes "l") ∷ quoted (codes "1") ∷ []) (Text (codes "q"))
unfolding answer_of function_named item_at expanded scalar look key_of pieces reference_at list_reference_of
nth = refl

-- past the end, with a sign, with a leading zero, and no number at all
no_item : (answers (codes "nth") (quoted (codes "l") ∷ quoted (codes "2") ∷ []) Unresolved) × (answers (codes "nth") (quoted (codes "l") ∷ quoted (codes "+1") ∷ []) Unresolved) × (answers (codes "nth") (quoted (codes "l") ∷ quoted (codes "01") ∷ []) Unresolved) × (answers (codes "nth") (quoted (codes "l") ∷ quoted [] ∷ []) Unresolved)
unfolding answer_of function_named item_at expanded scalar look key_of pieces reference_at list_reference_of
no_item = (refl, refl, refl, refl)

first_item : answers (codes "nth") (list_reference (codes "main.l") here ∷ word (codes "0") here ∷ []) (Text (codes "p"))
unfolding answer_of function_named item_at expanded scalar look key_of pieces reference_at list_reference_of
first_item = refl

join : (answers (codes "join") (quoted (codes ",") ∷ quoted (codes "l") ∷ []) (Text (codes "p,q"))) × (answers (codes "join") (quoted (codes ",") ∷ quoted (codes "e") ∷ []) (Text [])) × (answers (codes "join") (quoted (codes ",") ∷ quoted (codes "b.m") ∷ []) (Text (codes "r")))
unfolding answer_of function_named expanded scalar look key_of pieces reference_at list_reference_of
join = (refl, refl, refl)

-- by a list reference, by a text that is wholly one, and by a nested call that names the list
length : (answers (codes "length") (list_reference (codes "l") here ∷ []) (Text (codes "2"))) × (answers (codes "length") (quoted (codes "@(l)") ∷ []) (Text (codes "2"))) × (answers (codes "length") (call (codes "concat") (value_trees (quoted (codes "l") ∷ [])) here ∷ []) (Text (codes "2"))) × (answers (codes "length") (quoted (codes "x") ∷ []) Unresolved)
unfolding answer_of function_named expanded scalar look key_of pieces reference_at list_reference_of digits
length = (refl, refl, refl, refl)

concat : (answers (codes "concat") [] (Text [])) × (answers (codes "concat") (quoted (codes "a") ∷ reference (codes "x") here ∷ word (codes "w") here ∷ []) (Text (codes "avw"))) × (answers (codes "concat") (quoted (codes "a") ∷ quoted (codes "$(z)") ∷ []) Unresolved)
unfolding answer_of function_named expanded scalar look key_of pieces reference_at list_reference_of
concat = (refl, refl, refl)

strcmp : (answers (codes "strcmp") (quoted (codes "$(x)") ∷ quoted (codes "v") ∷ []) (Class true)) × (answers (codes "strcmp") (quoted (codes "v") ∷ quoted (codes "vv") ∷ []) (Class false))
unfolding answer_of function_named expanded scalar look key_of pieces reference_at list_reference_of
strcmp = (refl, refl)

is_variable : (answers (codes "isvariable") (quoted (codes "x") ∷ []) (Class true)) × (answers (codes "isvariable") (quoted (codes "b.m") ∷ []) (Class true)) × (answers (codes "isvariable") (quoted (codes "const.n") ∷ []) (Class true)) × (answers (codes "isvariable") (quoted (codes "z") ∷ []) (Class false)) × (answers (codes "isvariable") (quoted (codes "$(z)") ∷ []) Unresolved)
unfolding answer_of function_named expanded scalar look key_of pieces reference_at list_reference_of
is_variable = (refl, refl, refl, refl, refl)

-- a call that the schema refuses: a class function inside another call, another number of arguments, no function
refused : (answers (codes "concat") (call (codes "strcmp") (value_trees (quoted [] ∷ quoted [] ∷ [])) here ∷ []) Unresolved) × (answers (codes "canonify") [] Unresolved) × (answers (codes "other") [] Unresolved)
unfolding answer_of function_named expanded scalar look key_of pieces reference_at list_reference_of
refused = (refl, refl, refl)

-- a text that is too long isn't looked at: what is unresolved without it goes first
too_long_first : (text_made Length (too_long ∷ []) ≡ TooLong) × (text_made Join (too_long ∷ a_list (codes "p" ∷ []) ∷ []) ≡ TooLong) × (text_made Nth (a_list (codes "p" ∷ []) ∷ too_long ∷ []) ≡ TooLong) × (text_made Nth (too_long ∷ a_text (codes "0") ∷ []) ≡ TooLong)
too_long_first = (refl, refl, refl, refl)

unresolved_first : (text_made Nth (unresolved ∷ too_long ∷ []) ≡ Unresolved) × (text_made Nth (a_list [] ∷ too_long ∷ []) ≡ Unresolved) × (text_made Nth (too_long ∷ a_text (codes "01") ∷ []) ≡ Unresolved) × (text_made Concat (too_long ∷ unresolved ∷ []) ≡ Unresolved) × (class_made main Strcmp (too_long ∷ []) ≡ Unresolved)
unresolved_first = (refl, refl, refl, refl, refl)

-- a pattern that doesn't read makes the call unresolved also where the text is too long, and so it is built then
pattern_first : (pattern : List ℕ) → (is_pattern Whole pattern ≡ false → class_made main Regcmp (a_text pattern ∷ too_long ∷ []) ≡ Unresolved) × (is_pattern Whole pattern ≡ true → class_made main Regcmp (a_text pattern ∷ too_long ∷ []) ≡ TooLong) × (pattern_in (OfClass Regcmp) (a_text pattern ∷ too_long ∷ []) ≡ Some pattern)
pattern_first pattern = (λ bad. rw bad refl, λ reads. rw reads refl, refl)

-- a list with a list reference put in whole, and the first name that is unresolved
listed : (list_given main [] (list (value_trees (quoted (codes "a") ∷ list_reference (codes "l") here ∷ quoted (codes "@(e)") ∷ [])) here) ≡ Items (codes "a" ∷ codes "p" ∷ codes "q" ∷ [])) × (list_given main [] (list (value_trees (list_reference (codes "z") here ∷ quoted (codes "$(y)") ∷ [])) here) ≡ list_unresolved (Some (codes "z"))) × (list_given main [] (quoted (codes "@(main.l)")) ≡ Items (codes "p" ∷ codes "q" ∷ []))
unfolding list_given expanded scalar look key_of pieces reference_at list_reference_of
listed = (refl, refl, refl)

-- the name that keeps a text from being made is told, but of a call
told : (text_given main [] (quoted (codes "$(x)$(z)$(y)")) ≡ text_unresolved (Some (codes "z"))) × (text_given main [] (reference (codes "y") here) ≡ text_unresolved (Some (codes "y"))) × (text_given main [] (call (codes "concat") (value_trees (quoted (codes "$(z)") ∷ [])) here) ≡ text_unresolved None)
unfolding function_named expanded scalar look key_of pieces reference_at list_reference_of
told = (refl, refl, refl)
