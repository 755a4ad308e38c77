-- What each function makes of its arguments, which are texts and lists. A call that lacks what its function wants is
-- unresolved. A text of more than 65,536 bytes is too long: as an argument it isn't looked at, and makes the call too
-- long, unless the call is unresolved without it; as what a text function makes it makes the call too long.
use Rattle.std.specs.Prelude.{ℕ, Bool, nat_lt, nat_le, List, [], ◌∷◌, ◌++◌, length, map, slice_get, Option, Some, None, is_some, option_and_then, Result, Ok, Err, if◌then◌else◌}
use Rattle.std.specs.Fmt.{decimal}
use Rattle.std.specs.Str.{bytes_eq}
use Rattle.std.specs.Str.Parse.{digits_value}
use Rattle.cfa_base.specs.Joined.{joined}
use Rattle.cfa_base.specs.declared.limits.TheConstants.{MOST_TEXT_BYTES}
use Rattle.cfa_base.specs.Decimals.{is_decimal}
use Rattle.cfa_base.specs.Patterns.{is_pattern, matches_in, pattern_of}
use Rattle.cfa_base.specs.declared.patterns.How.TheVariants.{Whole}
use Rattle.cfa_base.specs.Lexing.{is_word_byte}
use Rattle.cfa_vars.specs.Scopes.{InScope, look}
use Rattle.cfa_functions.specs.declared.answering.Answer.{Answer}
use Rattle.cfa_functions.specs.declared.answering.Answer.TheVariants.{Text, Class, Unresolved, TooLong}
use Rattle.cfa_functions.specs.declared.answering.Lack.{Lack}
use Rattle.cfa_functions.specs.declared.answering.Lack.TheVariants.{Missing, Hidden}
use Rattle.cfa_kinds.specs.declared.functions.TextFunction.{TextFunction}
use Rattle.cfa_kinds.specs.declared.functions.TextFunction.TheVariants.{Canonify, Concat, Join, Length, Nth}
use Rattle.cfa_kinds.specs.declared.functions.ClassFunction.{ClassFunction}
use Rattle.cfa_kinds.specs.declared.functions.ClassFunction.TheVariants.{Strcmp, Regcmp, IsVariable}
use Rattle.cfa_kinds.specs.declared.functions.Function.{Function}
use Rattle.cfa_kinds.specs.declared.functions.Function.TheVariants.{OfText, OfClass}

-- what an argument gives
pub data Argument : Type 0 where
  a_text : List ℕ → Argument
  a_list : List (List ℕ) → Argument
  unresolved : Argument
  too_long : Argument

-- ---- what a function wants: it is missing, or hidden in a text that is too long and isn't looked at

abbrev pub as_text : Argument → Result (List ℕ) Lack
as_text (a_text text) = Ok text
as_text (a_list items) = Err Missing
as_text unresolved = Err Missing
as_text too_long = Err Hidden

abbrev pub as_list : Argument → Result (List (List ℕ)) Lack
as_list (a_list items) = Ok items
as_list (a_text text) = Err Missing
as_list unresolved = Err Missing
as_list too_long = Err Hidden

module _ {A : Type 0} where
  abbrev pub or_missing : Option A → Result A Lack
  or_missing (Some x) = Ok x
  or_missing None = Err Missing

  -- what is wanted of the one argument
  abbrev pub of_one : (Argument → Result A Lack) → List Argument → Result A Lack
  of_one wanted [] = Err Missing
  of_one wanted (a ∷ []) = wanted a
  of_one wanted (a ∷ b ∷ more) = Err Missing

module _ {A B : Type 0} where
  -- two things that are wanted lack what either lacks, and miss it wherever one misses it
  abbrev pub both : Result A Lack → Result B Lack → Result (A × B) Lack
  both (Ok x) (Ok y) = Ok (x, y)
  both (Ok x) (Err lack) = Err lack
  both (Err Missing) second = Err Missing
  both (Err Hidden) (Ok y) = Err Hidden
  both (Err Hidden) (Err lack) = Err lack

  abbrev pub applied : (A → B) → Result A Lack → Result B Lack
  applied f (Ok x) = Ok (f x)
  applied f (Err lack) = Err lack

  -- what is found by something that is wanted
  abbrev pub found_by : (A → Option B) → Result A Lack → Result B Lack
  found_by f (Ok x) = or_missing (f x)
  found_by f (Err lack) = Err lack

  -- what is wanted of the two arguments
  abbrev pub of_two :
      (Argument → Result A Lack) → (Argument → Result B Lack) → List Argument → Result (A × B) Lack
  of_two first second [] = Err Missing
  of_two first second (a ∷ []) = Err Missing
  of_two first second (a ∷ b ∷ []) = both (first a) (second b)
  of_two first second (a ∷ b ∷ c ∷ more) = Err Missing

abbrev pub where_holds : {A : Type 0} → (A → Bool) → A → Option A
where_holds test x = if test x then Some x else None

-- a text that is a number without a sign, and without a leading zero
abbrev pub as_number : Argument → Result (List ℕ) Lack
as_number argument = found_by (where_holds is_decimal) (as_text argument)

-- a list that has an item
abbrev pub as_filled_list : Argument → Result (List (List ℕ)) Lack
as_filled_list argument = found_by (where_holds (λ items. nat_lt 0 (length items))) (as_list argument)

abbrev pub as_pattern : Argument → Result (List ℕ) Lack
as_pattern argument = found_by (where_holds (is_pattern Whole)) (as_text argument)

-- ---- what a function makes of it

abbrev pub canonical_byte : ℕ → ℕ
canonical_byte b = if is_word_byte b then b else 95

-- the text with an underscore for each byte that is no ASCII letter, digit or underscore
abbrev pub canonified : List ℕ → List ℕ
canonified text = map canonical_byte text

-- a text behind what was joined so far
abbrev pub followed_by : Result (List ℕ) Lack → Result (List ℕ) Lack → Result (List ℕ) Lack
followed_by first second = applied (λ a. a.0 ++ a.1) (both first second)

-- the texts one after the other
abbrev pub concatenated : List Argument → Result (List ℕ) Lack
concatenated [] = Ok []
concatenated (a ∷ arguments) = followed_by (as_text a) (concatenated arguments)

abbrev pub number_of : List ℕ → Option ℕ
number_of text = if is_decimal text then Some (digits_value 10 text) else None

-- the item at the place, from 0, that a text is the number of
unfoldable pub item_at : List (List ℕ) → List ℕ → Option (List ℕ)
item_at items text = option_and_then (λ place. slice_get items place) (number_of text)

abbrev pub limited : List ℕ → Answer
limited text = if nat_le (length text) MOST_TEXT_BYTES then Text text else TooLong

abbrev pub answer_for : Lack → Answer
answer_for Missing = Unresolved
answer_for Hidden = TooLong

abbrev pub text_answer : Result (List ℕ) Lack → Answer
text_answer (Ok text) = limited text
text_answer (Err lack) = answer_for lack

abbrev pub text_made : TextFunction → List Argument → Answer
text_made Canonify arguments = text_answer (applied canonified (of_one as_text arguments))
text_made Concat arguments = text_answer (concatenated arguments)
text_made Join arguments = text_answer (applied (λ a. joined a.0 a.1) (of_two as_text as_list arguments))
text_made Length arguments = text_answer (applied (λ items. decimal (length items)) (of_one as_list arguments))
text_made Nth arguments = text_answer (found_by (λ a. item_at a.0 a.1) (of_two as_filled_list as_number arguments))

abbrev pub class_answer : Result Bool Lack → Answer
class_answer (Ok holds) = Class holds
class_answer (Err lack) = answer_for lack

-- whether a pattern matches a whole text
abbrev pub matches_whole : List ℕ → List ℕ → Bool
matches_whole pattern text = matches_in (pattern_of Whole pattern) text

abbrev pub class_made : InScope → ClassFunction → List Argument → Answer
class_made scopes Strcmp arguments = class_answer (applied (λ a. bytes_eq a.0 a.1) (of_two as_text as_text arguments))
class_made scopes Regcmp arguments = class_answer (applied (λ a. matches_whole a.0 a.1) (of_two as_pattern as_text arguments))
class_made scopes IsVariable arguments = class_answer (applied (λ name. is_some (look scopes name)) (of_one as_text arguments))

abbrev pub made : InScope → Function → List Argument → Answer
made scopes (OfText f) arguments = text_made f arguments
made scopes (OfClass f) arguments = class_made scopes f arguments
