-- What a value gives. A text, word or reference gives its expanded text, and a nested call of a text function its answer.
-- A list reference, also a text that is wholly one, gives the items of its list. Where a function takes a list, another
-- text gives the items of the list that it names. A list gives its items, with those of a list reference in its place.
use Rattle.std.specs.Prelude.{ℕ, ◌+◌, Bool, true, false, List, [], ◌∷◌, ◌++◌, codes, Option, Some, None}
use Rattle.cfa_tree.specs.Tree.{ValueTree, text, word, reference, list_reference, list, call, ValueTrees, no_value, more_values}
use Rattle.cfa_vars.specs.declared.scoping.Datum.{Datum}
use Rattle.cfa_vars.specs.declared.scoping.Datum.TheVariants.{Text as text_of, List as list_of}
use Rattle.cfa_vars.specs.declared.expanding.Expanded.{Expanded}
use Rattle.cfa_vars.specs.declared.expanding.Expanded.TheVariants.{Done, Unresolved as Unset, TooLong as Past}
use Rattle.cfa_vars.specs.References.{list_reference_of}
use Rattle.cfa_vars.specs.Scopes.{InScope, look}
use Rattle.cfa_vars.specs.Expansion.{Chosen, expanded}
use Rattle.cfa_functions.specs.declared.answering.Answer.{Answer}
use Rattle.cfa_functions.specs.declared.answering.Answer.TheVariants.{Text, Class, Unresolved, TooLong}
use Rattle.cfa_functions.specs.declared.reading.ValueText.{ValueText}
use Rattle.cfa_functions.specs.declared.reading.ValueText.TheVariants.{Text as whole_text, Unresolved as text_unresolved, TooLong as text_too_long}
use Rattle.cfa_functions.specs.declared.listing.ValueList.{ValueList}
use Rattle.cfa_functions.specs.declared.listing.ValueList.TheVariants.{Items, Unresolved as list_unresolved, TooLong as list_too_long}
use Rattle.cfa_kinds.specs.declared.functions.Function.{Function}
use Rattle.cfa_kinds.specs.declared.functions.Function.TheVariants.{OfText, OfClass}
use Rattle.cfa_kinds.specs.Functions.{function_named, takes_list}
use Rattle.cfa_functions.specs.Functions.{Argument, a_text, a_list, unresolved, too_long, text_made, made}

-- ---- texts, and the arguments of calls

abbrev pub expanded_text : Expanded → ValueText
expanded_text (Done whole) = whole_text whole
expanded_text (Unset name) = text_unresolved (Some name)
expanded_text Past = text_too_long

abbrev pub answered_text : Answer → ValueText
answered_text (Text whole) = whole_text whole
answered_text (Class holds) = text_unresolved None
answered_text Unresolved = text_unresolved None
answered_text TooLong = text_too_long

abbrev pub text_argument : ValueText → Argument
text_argument (whole_text content) = a_text content
text_argument (text_unresolved name) = unresolved
text_argument text_too_long = too_long

-- the list that a variable holds
abbrev pub items_of : Option Datum → Argument
items_of None = unresolved
items_of (Some (text_of content)) = unresolved
items_of (Some (list_of items)) = a_list items

-- the list that a text names
abbrev pub list_named : InScope → Argument → Argument
list_named scopes (a_text name) = items_of (look scopes name)
list_named scopes (a_list items) = a_list items
list_named scopes unresolved = unresolved
list_named scopes too_long = too_long

-- the name of a value that is a list reference, or a text that is wholly one
abbrev pub referred_list : ValueTree → Option (List ℕ)
referred_list (text content place) = list_reference_of content
referred_list (word name place) = None
referred_list (reference name place) = None
referred_list (list_reference name place) = Some name
referred_list (list items place) = None
referred_list (call name arguments place) = None

abbrev pub list_argument : InScope → Option (List ℕ) → Argument → Argument
list_argument scopes None argument = list_named scopes argument
list_argument scopes (Some name) argument = items_of (look scopes name)

-- a value as the argument of a function that takes a list there, or a text, where its text is known
abbrev pub argument_at : InScope → Bool → ValueTree → Argument → Argument
argument_at scopes true value argument = list_argument scopes (referred_list value) argument
argument_at scopes false value argument = argument

-- the answer of a nested call, whose function is to answer a text
abbrev pub nested : Option Function → (Function → List Argument) → ValueText
nested None arguments = text_unresolved None
nested (Some (OfText f)) arguments = answered_text (text_made f (arguments (OfText f)))
nested (Some (OfClass f)) arguments = text_unresolved None

module _ (scopes : InScope) (choice : Chosen) where
  abbrev mutual
    -- the text that a value gives
    pub text_given : ValueTree → ValueText
    text_given (text content place) = expanded_text (expanded scopes choice content)
    text_given (word name place) = expanded_text (expanded scopes choice name)
    text_given (reference name place) = expanded_text (expanded scopes choice (codes "$(" ++ name ++ codes ")"))
    text_given (list_reference name place) = text_unresolved None
    text_given (list items place) = text_unresolved None
    text_given (call name arguments place) = nested (function_named name) (λ f. arguments_given f 0 arguments)

    -- what the values give as arguments of a function, from a place on
    pub arguments_given : Function → ℕ → ValueTrees → List Argument
    arguments_given f place no_value = []
    arguments_given f place (more_values value rest) =
        argument_at scopes (takes_list f place) value (text_argument (text_given value)) ∷ arguments_given f (place + 1) rest

abbrev pub answered : InScope → Option Function → (Function → List Argument) → Answer
answered scopes None arguments = Unresolved
answered scopes (Some f) arguments = made scopes f (arguments f)

-- the answer of a call
unfoldable pub answer_of : InScope → Chosen → List ℕ → ValueTrees → Answer
answer_of scopes choice name arguments =
    answered scopes (function_named name) (λ f. arguments_given scopes choice f 0 arguments)

-- ---- lists

-- the items of the list that a name refers to
abbrev pub items_under : List ℕ → Option Datum → ValueList
items_under name None = list_unresolved (Some name)
items_under name (Some (text_of content)) = list_unresolved (Some name)
items_under name (Some (list_of items)) = Items items

abbrev pub one_item : ValueText → ValueList
one_item (whole_text content) = Items (content ∷ [])
one_item (text_unresolved name) = list_unresolved name
one_item text_too_long = list_too_long

-- items before others; the first that is unresolved is told, and failing that, one that is too long
abbrev pub items_before : ValueList → ValueList → ValueList
items_before (Items items) (Items more) = Items (items ++ more)
items_before (Items items) (list_unresolved name) = list_unresolved name
items_before (Items items) list_too_long = list_too_long
items_before (list_unresolved name) more = list_unresolved name
items_before list_too_long (Items more) = list_too_long
items_before list_too_long (list_unresolved name) = list_unresolved name
items_before list_too_long list_too_long = list_too_long

module _ (scopes : InScope) (choice : Chosen) where
  abbrev pub listed : Option (List ℕ) → ValueList → ValueList
  listed None other = other
  listed (Some name) other = items_under name (look scopes name)

  -- what an item of a list gives
  abbrev pub item_given : ValueTree → ValueList
  item_given value = listed (referred_list value) (one_item (text_given scopes choice value))

  abbrev pub items_given : ValueTrees → ValueList
  items_given no_value = Items []
  items_given (more_values value rest) = items_before (item_given value) (items_given rest)

  abbrev pub own_items : ValueTree → ValueList
  own_items (list items place) = items_given items
  own_items (text content place) = list_unresolved None
  own_items (word name place) = list_unresolved None
  own_items (reference name place) = list_unresolved None
  own_items (list_reference name place) = list_unresolved None
  own_items (call name arguments place) = list_unresolved None

  -- the list that a value gives
  unfoldable pub list_given : ValueTree → ValueList
  list_given value = listed (referred_list value) (own_items value)
