-- What a classes promise raises: for each combination the class that its canonified promiser names, to the lesser of its guard's
-- and its expression's status. All combinations read the state before the promise. It does nothing as a whole where a name that
-- it reads refers to nothing, where it has too many combinations or a list of it too many items, or where in one of them a text
-- or call is too long or a call is unresolved. A class text that is no expression stops its own combination.
--
-- A class that is raised to Maybe is handed the source of the first Maybe class in the guard, else in the expressions.
use Rattle.std.specs.Prelude.{ℕ, Bool, true, false, List, [], ◌∷◌, ◌++◌, codes, map, Option, Some, None}
use Rattle.std.specs.List.{list_any, filter_map}
use Rattle.std.specs.Option.{option_or}
use Rattle.cfa_tree.specs.ClassTexts.{expression_of}
use Rattle.cfa_tree.specs.Tree.{ExprTree, ValueTree, text, word, reference, list_reference, list, call, ValueTrees, no_value, more_values, PromiseTree}
use Rattle.cfa_statuses.specs.declared.levels.Status.{Status}
use Rattle.cfa_statuses.specs.declared.levels.Status.TheVariants.{No, Yes}
use Rattle.cfa_statuses.specs.Status.{swapped, lesser, greater, value_of as status_of}
use Rattle.cfa_values.specs.Attributes.{value_of}
use Rattle.cfa_vars.specs.declared.expanding.Expanded.{Expanded}
use Rattle.cfa_vars.specs.declared.expanding.Expanded.TheVariants.{Done, Unresolved as unset, TooLong as past}
use Rattle.cfa_vars.specs.Scopes.{InScope, look}
use Rattle.cfa_vars.specs.Expansion.{Chosen, expanded}
use Rattle.cfa_functions.specs.declared.answering.Answer.{Answer}
use Rattle.cfa_functions.specs.declared.answering.Answer.TheVariants.{Text, Class, Unresolved, TooLong}
use Rattle.cfa_functions.specs.declared.reading.ValueText.{ValueText}
use Rattle.cfa_functions.specs.declared.reading.ValueText.TheVariants.{Text as whole_text, Unresolved as text_unresolved, TooLong as text_too_long}
use Rattle.cfa_functions.specs.Functions.{canonified}
use Rattle.cfa_functions.specs.Calls.{text_given, answer_of, referred_list}
use Rattle.cfa_defines.specs.declared.saying.Said.{Said}
use Rattle.cfa_defines.specs.declared.saying.Said.TheVariants.{Says as says, NoExpression as no_expression, Stops as stops}
use Rattle.cfa_defines.specs.OwnTexts.{held_list}
use Rattle.cfa_defines.specs.Items.{items_or_none, items_written}
use Rattle.cfa_defines.specs.FirstMaybe.{first_maybe}

-- ---- what an expression says

abbrev pub said_of : (List ℕ → Status) → Option ExprTree → Said
said_of status None = no_expression
said_of status (Some e) = says (status_of e status) (first_maybe e status)

abbrev pub text_said : (List ℕ → Status) → List ℕ → Said
text_said status content = said_of status (expression_of content)

abbrev pub given_said : (List ℕ → Status) → ValueText → Said
given_said status (whole_text content) = text_said status content
given_said status (text_unresolved name) = stops
given_said status text_too_long = stops

abbrev pub yes_if : Bool → Status
yes_if true = Yes
yes_if false = No

abbrev pub answer_said : Answer → Said
answer_said (Text content) = stops
answer_said (Class holds) = says (yes_if holds) None
answer_said Unresolved = stops
answer_said TooLong = stops

module _ (status : List ℕ → Status) (scopes : InScope) (choice : Chosen) where
  -- a class text, or a call of a class function
  abbrev pub value_said : ValueTree → Said
  value_said (call name arguments place) = answer_said (answer_of scopes choice name arguments)
  value_said (text content place) = given_said status (text_given scopes choice (text content place))
  value_said (word name place) = given_said status (text_given scopes choice (word name place))
  value_said (reference name place) = given_said status (text_given scopes choice (reference name place))
  value_said (list_reference name place) = stops
  value_said (list items place) = stops

  -- an item of `and` or `or`; a list reference gives the items of its list
  abbrev pub items_by : Option (List ℕ) → Said → List Said
  items_by None said = said ∷ []
  items_by (Some name) said = map (text_said status) (items_or_none (held_list (look scopes name)))

  abbrev pub items_said : ValueTrees → List Said
  items_said no_value = []
  items_said (more_values value rest) = items_by (referred_list value) (value_said value) ++ items_said rest

  abbrev pub list_by : Option (List ℕ) → List Said → List Said
  list_by None items = items
  list_by (Some name) items = map (text_said status) (items_or_none (held_list (look scopes name)))

  abbrev pub list_said : ValueTree → List Said
  list_said value = list_by (referred_list value) (items_said (items_written value))

-- ---- several expressions

-- both by an operation on statuses; the first Maybe class is that of the first that has one
abbrev pub joined : (Status → Status → Status) → Said → Said → Said
joined op (says s first) (says t next) = says (op s t) (option_or first next)
joined op (says s first) no_expression = no_expression
joined op (says s first) stops = stops
joined op no_expression (says t next) = no_expression
joined op no_expression no_expression = no_expression
joined op no_expression stops = stops
joined op stops said = stops

abbrev pub all_said : List Said → Said
all_said [] = says Yes None
all_said (said ∷ more) = joined lesser said (all_said more)

abbrev pub one_said : List Said → Said
one_said [] = says No None
one_said (said ∷ more) = joined greater said (one_said more)

abbrev pub opposite : Said → Said
opposite (says s first) = says (swapped s) first
opposite no_expression = no_expression
opposite stops = stops

-- ---- what a combination raises

module _ (status : List ℕ → Status) (scopes : InScope) (promise : PromiseTree) where
  -- by `expression`, else `not`, else `and`, else `or`
  abbrev pub expressed_by : Chosen → (expression negation conjunction disjunction : Option ValueTree) → Said
  expressed_by choice (Some value) negation conjunction disjunction = value_said status scopes choice value
  expressed_by choice None (Some value) conjunction disjunction = opposite (value_said status scopes choice value)
  expressed_by choice None None (Some value) disjunction = all_said (list_said status scopes choice value)
  expressed_by choice None None None (Some value) = one_said (list_said status scopes choice value)
  expressed_by choice None None None None = stops

  abbrev pub expressed : Chosen → Said
  expressed choice =
      expressed_by choice (value_of (codes "expression") promise.attributes) (value_of (codes "not") promise.attributes)
      (value_of (codes "and") promise.attributes) (value_of (codes "or") promise.attributes)

  abbrev pub named_said : Expanded → Said → Option (List ℕ × Said)
  named_said (Done name) said = Some (canonified name, said)
  named_said (unset name) said = None
  named_said past said = None

  -- the class of a combination with what its expression says
  abbrev pub raised_in : Chosen → Option (List ℕ × Said)
  raised_in choice = named_said (expanded scopes choice promise.promiser) (expressed choice)

-- ---- what the promise raises

-- a class, its status, and the first Maybe class among its expressions
abbrev pub Raise : Type 0
Raise = List ℕ × (Status × Option (List ℕ))

abbrev pub stops_all : Option (List ℕ × Said) → Bool
stops_all None = true
stops_all (Some (name, says s first)) = false
stops_all (Some (name, no_expression)) = false
stops_all (Some (name, stops)) = true

abbrev pub raise_of : Option (List ℕ × Said) → Option Raise
raise_of None = None
raise_of (Some (name, says s first)) = Some (name, (s, first))
raise_of (Some (name, no_expression)) = None
raise_of (Some (name, stops)) = None

abbrev pub raises_from : (List ℕ → Status) → InScope → PromiseTree → List Chosen → List Raise
raises_from status scopes promise choices =
    elim (list_any (λ choice. stops_all (raised_in status scopes promise choice)) choices) [
      | true ↦ []
      | false ↦ filter_map (λ choice. raise_of (raised_in status scopes promise choice)) choices
    ]

abbrev pub raises_by : (List ℕ → Status) → InScope → PromiseTree → Option (List Chosen) → List Raise
raises_by status scopes promise None = []
raises_by status scopes promise (Some choices) = raises_from status scopes promise choices

unfoldable pub raises_of : (List ℕ → Status) → InScope → PromiseTree → Option (List Chosen) → List Raise
raises_of status scopes promise choices = raises_by status scopes promise choices
