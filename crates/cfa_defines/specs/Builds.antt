-- The patterns that a classes promise builds: where an expression of it, in one of its combinations, is a call, the text that this
-- call builds. An expression is the value of `expression`, else of `not`, else an item of `and`, else an item of `or`.
use Rattle.std.specs.Prelude.{ℕ, List, [], ◌∷◌, codes, Contains, Option, Some, None, unwrap_or}
use Rattle.cfa_tree.specs.Tree.{ValueTree, text, word, reference, list_reference, list, call, values_in, PromiseTree}
use Rattle.cfa_values.specs.Attributes.{value_of}
use Rattle.cfa_vars.specs.Scopes.{InScope}
use Rattle.cfa_vars.specs.Expansion.{Chosen}
use Rattle.cfa_functions.specs.Builds.{pattern_of_call, IsBuilt}
use Rattle.cfa_defines.specs.Items.{items_written}

abbrev pub pattern_of_value : InScope → Chosen → ValueTree → Option (List ℕ)
pattern_of_value scopes choice (text content place) = None
pattern_of_value scopes choice (word name place) = None
pattern_of_value scopes choice (reference name place) = None
pattern_of_value scopes choice (list_reference name place) = None
pattern_of_value scopes choice (list items place) = None
pattern_of_value scopes choice (call name arguments place) = pattern_of_call scopes choice name arguments

abbrev pub expressions_by : (expression negation conjunction disjunction : Option ValueTree) → List ValueTree
expressions_by (Some value) negation conjunction disjunction = value ∷ []
expressions_by None (Some value) conjunction disjunction = value ∷ []
expressions_by None None (Some value) disjunction = values_in (items_written value)
expressions_by None None None (Some value) = values_in (items_written value)
expressions_by None None None None = []

-- the expressions of a promise as they are written
abbrev pub expressions_of : PromiseTree → List ValueTree
expressions_of promise =
    expressions_by (value_of (codes "expression") promise.attributes) (value_of (codes "not") promise.attributes)
    (value_of (codes "and") promise.attributes) (value_of (codes "or") promise.attributes)

-- the text is built for one of these expressions
pub record BuiltAmong (scopes : InScope) (choice : Chosen) (expressions : List ValueTree) (content : List ℕ) : Type 0 where
  pub expression : ValueTree
  pub is_there : Contains expressions expression
  pub is_built : IsBuilt (pattern_of_value scopes choice expression) content

-- the text is built for an expression of the promise in one of its combinations
pub record BuiltBy (scopes : InScope) (promise : PromiseTree) (choices : Option (List Chosen)) (content : List ℕ) : Type 0 where
  pub choice : Chosen
  pub is_combination : Contains (unwrap_or choices []) choice
  pub is_built : BuiltAmong scopes choice (expressions_of promise) content
