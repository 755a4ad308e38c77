-- The one text that a call builds as a pattern is the expanded first argument of `regcmp`. It is built wherever it is
-- short enough and neither argument is unresolved.
use Rattle.std.specs.Prelude.{◌≡◌, ℕ, List, [], ◌∷◌, Option, Some, None, Result, Ok, Err, IsTrue}
use Rattle.cfa_base.specs.Patterns.{is_pattern}
use Rattle.cfa_base.specs.declared.patterns.How.TheVariants.{Whole}
use Rattle.cfa_tree.specs.Tree.{ValueTrees}
use Rattle.cfa_vars.specs.Scopes.{InScope}
use Rattle.cfa_vars.specs.Expansion.{Chosen}
use Rattle.cfa_functions.specs.declared.answering.Lack.{Lack}
use Rattle.cfa_functions.specs.declared.answering.Lack.TheVariants.{Missing, Hidden}
use Rattle.cfa_functions.specs.declared.calling.CallErr.{CallErr}
use Rattle.cfa_functions.specs.declared.calling.CallErr.TheVariants.{PatternTooBig, NoMemory}
use Rattle.cfa_kinds.specs.declared.functions.ClassFunction.{ClassFunction}
use Rattle.cfa_kinds.specs.declared.functions.ClassFunction.TheVariants.{Strcmp, Regcmp, IsVariable}
use Rattle.cfa_kinds.specs.declared.functions.Function.{Function}
use Rattle.cfa_kinds.specs.declared.functions.Function.TheVariants.{OfText, OfClass}
use Rattle.cfa_kinds.specs.Functions.{function_named}
use Rattle.cfa_functions.specs.Functions.{Argument, as_text}
use Rattle.cfa_functions.specs.Calls.{arguments_given}

-- the pattern, where it is there and the text that it is held against isn't missing
abbrev pub pattern_built : Result (List ℕ) Lack → Result (List ℕ) Lack → Option (List ℕ)
pattern_built (Ok pattern) (Ok text) = Some pattern
pattern_built (Ok pattern) (Err Hidden) = Some pattern
pattern_built (Ok pattern) (Err Missing) = None
pattern_built (Err lack) text = None

abbrev pub pattern_among : List Argument → Option (List ℕ)
pattern_among [] = None
pattern_among (a ∷ []) = None
pattern_among (a ∷ b ∷ []) = pattern_built (as_text a) (as_text b)
pattern_among (a ∷ b ∷ c ∷ more) = None

abbrev pub class_pattern : ClassFunction → List Argument → Option (List ℕ)
class_pattern Strcmp arguments = None
class_pattern Regcmp arguments = pattern_among arguments
class_pattern IsVariable arguments = None

abbrev pub pattern_in : Function → List Argument → Option (List ℕ)
pattern_in (OfText f) arguments = None
pattern_in (OfClass f) arguments = class_pattern f arguments

abbrev pub pattern_by : Option Function → (Function → List Argument) → Option (List ℕ)
pattern_by None arguments = None
pattern_by (Some f) arguments = pattern_in f (arguments f)

-- the text that a call builds as a pattern, if it builds one
unfoldable pub pattern_of_call : InScope → Chosen → List ℕ → ValueTrees → Option (List ℕ)
pattern_of_call scopes choice name arguments =
    pattern_by (function_named name) (λ f. arguments_given scopes choice f 0 arguments)

-- the text is the one that is built, and is a pattern
pub record IsBuilt (pattern : Option (List ℕ)) (text : List ℕ) : Type 0 where
  pub built : pattern ≡ Some text
  pub reads : IsTrue (is_pattern Whole text)

-- the text that was refused for its size, where that is the error
abbrev pub refused_in : {T : Type 0} → Result T CallErr → Option (List ℕ)
refused_in (Ok answer) = None
refused_in (Err (PatternTooBig text)) = Some text
refused_in (Err NoMemory) = None
