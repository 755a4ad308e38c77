-- The text that was refused for its size, if one was.
use Rattle.std.specs.Prelude.{ℕ, List, Option, Some, None, Result, Ok, Err}
use Rattle.cfa_scripts.specs.declared.errors.ScriptErr.{ScriptErr}
use Rattle.cfa_scripts.specs.declared.errors.ScriptErr.TheVariants.{TooLarge, PatternTooBig, NoMemory}
use Rattle.cfa_functions.specs.declared.calling.CallErr.{CallErr}
use Rattle.cfa_functions.specs.declared.calling.CallErr.TheVariants as calls

-- the error of a call
abbrev pub error_of : CallErr → ScriptErr
error_of (calls.PatternTooBig text) = PatternTooBig text
error_of calls.NoMemory = NoMemory

abbrev pub too_big_in : {X : Type 0} → Result X ScriptErr → Option (List ℕ)
too_big_in (Ok x) = None
too_big_in (Err TooLarge) = None
too_big_in (Err (PatternTooBig text)) = Some text
too_big_in (Err NoMemory) = None
