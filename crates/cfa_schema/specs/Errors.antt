-- The text that a check refused for its size, if it did.
use Rattle.std.specs.Prelude.{ℕ, List, Option, Some, None, Result, Ok, Err}
use Rattle.cfa_schema.specs.declared.errors.SchemaErr.{SchemaErr}
use Rattle.cfa_schema.specs.declared.errors.SchemaErr.TheVariants.{Refused, PatternTooBig, NoMemory}

abbrev pub size_refusal : SchemaErr → Option (List ℕ)
size_refusal (PatternTooBig text) = Some text
size_refusal (Refused refusal) = None
size_refusal NoMemory = None

abbrev pub refused_for_size : {T : Type 0} → Result T SchemaErr → Option (List ℕ)
refused_for_size (Ok _) = None
refused_for_size (Err error) = size_refusal error
