-- What a refusal says: why the edits are refused, or that memory was wanting.
use Rattle.std.specs.Prelude.{◌≡◌, Result, Err}
use Rattle.cfa_edits.specs.Edits.{Lines}
use Rattle.cfa_edits.specs.declared.edits.EditErr.{EditErr}
use Rattle.cfa_edits.specs.declared.edits.EditErr.TheVariants.{NoAnchor, FieldCount, NoMemory}

-- an answer other than want of memory is the refusal of the edits
abbrev pub IsRefusalOf : Result Lines EditErr → EditErr → Type 0
IsRefusalOf answer NoAnchor = answer ≡ Err NoAnchor
IsRefusalOf answer FieldCount = answer ≡ Err FieldCount
IsRefusalOf answer NoMemory = Unit {0}
