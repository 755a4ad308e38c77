-- What was joined or gathered so far, where something was too long or nothing was.
use Rattle.std.specs.Prelude.{ℕ, Bool, true, false, List, Result, Ok, Err}
use Rattle.cfa_functions.specs.declared.answering.Lack.{Lack}
use Rattle.cfa_functions.specs.declared.answering.Lack.TheVariants.{Hidden}
use Rattle.cfa_functions.specs.declared.listing.ValueList.{ValueList}
use Rattle.cfa_functions.specs.declared.listing.ValueList.TheVariants.{Items, TooLong}

abbrev pub joined : Bool → List ℕ → Result (List ℕ) Lack
joined true whole = Err Hidden
joined false whole = Ok whole

abbrev pub gathered : Bool → List (List ℕ) → ValueList
gathered true items = TooLong
gathered false items = Items items
