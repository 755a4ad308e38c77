-- A table of variables: names with their texts and lists.
use Rattle.std.specs.Prelude.{ℕ, List}
use Rattle.cfa_vars.specs.declared.scoping.Datum.{Datum}

abbrev pub Table : Type 0
Table = List (List ℕ × Datum)
