-- The codes of refusals behind which something more is told.
use Rattle.std.specs.Prelude.{ℕ, Bool, ◌&&◌, ◌||◌, ◌==◌, not, List, codes}
use Rattle.std.specs.List.{starts_with}
use Rattle.std.specs.Str.{bytes_eq}

-- a refusal of the schema, but for a policy that has no sequence, which stands nowhere
abbrev pub is_of_schema : List ℕ → Bool
is_of_schema code = starts_with (λ a b. a == b) code (codes "S") && not (bytes_eq code (codes "S10"))

-- a value that isn't of the kind of its attribute
abbrev pub is_of_value : List ℕ → Bool
is_of_value code = bytes_eq code (codes "S4")

-- what isn't closed, or doesn't go on as a policy does
abbrev pub is_unfinished : List ℕ → Bool
is_unfinished code = bytes_eq code (codes "L1") || (bytes_eq code (codes "L2") || bytes_eq code (codes "P1"))
