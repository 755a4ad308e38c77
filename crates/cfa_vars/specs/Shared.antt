-- Scopes under the names of their bundles, each name once: a bundle's scope is begun where the bundle has none.
use Rattle.std.specs.Prelude.{◌≡◌, ℕ, List, [], ◌∷◌, ◌++◌, map, if◌then◌else◌}
use Rattle.std.specs.FinMap as finite
use Rattle.cfa_base.specs.Index.{Text, is_listed, place_of}
use Rattle.cfa_base.specs.TextMaps.{TextMap}
use Rattle.cfa_vars.specs.Tables.{Table}

abbrev pub name_of : Text × Table → Text
name_of scope = scope.0

abbrev pub table_of : Text × Table → Table
table_of scope = scope.1

abbrev pub begun : List (Text × Table) → Text → List (Text × Table)
begun scopes name = if is_listed (map name_of scopes) name then scopes else scopes ++ (name, []) ∷ []

-- one bundle after the other
abbrev pub begun_each : List (Text × Table) → List Text → List (Text × Table)
begun_each scopes [] = scopes
begun_each scopes (name ∷ names) = begun_each (begun scopes name) names

-- of the code alone: the table of places answers where the scope of each name stands
abbrev pub PlacesAre : List (Text × Table) → TextMap ℕ → Type 0
PlacesAre scopes places = (name : Text) → finite.get places name ≡ place_of (map name_of scopes) name
