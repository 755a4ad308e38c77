-- The place of a name in a list of names is the first at which it stands, from 0; so is the place of a pair of names, say
-- of the type and the name of a body, in a list of pairs. A name is listed where it stands in a list.
use Rattle.std.specs.Prelude.{ℕ, Bool, ◌&&◌, List, Option}
use Rattle.std.specs.List.{position, list_any}
use Rattle.std.specs.Str.{bytes_eq}

abbrev pub Text : Type 0
Text = List ℕ

abbrev pub place_of : List Text → Text → Option ℕ
place_of names name = position (λ other. bytes_eq name other) names

abbrev pub is_listed : List Text → Text → Bool
is_listed names name = list_any (λ other. bytes_eq other name) names

abbrev pub same_pair : Text × Text → Text × Text → Bool
same_pair pair other = bytes_eq pair.0 other.0 && bytes_eq pair.1 other.1

abbrev pub pair_place_of : List (Text × Text) → Text × Text → Option ℕ
pair_place_of pairs pair = position (λ other. same_pair pair other) pairs
