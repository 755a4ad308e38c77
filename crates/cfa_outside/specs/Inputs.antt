-- Inputs are a finite map from names to texts, with the list of the names whose reading failed.
use Rattle.std.specs.Prelude.{ℕ, List, [], ◌∷◌, ◌++◌, if◌then◌else◌, Option, Some, None}
use Rattle.std.specs.Str.{bytes_eq}

-- texts by name, and the names whose reading failed, in the order of the readings
pub record Library : Type 0 where
  pub texts : List (List ℕ × List ℕ)
  pub failed : List (List ℕ)

-- the text of a name: of two texts with one name the first stands
abbrev pub text_of : List (List ℕ × List ℕ) → List ℕ → Option (List ℕ)
text_of [] name = None
text_of (t ∷ texts) name = if bytes_eq name t.0 then Some t.1 else text_of texts name

-- the reading of the name failed
abbrev pub fails : List ℕ → Library → Library
fails name library = record { texts = library.texts; failed = library.failed ++ name ∷ [] }
