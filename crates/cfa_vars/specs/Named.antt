-- A list of things under names: what stands under a name is the first thing of that name, and a thing is put in the
-- place of the one that had its name, or else at the end.
use Rattle.std.specs.Prelude.{ℕ, List, Option}
use Rattle.std.specs.Map.{lookup}
use Rattle.std.specs.Str.{bytes_eq}
use Rattle.indexmap.specs.IndexMap.{insert_entry}

module _ {X : Type 0} where
  abbrev pub thing_at : List (List ℕ × X) → List ℕ → Option X
  thing_at things name = lookup (bytes_eq name) things

  abbrev pub put : List (List ℕ × X) → List ℕ → X → List (List ℕ × X)
  put things name thing = insert_entry bytes_eq things name thing
