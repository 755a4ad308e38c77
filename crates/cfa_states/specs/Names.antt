-- The name of an instance is its path with its key text.
use Rattle.std.specs.Prelude.{ℕ, List, map}
use Rattle.cfa_resolve.specs.declared.instances.Instance.{Instance}

abbrev pub name_of : Instance → List ℕ × List ℕ
name_of instance = (instance.path, instance.text)

abbrev pub names_of : List Instance → List (List ℕ × List ℕ)
names_of instances = map name_of instances
