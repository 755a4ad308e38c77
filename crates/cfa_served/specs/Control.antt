-- What `body common control` says: the sequence of bundles that are activated, and the files that are read with it.
use Rattle.std.specs.Prelude.{ℕ, Bool, ◌&&◌, List, [], ◌∷◌, take, map, codes, Option, Some, None, if◌then◌else◌}
use Rattle.std.specs.Str.{bytes_eq}
use Rattle.cfa_base.specs.declared.limits.TheConstants.{MOST_INPUTS}
use Rattle.cfa_tree.specs.Tree.{ValueTree, list, AttributeTree, NamedTree, bundle, body, PolicyTree}
use Rattle.cfa_values.specs.Values.{known_items, name_in}
use Rattle.cfa_values.specs.Attributes.{value_of}

-- ---- control

-- `body common control`
abbrev pub is_control : NamedTree → NamedTree → Bool
is_control type_name name = bytes_eq type_name.name (codes "common") && bytes_eq name.name (codes "control")

-- the attributes of the first `body common control`
abbrev pub control_of : PolicyTree → List AttributeTree
control_of [] = []
control_of (bundle type_name name params sections place ∷ rest) = control_of rest
control_of (body type_name name params attributes place ∷ rest) = if is_control type_name name then attributes else control_of rest

-- the names that a list names before the run; a value that is no list names none
abbrev pub names_listed : ValueTree → List (List ℕ)
names_listed (list items place) = map name_in (known_items items)
names_listed v = []

abbrev pub names_given : List (List ℕ) → Option ValueTree → List (List ℕ)
names_given default None = default
names_given default (Some value) = names_listed value

-- the files that are read with a main file: the first 16 that its `inputs` name
unfoldable pub inputs_of : PolicyTree → List (List ℕ)
inputs_of policy = take MOST_INPUTS (names_given [] (value_of (codes "inputs") (control_of policy)))

-- the bundles that are activated; without a bundlesequence it is `main`
unfoldable pub sequence_of : PolicyTree → List (List ℕ)
sequence_of policy = names_given (codes "main" ∷ []) (value_of (codes "bundlesequence") (control_of policy))
