-- The refusals of the attributes of a promise or body: one that isn't in the table of its type, a second one of a name, and
-- those of their values.
use Rattle.std.specs.Prelude.{ℕ, Bool, true, List, [], ◌∷◌, map, Option, Some, None, is_some, if◌then◌else◌, ◌++◌}
use Rattle.std.specs.List.{flat_map}
use Rattle.std.specs.Str.{bytes_eq}
use Rattle.cfa_tree.specs.Tree.{ValueTree, AttributeTree, NamedTree}
use Rattle.cfa_kinds.specs.declared.kinds.Kind.{Kind}
use Rattle.cfa_values.specs.declared.refusals.Refusal.{Refusal}
use Rattle.cfa_values.specs.Refusals.{only_if}
use Rattle.cfa_values.specs.Values.{Setting, value_refusals, repeated}
use Rattle.cfa_values.specs.declared.refusals.Code.TheVariants.{UnknownAttribute}

-- ---- control

-- the value of the first attribute of a name
abbrev pub value_of : List ℕ → List AttributeTree → Option ValueTree
value_of name [] = None
value_of name (a ∷ rest) = if bytes_eq a.name name then Some a.value else value_of name rest

-- ---- attributes

abbrev pub attribute_name : AttributeTree → NamedTree
attribute_name a = record { name = a.name; place = a.place }

-- an attribute that isn't in the table, or the refusals of its value
abbrev pub attribute_by : Setting → AttributeTree → Option Kind → List Refusal
attribute_by s a None = only_if true UnknownAttribute a.place
attribute_by s a (Some kind) = value_refusals s kind a.value

abbrev pub attribute_refusals : Setting → (List ℕ → Option Kind) → AttributeTree → List Refusal
attribute_refusals s table a = attribute_by s a (table a.name)

-- the attributes of a promise or body: the second of one name, and each by itself
abbrev pub attributes_refusals : Setting → (List ℕ → Option Kind) → List AttributeTree → List Refusal
attributes_refusals s table attributes = repeated (map attribute_name attributes) ++ flat_map (attribute_refusals s table) attributes

abbrev pub has_attribute : List AttributeTree → List ℕ → Bool
has_attribute attributes name = is_some (value_of name attributes)
