use Rattle.std.proofs.Common.{◌≡◌, drop, map}
use Rattle.cfa_tree.specs.Plain.{plain_attribute}
use Rattle.cfa_values.specs.Attributes.{value_of}
use Rattle.cfa_values.proofs.attributes.value_named.Given as goal

-- the first attribute of the name is among those that are left
abbrev pub invariant-loop-attribute : goal.invariant-loop-attribute
invariant-loop-attribute l =
    value_of l.name (map plain_attribute (drop l.attribute-index l.attributes)) ≡ value_of l.name (map plain_attribute l.attributes)
