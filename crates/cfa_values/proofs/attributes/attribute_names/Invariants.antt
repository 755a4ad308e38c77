use Rattle.std.proofs.Common.{◌≡◌, ◌++◌, drop, map}
use Rattle.cfa_tree.specs.Plain.{plain_attribute}
use Rattle.cfa_values.specs.Kept.{seen_item}
use Rattle.cfa_values.specs.Attributes.{attribute_name}
use Rattle.cfa_values.proofs.attributes.attribute_names.Given as goal

-- the names so far and those that are left are all
abbrev pub invariant-loop-attribute : goal.invariant-loop-attribute
invariant-loop-attribute l =
    map seen_item l.names.items ++ map attribute_name (map plain_attribute (drop l.attribute-index l.attributes))
    ≡ map attribute_name (map plain_attribute l.attributes)
