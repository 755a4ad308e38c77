use Rattle.std.proofs.Common.{◌≡◌, drop, map}
use Rattle.std.specs.List.{flat_map}
use Rattle.cfa_tree.specs.Plain.{plain_attribute}
use Rattle.cfa_values.specs.Seen.{seen_context, kind_in}
use Rattle.cfa_values.specs.Refusals.{noted}
use Rattle.cfa_values.specs.Attributes.{attribute_refusals, attributes_refusals}
use Rattle.cfa_values.proofs.attributes.note_attributes.Given as goal

-- what was noted and what is left is what is noted of all
abbrev pub invariant-loop-attribute : goal.invariant-loop-attribute
invariant-loop-attribute l =
    noted l.first (flat_map (attribute_refusals (seen_context l.context) (kind_in l.table)) (map plain_attribute (drop l.attribute-index l.attributes)))
    ≡ noted l.fn.first (attributes_refusals (seen_context l.context) (kind_in l.table) (map plain_attribute l.attributes))
