use Rattle.std.proofs.Common.{◌≡◌, ◌++◌, drop, map}
use Rattle.std.specs.List.{flat_map}
use Rattle.cfa_tree.specs.Plain.{plain_attribute}
use Rattle.cfa_schema.specs.Collected.{seen_pattern}
use Rattle.cfa_schema.specs.Valid.{pattern_in_attribute}
use Rattle.cfa_schema.proofs.patterns.add_of_attributes.Given as goal

-- the patterns so far, and those of the attributes left
abbrev pub invariant-loop-attribute : goal.invariant-loop-attribute
invariant-loop-attribute l =
    map seen_pattern l.patterns.items ++ flat_map (pattern_in_attribute l.body_type) (map plain_attribute (drop l.attribute-index l.attributes))
    ≡ map seen_pattern l.fn.patterns.items ++ flat_map (pattern_in_attribute l.body_type) (map plain_attribute l.attributes)
