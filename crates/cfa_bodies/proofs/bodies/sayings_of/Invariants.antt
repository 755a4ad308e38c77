use Rattle.std.proofs.Common.{◌≡◌, ◌++◌, drop, map}
use Rattle.std.specs.List.{filter_map}
use Rattle.cfa_tree.specs.Plain.{plain_attribute}
use Rattle.cfa_vars.specs.Scopes.{in_scope}
use Rattle.cfa_bodies.specs.Bodies.{saying_of}
use Rattle.cfa_bodies.proofs.bodies.sayings_of.Given as goal

abbrev pub invariant-loop-attribute : goal.invariant-loop-attribute
invariant-loop-attribute l =
    l.sayings.items ++ filter_map (saying_of (in_scope l.scopes) l.body_type) (map plain_attribute (drop l.attribute-index l.attributes))
    ≡ filter_map (saying_of (in_scope l.scopes) l.body_type) (map plain_attribute l.attributes)
