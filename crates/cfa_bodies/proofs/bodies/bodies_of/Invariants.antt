use Rattle.std.proofs.Common.{◌≡◌, ◌++◌, drop, map}
use Rattle.std.specs.List.{filter_map}
use Rattle.cfa_tree.specs.Plain.{plain_attribute}
use Rattle.cfa_vars.specs.Scopes.{in_scope}
use Rattle.cfa_schema.specs.Seen.{tree_of}
use Rattle.cfa_bodies.specs.Bodies.{body_in}
use Rattle.cfa_bodies.proofs.bodies.bodies_of.Given as goal

abbrev pub invariant-loop-attribute : goal.invariant-loop-attribute
invariant-loop-attribute l =
    l.bodies.items ++ filter_map (body_in (tree_of l.checked) (in_scope l.scopes) l.choice l.promise_type) (map plain_attribute (drop l.attribute-index l.promise.attributes))
    ≡ filter_map (body_in (tree_of l.checked) (in_scope l.scopes) l.choice l.promise_type) (map plain_attribute l.promise.attributes)
