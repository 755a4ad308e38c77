use Rattle.std.proofs.Common.{◌≡◌, drop, map}
use Rattle.std.specs.List.{list_any}
use Rattle.cfa_tree.specs.Plain.{plain_attribute}
use Rattle.cfa_vars.specs.Scopes.{in_scope}
use Rattle.cfa_defines.specs.VarsPromises.{has_long_list}
use Rattle.cfa_defines.proofs.choosing.have_long_list.Given as goal

abbrev pub invariant-loop-attribute : goal.invariant-loop-attribute
invariant-loop-attribute l =
    list_any (has_long_list (in_scope l.scopes) l.promise_type) (map plain_attribute (drop l.attribute-index l.attributes))
    ≡ list_any (has_long_list (in_scope l.scopes) l.promise_type) (map plain_attribute l.attributes)
