use Rattle.std.proofs.Common.{◌≡◌, drop, map}
use Rattle.cfa_tree.specs.Plain.{plain_value}
use Rattle.cfa_tree.specs.Tree.{value_trees}
use Rattle.cfa_vars.specs.Scopes.{in_scope}
use Rattle.cfa_functions.specs.Calls.{items_before, items_given}
use Rattle.cfa_functions.proofs.SoFar.{gathered}
use Rattle.cfa_functions.proofs.listing.items_given.Given as goal

-- what was gathered and the values that are left give what all the values give
abbrev pub invariant-loop-value : goal.invariant-loop-value
invariant-loop-value l =
    items_before (gathered l.is_too_long l.items) (items_given (in_scope l.scopes) l.choice (value_trees (map plain_value (drop l.value-index l.values))))
    ≡ items_given (in_scope l.scopes) l.choice (value_trees (map plain_value l.values))
