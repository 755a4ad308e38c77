use Rattle.std.proofs.Common.{◌≡◌, ◌++◌, drop, map}
use Rattle.cfa_tree.specs.Plain.{plain_value}
use Rattle.cfa_tree.specs.Tree.{value_trees}
use Rattle.cfa_vars.specs.Scopes.{in_scope}
use Rattle.cfa_bodies.specs.Bodies.{data_given}
use Rattle.cfa_bodies.proofs.arguments.data_given.Given as goal

abbrev pub invariant-loop-value : goal.invariant-loop-value
invariant-loop-value l =
    l.held.items ++ data_given (in_scope l.scopes) l.choice (value_trees (map plain_value (drop l.value-index l.values)))
    ≡ data_given (in_scope l.scopes) l.choice (value_trees (map plain_value l.values))
