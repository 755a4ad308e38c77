use Rattle.std.proofs.Common.{◌≡◌, drop, map}
use Rattle.cfa_tree.specs.Plain.{plain_named, plain_value}
use Rattle.cfa_tree.specs.Tree.{value_trees}
use Rattle.cfa_vars.specs.Scopes.{in_scope}
use Rattle.cfa_bodies.specs.Bodies.{data_given, bound, bound_after}
use Rattle.cfa_bodies.proofs.arguments.bind.Given as goal

abbrev pub invariant-loop-place : goal.invariant-loop-place
invariant-loop-place l =
    bound_after l.table (map plain_named (drop l.place l.params)) (data_given (in_scope l.scopes) l.choice (value_trees (map plain_value (drop l.place l.values))))
    ≡ bound (map plain_named l.params) (data_given (in_scope l.scopes) l.choice (value_trees (map plain_value l.values)))
