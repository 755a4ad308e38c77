use Rattle.std.proofs.Common.{◌≡◌, ◌++◌, drop, map}
use Rattle.cfa_tree.specs.Plain.{plain_value}
use Rattle.cfa_tree.specs.Tree.{value_trees}
use Rattle.cfa_vars.specs.Scopes.{in_scope}
use Rattle.cfa_functions.specs.Calls.{arguments_given}
use Rattle.cfa_functions.specs.Given.{argument_of}
use Rattle.cfa_functions.proofs.reading.+reading.Given as goal

-- what was read and what is left give what all the values give
abbrev pub invariant-arguments_given-loop-place : goal.invariant-arguments_given-loop-place
invariant-arguments_given-loop-place l =
    map argument_of l.arguments.items ++ arguments_given (in_scope l.scopes) l.choice l.function l.place (value_trees (map plain_value (drop l.place l.values)))
    ≡ arguments_given (in_scope l.scopes) l.choice l.function 0 (value_trees (map plain_value l.values))
