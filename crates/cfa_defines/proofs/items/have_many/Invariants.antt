use Rattle.std.proofs.Common.{◌≡◌, ◌≤◌, ◌+◌, drop, map}
use Rattle.cfa_tree.specs.Plain.{plain_value}
use Rattle.cfa_tree.specs.Tree.{value_trees}
use Rattle.cfa_vars.specs.Scopes.{in_scope}
use Rattle.cfa_defines.specs.Items.{counted}
use Rattle.cfa_defines.proofs.items.have_many.Given as goal

abbrev pub invariant-loop-value : goal.invariant-loop-value
invariant-loop-value l =
    (l.count ≤ 4096)
    × (l.count + counted (in_scope l.scopes) (value_trees (map plain_value (drop l.value-index l.values))) ≡ counted (in_scope l.scopes) (value_trees (map plain_value l.values)))
