use Rattle.std.proofs.Common.{◌≡◌, drop, map}
use Rattle.cfa_tree.specs.Plain.{plain_value}
use Rattle.cfa_tree.specs.Tree.{value_trees}
use Rattle.cfa_defines.specs.ClassPromises.{joined}
use Rattle.cfa_defines.specs.OfTheCode.{operation, together, items_in}
use Rattle.cfa_defines.proofs.expressions.items_said.Given as goal

abbrev pub invariant-loop-item : goal.invariant-loop-item
invariant-loop-item g l =
    (joined (operation l.join) l.said (together l.join (items_in l.context (value_trees (map plain_value (drop l.item-index l.items)))))
    ≡ together l.join (items_in l.context (value_trees (map plain_value l.items))))
    × (g.P.Patterns.shown l.pats ≡ g.P.Patterns.shown l.initial.pats)
