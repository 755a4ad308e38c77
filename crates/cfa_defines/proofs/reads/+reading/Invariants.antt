use Rattle.std.proofs.Common.{◌≡◌, ◌++◌, drop, map}
use Rattle.cfa_tree.specs.Plain.{plain_value}
use Rattle.cfa_tree.specs.Tree.{value_trees}
use Rattle.cfa_defines.specs.OwnTexts.{reads_among}
use Rattle.cfa_defines.proofs.reads.+reading.Given as goal

-- what was read and what the values that are left read is what all of them read
abbrev pub invariant-add_reads_among-loop-value : goal.invariant-add_reads_among-loop-value
invariant-add_reads_among-loop-value l =
    l.reads.items ++ reads_among (value_trees (map plain_value (drop l.value-index l.values)))
    ≡ l.initial.reads.items ++ reads_among (value_trees (map plain_value l.values))
