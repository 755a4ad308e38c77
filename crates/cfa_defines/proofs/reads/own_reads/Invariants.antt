use Rattle.std.proofs.Common.{◌≡◌, ◌++◌, drop, map}
use Rattle.std.specs.List.{flat_map}
use Rattle.cfa_tree.specs.Plain.{plain_attribute, plain_promise}
use Rattle.cfa_defines.specs.OwnTexts.{own_reads, reads_of_attribute}
use Rattle.cfa_defines.proofs.reads.own_reads.Given as goal

abbrev pub invariant-loop-attribute : goal.invariant-loop-attribute
invariant-loop-attribute l =
    l.reads.items ++ flat_map (reads_of_attribute l.promise_type) (map plain_attribute (drop l.attribute-index l.promise.attributes))
    ≡ own_reads l.promise_type (plain_promise l.promise)
