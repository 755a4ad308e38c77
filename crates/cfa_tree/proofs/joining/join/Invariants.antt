use Rattle.std.proofs.Common.{◌≡◌, map}
use Rattle.std.specs.List.{flat_map}
use Rattle.cfa_tree.specs.Plain.{plain_block, plain_policy}
use Rattle.cfa_tree.proofs.joining.join.Given as goal

abbrev pub invariant-loop-part : goal.invariant-loop-part
invariant-loop-part l = map plain_block l.blocks.items ≡ flat_map plain_policy l.yielded
