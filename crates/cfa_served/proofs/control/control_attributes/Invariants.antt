use Rattle.std.proofs.Common.{◌≡◌, drop, map}
use Rattle.cfa_tree.specs.Plain.{plain_block}
use Rattle.cfa_served.specs.Control.{control_of}
use Rattle.cfa_served.proofs.control.control_attributes.Given as goal

abbrev pub invariant-loop-block : goal.invariant-loop-block
invariant-loop-block l = control_of (map plain_block (drop l.block-index l.blocks)) ≡ control_of (map plain_block l.blocks)
