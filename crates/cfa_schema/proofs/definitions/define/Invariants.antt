use Rattle.std.proofs.Common.{◌≡◌, drop, map}
use Rattle.cfa_tree.specs.Plain.{plain_block, plain_policy}
use Rattle.cfa_schema.specs.Collected.{with_blocks}
use Rattle.cfa_schema.specs.Defined.{definitions_of}
use Rattle.cfa_schema.proofs.definitions.define.Given as goal

-- what is defined so far, with what the blocks left define, is what the policy defines
abbrev pub invariant-loop-block : goal.invariant-loop-block
invariant-loop-block l = with_blocks l.definitions (map plain_block (drop l.block-index l.block-items)) ≡ definitions_of (plain_policy l.policy)
