use Rattle.std.proofs.Common.{ap, map}
use Rattle.cfa_tree.specs.Plain.{plain_block, plain_policy}
use Rattle.cfa_schema.proofs.CollectedLemmas.{known_from_none}
use Rattle.cfa_schema.proofs.definitions.define.Goals as goal

pub loop-block-init : goal.loop-block-init
loop-block-init c =
    known_from_none (plain_policy c.args.policy.now) (map plain_block c.as_slice-block-items.result.now) c.new-definitions.result c.in_ok-sequence.sequence
    c.new-definitions.ensures c.in_ok-sequence.ensures (ap (map plain_block) c.as_slice-block-items.ensures)
