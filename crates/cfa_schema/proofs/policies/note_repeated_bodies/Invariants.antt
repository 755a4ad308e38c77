use Rattle.std.proofs.Common.{◌≡◌, [], drop, map}
use Rattle.std.specs.List.{filter_map}
use Rattle.cfa_tree.specs.Plain.{plain_block}
use Rattle.cfa_values.specs.Refusals.{noted}
use Rattle.cfa_schema.specs.Valid.{body_name, repeated_bodies_after}
use Rattle.cfa_schema.proofs.PolicyLemmas.{repeated_pairs}
use Rattle.cfa_schema.proofs.policies.note_repeated_bodies.Given as goal

-- what was noted and what is left is what is noted of all
abbrev pub invariant-loop-block : goal.invariant-loop-block
invariant-loop-block l =
    noted l.first (repeated_pairs l.bodies (filter_map body_name (map plain_block (drop l.block-index l.blocks))))
    ≡ noted l.fn.first (repeated_bodies_after [] (filter_map body_name (map plain_block l.blocks)))
