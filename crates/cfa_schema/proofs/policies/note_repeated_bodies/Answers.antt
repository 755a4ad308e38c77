use Rattle.std.proofs.Common.{◌∙◌, ap, ◌+◌, [], drop, map}
use Rattle.std.specs.List.{filter_map}
use Rattle.cfa_tree.specs.Plain.{plain_named, plain_block}
use Rattle.cfa_values.specs.Refusals.{noted}
use Rattle.cfa_schema.specs.Valid.{BodyName, body_name}
use Rattle.cfa_schema.proofs.PolicyLemmas.{repeated_pairs, repeated_by_pairs, name_passed, name_taken, pair_passed, pair_noted}
use Rattle.cfa_schema.proofs.policies.note_repeated_bodies.Goals as goal
use Rattle.cfa_schema.proofs.policies.note_repeated_bodies.Goals.{in-Body+in_ok-is_new, in_default}

pub loop-block-init : goal.loop-block-init
loop-block-init c =
    let bodies = filter_map body_name (map plain_block c.args.blocks.now) in
    ap (λ pairs. noted c.args.first.now (repeated_pairs pairs bodies)) c.new-bodies.ensures ∙ ap (noted c.args.first.now) (repeated_by_pairs [] bodies)

pub loop-block-preserved : goal.loop-block-preserved
loop-block-preserved c =
    let blocks = c.args.blocks.now in
    let i = c.loop-block.block-index in
    let left = filter_map body_name (map plain_block (drop (i + 1) blocks)) in
    let all = filter_map body_name (map plain_block (drop i blocks)) in
    elim c.match-block.branch [
      | in-Body+in_ok-is_new w ↦
          (let b : BodyName = record { type_word = w.in-Body.body.kind.name; named = plain_named w.in-Body.body.name } in
          pair_noted c.loop-block.bodies c.match-block.bodies (w.as_str.result.now, w.as_str-in-Body.result.now) b left all w.in_ok-is_new.is_new c.loop-block.first c.match-block.first
          (name_taken plain_block body_name blocks i c.block-item.result b c.loop-block-test.true c.block-item.is (ap (λ x. body_name (plain_block x)) w.in-Body.is))
          (λ j. (w.as_str.ensures j, w.as_str-in-Body.ensures j)) (w.bodies-is ∙ w.in_ok-is_new.ensures.ok) w.in_ok-is_new.ensures.answer (w.first-is ∙ w.note_if.ensures)
          ∙ c.loop-block.invariant)
      | in_default w ↦
          (pair_passed c.loop-block.bodies c.match-block.bodies left all c.loop-block.first c.match-block.first w.first-is w.bodies-is
          (name_passed plain_block body_name blocks i c.block-item.result c.loop-block-test.true c.block-item.is (ap (λ x. body_name (plain_block x)) w.in_default.is))
          ∙ c.loop-block.invariant)
    ]
