use Rattle.std.proofs.Common.{◌∙◌, ap, map}
use Rattle.cfa_calls.specs.Cycles.{seen_call}
use Rattle.cfa_schema.proofs.CallLemmas.{bundle_called, body_passed}
use Rattle.cfa_schema.proofs.bundle_calls.calls_of.Goals as goal
use Rattle.cfa_schema.proofs.bundle_calls.calls_of.Goals.{in-Bundle+in_ok-add_if_first, in_default}

pub loop-block-preserved : goal.loop-block-preserved
loop-block-preserved c =
    let so_far = map seen_call c.loop-block.calls.items in
    elim c.match-block.branch [
      | in-Bundle+in_ok-add_if_first w ↦
          bundle_called c.as_slice-block-items.result.now c.loop-block.block-index c.block-item.result so_far c.loop-block.names c.loop-block-test.true c.block-item.is
          w.in-Bundle.bundle (map seen_call c.match-block.calls.items) c.match-block.names w.in-Bundle.is
          (ap (λ calls. map seen_call calls.items) w.calls-is ∙ w.in_ok-add_if_first.ensures.calls) (w.names-is ∙ w.in_ok-add_if_first.ensures.names)
          ∙ c.loop-block.invariant
      | in_default w ↦
          body_passed c.as_slice-block-items.result.now c.loop-block.block-index c.block-item.result so_far c.loop-block.names c.loop-block-test.true c.block-item.is
          w.in_default.field-0 (map seen_call c.match-block.calls.items) c.match-block.names w.in_default.is (ap (λ calls. map seen_call calls.items) w.calls-is) w.names-is
          ∙ c.loop-block.invariant
    ]
