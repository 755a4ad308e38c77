use Rattle.std.proofs.Common.{◌∙◌, ◌++◌, sym, ap, append-nil}
use Rattle.cfa_base.specs.declared.limits.TheConstants.{MOST_SOURCE_BYTES}
use Rattle.cfa_tree.specs.Plain.{plain_block}
use Rattle.cfa_served.specs.Checked.{ids_in_block}
use Rattle.cfa_served.proofs.IdLemmas.{block_ids, few_here}
use Rattle.cfa_served.proofs.promise_ids.list_ids.Goals as goal
use Rattle.cfa_served.proofs.promise_ids.list_ids.Goals.{in-Bundle+in_ok-add_bundle, in_default}

pub add_bundle-requires : goal.add_bundle-requires
add_bundle-requires c =
    few_here MOST_SOURCE_BYTES c.args.blocks.now c.loop-block.block-index c.block-item.result _ c.loop-block-test.true c.requires (sym c.in-Bundle.is ∙ c.block-item.is)

pub loop-block-preserved : goal.loop-block-preserved
loop-block-preserved c =
    let items = c.loop-block.ids.items in
    elim c.match-block.branch [
      | in-Bundle+in_ok-add_bundle w ↦
          block_ids c.args.blocks.now c.loop-block.block-index c.block-item.result items c.match-block.ids.items c.loop-block-test.true c.block-item.is
          (ap (λ ids. ids.items) w.ids-is ∙ w.in_ok-add_bundle.ensures ∙ ap (λ b. items ++ ids_in_block (plain_block b)) (sym w.in-Bundle.is))
          ∙ c.loop-block.invariant
      | in_default w ↦
          block_ids c.args.blocks.now c.loop-block.block-index c.block-item.result items c.match-block.ids.items c.loop-block-test.true c.block-item.is
          (ap (λ ids. ids.items) w.ids-is ∙ sym (append-nil items) ∙ ap (λ b. items ++ ids_in_block (plain_block b)) (sym w.in_default.is))
          ∙ c.loop-block.invariant
    ]
