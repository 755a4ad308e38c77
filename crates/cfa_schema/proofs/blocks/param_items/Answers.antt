use Rattle.std.proofs.Common.{◌∙◌}
use Rattle.cfa_tree.specs.Plain.{plain_named}
use Rattle.cfa_values.specs.Kept.{seen_item}
use Rattle.cfa_schema.proofs.BlockLemmas.{seen_more}
use Rattle.cfa_schema.proofs.blocks.param_items.Goals as goal

pub loop-param-preserved : goal.loop-param-preserved
loop-param-preserved c =
    seen_more seen_item plain_named c.loop-param.items.items c.push.new.self.items (record { name = c.as_str.result; place = c.param-item.result.place })
    c.args.params.now c.loop-param.param-index c.param-item.result c.loop-param-test.true c.param-item.is c.in_ok-push.ensures.items
    (λ i. record { name = c.as_str.ensures i; place = c.param-item.result.place })
    ∙ c.loop-param.invariant
