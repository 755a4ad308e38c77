use Rattle.std.proofs.Common.{◌∙◌, arith}
use Rattle.cfa_served.proofs.IdLemmas.{one_id}
use Rattle.cfa_served.proofs.promise_ids.add_section.Goals as goal

pub loop-promise-preserved : goal.loop-promise-preserved
loop-promise-preserved c =
    let counted = c.loop-promise.invariant.1 in (
      one_id c.args.bundle.now c.in_ok-from_text.field-0 c.args.promises.now c.loop-promise.promise-index c.promise-item.result c.loop-promise.number c.loop-promise.ids.items c.push.new.self.items
          c.loop-promise-test.true c.promise-item.is c.in_ok-from_text.ensures c.in_ok-push.ensures.items
          ∙ c.loop-promise.invariant.0,
      omega (arith, counted),
    )
