use Rattle.std.proofs.Common.{◌∙◌}
use Rattle.cfa_tree.specs.Plain.{plain_promise}
use Rattle.cfa_values.specs.Seen.{seen_context}
use Rattle.cfa_schema.specs.Valid.{promise_refusals}
use Rattle.cfa_values.specs.Noted.{noted_more}
use Rattle.cfa_schema.proofs.promises.note_promises.Goals as goal

pub loop-promise-preserved : goal.loop-promise-preserved
loop-promise-preserved c =
    noted_more plain_promise (promise_refusals (seen_context c.args.context.now) c.args.promise_type) c.args.promises.now c.loop-promise.promise-index c.promise-item.result
    c.loop-promise.first c.note_promise.new.first c.loop-promise-test.true c.promise-item.is c.in_ok-note_promise.ensures
    ∙ c.loop-promise.invariant
