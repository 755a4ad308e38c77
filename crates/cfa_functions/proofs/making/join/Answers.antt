use Rattle.std.specs.String.{string_bytes}
use Rattle.cfa_functions.proofs.FunctionLemmas.{joined_step}
use Rattle.cfa_functions.proofs.making.join.Goals as goal

pub loop-place-preserved : goal.loop-place-preserved
loop-place-preserved c =
    let step = joined_step c.args.glue.now c.args.items.now c.loop-place.place c.index-items-place.result c.glue_before.result.now (string_bytes c.loop-place.whole) c.loop-place-test.true c.index-items-place.is c.glue_before.ensures c.loop-place.invariant in
    cc (c.in_ok-push_str.ensures.bytes, c.in_ok-push_str-2.ensures.bytes, c.as_str.ensures)
