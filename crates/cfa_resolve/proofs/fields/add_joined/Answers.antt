use Rattle.std.proofs.Common.{arith}
use Rattle.std.specs.String.{string_bytes}
use Rattle.cfa_resolve.proofs.KeyLemmas.{join_step}
use Rattle.cfa_resolve.proofs.fields.add_joined.Goals as goal

pub loop-place-preserved : goal.loop-place-preserved
loop-place-preserved c =
    let step = join_step 44 (string_bytes c.args.whole.now) c.args.items.now c.loop-place.place c.index-items-place.result (omega arith) c.index-items-place.is in
    cc (c.in_ok-add_field.ensures, c.comma_before.ensures, c.as_str.ensures, c.loop-place.invariant, step)
