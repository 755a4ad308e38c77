use Rattle.std.proofs.Common.{arith}
use Rattle.std.specs.String.{string_bytes}
use Rattle.cfa_base.specs.Escapes.{escaped}
use Rattle.cfa_resolve.proofs.KeyLemmas.{join_map_step}
use Rattle.cfa_resolve.proofs.fields.add_joined_escaped.Goals as goal

pub loop-place-preserved : goal.loop-place-preserved
loop-place-preserved c =
    let step = join_map_step escaped 44 (string_bytes c.args.whole.now) c.args.names.now c.loop-place.place c.index-names-place.result (omega arith) c.index-names-place.is in
    cc (c.in_ok-add_escaped.ensures, c.comma_before.ensures, c.loop-place.invariant, step)
