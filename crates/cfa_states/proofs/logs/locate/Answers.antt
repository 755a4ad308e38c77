use Rattle.cfa_states.proofs.FirstPlaces.{names_more, firsts_more}
use Rattle.cfa_states.proofs.logs.locate.Goals as goal

pub loop-place-preserved : goal.loop-place-preserved
loop-place-preserved c =
    let xs = c.args.instances.now in
    let x = c.index-instances-place.result in
    let i = c.loop-place.place in (
      names_more xs i x _ c.loop-place.names c.add_names.new.names c.loop-place-test.true c.index-instances-place.is c.loop-place.invariant.0 c.in_ok-add_names.ensures.names,
      firsts_more xs i x _ c.loop-place.names c.loop-place.firsts.items c.push.new.self.items c.in_ok-add_names.field-0 c.loop-place-test.true c.index-instances-place.is c.loop-place.invariant.0 c.loop-place.invariant.1 c.in_ok-push.ensures.items c.in_ok-add_names.ensures.first,
    )
