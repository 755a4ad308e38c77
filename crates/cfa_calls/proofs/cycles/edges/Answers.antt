use Rattle.cfa_calls.proofs.NumberLemmas.{edges_more}
use Rattle.cfa_calls.proofs.cycles.edges.Goals as goal

pub loop-call-preserved : goal.loop-call-preserved
loop-call-preserved c =
    edges_more c.args.names.now c.args.calls.now c.loop-call.call-index _ c.loop-call.edges.items c.push.new.self.items c.number.result c.number-in-loop-call.result c.loop-call-test.true
    c.loop-call.invariant c.number.ensures c.number-in-loop-call.ensures c.in_ok-push.ensures.items
