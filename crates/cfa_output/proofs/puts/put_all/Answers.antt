use Rattle.std.proofs.Common.{arith}
use Rattle.std.proofs.lemmas.Grind.{common_steps}
use Rattle.cfa_output.specs.Puts.{puts_more}
use Rattle.cfa_output.proofs.puts.put_all.Goals as goal

pub loop-count-preserved : goal.loop-count-preserved
loop-count-preserved g c = record {
  within = grind (arith, common_steps);
  put = puts_more c.args.bytes.now c.loop-count.count c.in-Ok.more (g.O.Sink.shown c.args.out.now) (g.O.Sink.shown c.loop-count.out) (g.O.Sink.shown c.put.new.self) c.loop-count.invariant.put c.in-Ok.ensures.shown.ok;
}
