use Rattle.cfa_calls.proofs.LevelLemmas.{at_most_more, at_most_all}
use Rattle.cfa_calls.proofs.components.is_below.Goals as goal

pub loop-next-preserved : goal.loop-next-preserved
loop-next-preserved c =
    at_most_more c.args.levels.now c.args.row.now c.args.level c.loop-next.next-index c.loop-next.invariant c.loop-next-test.true c.if-levels-next.false

pub returns : goal.returns
returns c = λ _. at_most_all c.args.levels.now c.args.row.now c.args.level c.loop-next.next-index c.loop-next.invariant c.loop-next-test.false
