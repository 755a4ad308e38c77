use Rattle.cfa_hints.proofs.FindingLemmas.{stands_at}
use Rattle.cfa_hints.proofs.standing.stands_in.Goals as goal

pub returns-then-starts_with : goal.returns-then-starts_with
returns-then-starts_with c _ = stands_at c.args.bytes.now c.args.name.now c.loop-start.start c.starts_with.result c.starts_with.ensures.value c.if-starts_with.true
