use Rattle.cfa_outside.proofs.Above.{above_first}
use Rattle.cfa_outside.proofs.nodes.put_node.Goals as goal

pub returns-clause-ok : goal.returns-clause-ok
returns-clause-ok c = rw (c.min.ensures, above_first c.args.path.now) at c.put_from.ensures.ok
