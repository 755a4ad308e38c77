use Rattle.std.proofs.Common.{sym, subst}
use Rattle.cfa_outside.specs.Worlds.{HasParents}
use Rattle.cfa_outside.proofs.Parents.{empty_keeps}
use Rattle.cfa_outside.proofs.nodes.Nodes.new.Goals as goal

pub invariant_of-result : goal.invariant_of-result
invariant_of-result c = subst HasParents (sym c.new.ensures) empty_keeps
