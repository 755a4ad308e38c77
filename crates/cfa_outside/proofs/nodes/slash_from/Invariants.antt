use Rattle.std.proofs.Common.{◌≡◌, drop}
use Rattle.cfa_outside.specs.Worlds.{above_from}
use Rattle.cfa_outside.proofs.nodes.slash_from.Given as goal

abbrev pub invariant-loop-i : goal.invariant-loop-i
invariant-loop-i l = above_from l.path l.i (drop l.i l.path) ≡ above_from l.path l.from (drop l.from l.path)
