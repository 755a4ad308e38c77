use Rattle.std.proofs.Common.{map, take}
use Rattle.cfa_main.specs.Searches.{AreFindings, seen_finding}
use Rattle.cfa_main.proofs.searching.find_clashes.Given as goal

abbrev pub invariant-loop-instance : goal.invariant-loop-instance
invariant-loop-instance l = AreFindings (take l.instance-index l.instances) (map seen_finding l.found.items)
