use Rattle.std.proofs.Common.{◌≡◌, drop, map}
use Rattle.std.specs.List.{list_any}
use Rattle.cfa_main.specs.Searches.{has_clash, seen_finding}
use Rattle.cfa_main.proofs.searching.any_clashes.Given as goal

abbrev pub invariant-loop-finding : goal.invariant-loop-finding
invariant-loop-finding l = list_any has_clash (map seen_finding (drop l.finding-index l.found)) ≡ list_any has_clash (map seen_finding l.found)
