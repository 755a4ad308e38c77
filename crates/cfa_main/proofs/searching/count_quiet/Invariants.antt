use Rattle.std.proofs.Common.{◌≡◌, ◌+◌, ◌≤◌, count_by, drop, map}
use Rattle.cfa_main.specs.Searches.{is_quiet, seen_finding}
use Rattle.cfa_main.proofs.searching.count_quiet.Given as goal

abbrev pub invariant-loop-finding : goal.invariant-loop-finding
invariant-loop-finding l = record {
  counted : l.quiet + count_by is_quiet (map seen_finding (drop l.finding-index l.found)) ≡ count_by is_quiet (map seen_finding l.found);
  few : l.quiet ≤ l.finding-index;
}
