use Rattle.std.proofs.Common.{◌≡◌, ◌++◌, drop, flat_map, map, string_bytes}
use Rattle.cfa_main.specs.Searches.{finding_line, seen_finding}
use Rattle.cfa_main.proofs.searching.append_findings.Given as goal

abbrev pub invariant-loop-finding : goal.invariant-loop-finding
invariant-loop-finding l =
    string_bytes l.text ++ flat_map finding_line (map seen_finding (drop l.finding-index l.found))
    ≡ string_bytes l.fn.text ++ flat_map finding_line (map seen_finding l.found)
