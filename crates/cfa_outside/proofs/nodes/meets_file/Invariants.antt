use Rattle.std.proofs.Common.{◌≡◌, drop}
use Rattle.std.specs.FinMap as map
use Rattle.std.specs.List.{list_any}
use Rattle.cfa_outside.specs.Worlds.{is_file, above, above_from}
use Rattle.cfa_outside.proofs.nodes.meets_file.Given as goal

abbrev pub invariant-loop-i : goal.invariant-loop-i
invariant-loop-i l =
    list_any (λ p. is_file (map.get l.rows p)) (above_from l.path l.i (drop l.i l.path)) ≡ list_any (λ p. is_file (map.get l.rows p)) (above l.path)
