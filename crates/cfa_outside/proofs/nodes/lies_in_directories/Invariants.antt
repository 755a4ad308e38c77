use Rattle.std.proofs.Common.{◌≡◌, drop}
use Rattle.std.specs.FinMap as map
use Rattle.std.specs.List.{list_all}
use Rattle.cfa_outside.specs.Worlds.{is_directory, above, above_from}
use Rattle.cfa_outside.proofs.nodes.lies_in_directories.Given as goal

abbrev pub invariant-loop-i : goal.invariant-loop-i
invariant-loop-i l =
    list_all (λ p. is_directory (map.get l.rows p)) (above_from l.path l.i (drop l.i l.path)) ≡ list_all (λ p. is_directory (map.get l.rows p)) (above l.path)
