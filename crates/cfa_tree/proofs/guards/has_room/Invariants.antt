use Rattle.std.proofs.Common.{◌≡◌, ◌-◌, take}
use Rattle.cfa_tree.specs.Guards.{level_count}
use Rattle.cfa_tree.specs.SeenGuards.{seen_levels}
use Rattle.cfa_tree.proofs.guards.has_room.Given as goal

abbrev pub invariant-loop-level : goal.invariant-loop-level
invariant-loop-level l = l.left ≡ 16 - level_count (seen_levels (take l.level-index l.outer))
