use Rattle.std.proofs.Common.{◌≡◌, ◌+◌, ◌<◌, ◌^◌, length}
use Rattle.std.specs.Rc.{rc_str_bytes}
use Rattle.cfa_base.specs.TextMaps.{count_leaves}
use Rattle.cfa_base.proofs.Leaves.{leaves, Grouped}
use Rattle.cfa_base.proofs.text_maps.TextMap.count_leaves.Given as goal

-- what was counted and what is still to come are all leaves, and none comes behind a key that doesn't begin so
abbrev pub invariant-loop-key : goal.invariant-loop-key
invariant-loop-key g l =
    (goal.iterator-loop-key g).can_next l.key-iterator ×
    (goal.iterator-loop-key g).is_finite l.key-iterator ×
    (l.count + length l.key-iterator < 2 ^ 63) ×
    (l.count + length (leaves rc_str_bytes l.fn.front l.key-iterator) ≡ count_leaves l.fn.self l.fn.front) ×
    Grouped rc_str_bytes l.fn.front l.key-iterator
