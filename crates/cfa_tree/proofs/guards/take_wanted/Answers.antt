use Rattle.std.proofs.Common.{◌<◌, arith}
use Rattle.cfa_tree.proofs.GuardSteps.{room_fits}
use Rattle.cfa_tree.proofs.guards.take_wanted.Goals as goal

pub overflow_add-level : goal.overflow_add-level
overflow_add-level c =
    let below : c.args.level.negations < 16 = room_fits _ _ _ c.has_room.ensures c.if-not-has_room.false in
    omega arith
