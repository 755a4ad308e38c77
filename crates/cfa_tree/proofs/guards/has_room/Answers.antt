use Rattle.std.proofs.Common.{◌∙◌, ap, ◌-◌}
use Rattle.cfa_tree.proofs.GuardSteps.{room_turn, room_left}
use Rattle.cfa_tree.proofs.guards.has_room.Goals as goal

pub loop-level-preserved : goal.loop-level-preserved
loop-level-preserved c =
    c.saturating_sub-left.ensures ∙ (ap (λ z. z - 1) c.saturating_sub.ensures
    ∙ room_turn c.args.outer.now c.loop-level.level-index c.loop-level.left c.level-item.result c.loop-level-test.true c.level-item.is c.loop-level.invariant)

pub returns : goal.returns
returns c = room_left c.args.outer.now c.loop-level.level-index c.loop-level.left c.args.negations c.loop-level-test.false c.loop-level.invariant
