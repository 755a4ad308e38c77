use Rattle.cfa_plan.proofs.OverlayNodes.{sound_at_start, world_over_nothing}
use Rattle.cfa_plan.proofs.laws.overlays_begin_as_hosts.Goals as goal

pub returns : goal.returns
returns c = λ world. record { shows_all = world_over_nothing world; sound = sound_at_start world.nodes }
