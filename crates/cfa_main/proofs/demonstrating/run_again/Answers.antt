use Rattle.std.proofs.Common.{refl}
use Rattle.cfa_main.specs.Demos.{ran_again, stopped_again}
use Rattle.cfa_main.proofs.demonstrating.run_again.Goals as goal

pub returns-in-Ok : goal.returns-in-Ok
returns-in-Ok g c = ran_again c.in-Ok.second c.in-Ok.ensures.ran c.tell_second.ensures

pub returns-in-Err : goal.returns-in-Err
returns-in-Err g c = stopped_again c.in-Err.ensures.stopped refl
