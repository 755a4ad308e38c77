use Rattle.std.proofs.Common.{refl}
use Rattle.cfa_main.specs.Demos.{ran_first, stopped_first}
use Rattle.cfa_main.proofs.demonstrating.run_twice.Goals as goal

pub returns-in-Ok : goal.returns-in-Ok
returns-in-Ok g c = ran_first (g.S.Site.shown c.run_once.new.site) c.in-Ok.first (λ tells. tells c.run_once.new.site) c.in-Ok.ensures.ran c.tell_first.ensures

pub returns-in-Err : goal.returns-in-Err
returns-in-Err g c = stopped_first c.in-Err.ensures.stopped refl
