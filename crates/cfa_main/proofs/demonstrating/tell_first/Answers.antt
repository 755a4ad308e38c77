use Rattle.std.proofs.Common.{refl}
use Rattle.cfa_main.specs.Demos.{first_told, first_not_told}
use Rattle.cfa_main.proofs.demonstrating.tell_first.Goals as goal

pub returns-in-Ok : goal.returns-in-Ok
returns-in-Ok g c = first_told (g.O.Sink.shown c.put_lines.new.out) c.in-Ok.ensures.put c.run_again.ensures

pub returns-in-Err : goal.returns-in-Err
returns-in-Err g c = first_not_told refl c.in-Err.ensures.stopped
