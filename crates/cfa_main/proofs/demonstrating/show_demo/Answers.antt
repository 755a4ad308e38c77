use Rattle.std.proofs.Common.{refl}
use Rattle.cfa_main.specs.Demos.{ended, stopped, not_taken}
use Rattle.cfa_main.proofs.demonstrating.show_demo.Goals as goal

pub returns-in-Ok-done : goal.returns-in-Ok-done
returns-in-Ok-done g c = ended c.in-Ok-done.end c.requires c.in-Ok.ensures.takes c.in-Ok-done.ensures c.end_status.ensures

pub returns-in-Err-done : goal.returns-in-Err-done
returns-in-Err-done g c = stopped c.in-Err-done.stop (g.O.Sink.shown c.perform_demo-done.new.out) c.requires c.in-Ok.ensures.takes c.in-Err-done.ensures c.put_stop-status.ensures

pub returns-in-Err : goal.returns-in-Err
returns-in-Err g c = not_taken c.in-Err.failure c.requires c.in-Err.ensures.fails refl c.put_failure-status.ensures
