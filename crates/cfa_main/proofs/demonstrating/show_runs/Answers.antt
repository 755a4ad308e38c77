use Rattle.std.proofs.Common.{ℕ, refl, subst}
use Rattle.cfa_base.specs.Shown.{Follows}
use Rattle.cfa_outside.specs.Sinks.{adds_bytes}
use Rattle.cfa_main.specs.Demos.{demo_lines, begun, not_begun}
use Rattle.cfa_main.specs.Stages.{Is, StopsPutting}
use Rattle.cfa_main.proofs.demonstrating.show_runs.Goals as goal

pub returns-in-Ok : goal.returns-in-Ok
returns-in-Ok g c = begun (g.O.Sink.shown c.put_lines.new.out)
    (subst (λ (x : ℕ × ℕ). Follows (adds_bytes (demo_lines x.0 x.1)) (g.O.Sink.shown c.args.out.now) (g.O.Sink.shown c.put_lines.new.out)) (λ i. (c.from-2.ensures i, c.from.ensures i)) c.in-Ok.ensures.put)
    c.run_twice.ensures

pub returns-in-Err : goal.returns-in-Err
returns-in-Err g c = not_begun refl
    (subst (λ (x : ℕ × ℕ). StopsPutting (Is (demo_lines x.0 x.1)) (g.O.Sink.shown c.args.out.now) (g.O.Sink.shown c.put_lines.new.out) c.in-Err.stop) (λ i. (c.from-2.ensures i, c.from.ensures i)) c.in-Err.ensures.stopped)
