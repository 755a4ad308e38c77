use Rattle.std.proofs.Common.{Ok, ◌++◌, codes, sym, subst}
use Rattle.cfa_base.specs.Shown.{Follows}
use Rattle.cfa_outside.specs.Sinks.{adds_bytes}
use Rattle.cfa_output.specs.Lines.{number_line, settled_line}
use Rattle.cfa_main.specs.Demos.{SecondIsTold, told, not_told}
use Rattle.cfa_main.specs.Stages.{Is, StopsPutting}
use Rattle.cfa_main.proofs.demonstrating.tell_second.Goals as goal

pub returns-in-Ok : goal.returns-in-Ok
returns-in-Ok g c =
    let before = g.O.Sink.shown c.args.out.now in
    let after = g.O.Sink.shown c.put_lines.new.out in
    subst (λ end. SecondIsTold c.args.live c.args.second.now before after (Ok end)) (sym c.end_of.ensures)
    (told (subst (λ end. Follows (adds_bytes (number_line (codes "rerun") c.args.second.now.entries ++ settled_line end)) before after) c.settled_by-settled.ensures c.in-Ok.ensures.put))

pub returns-in-Err : goal.returns-in-Err
returns-in-Err g c = not_told
    (subst (λ end. StopsPutting (Is (number_line (codes "rerun") c.args.second.now.entries ++ settled_line end)) (g.O.Sink.shown c.args.out.now) (g.O.Sink.shown c.put_lines.new.out) c.in-Err.stop) c.settled_by-settled.ensures c.in-Err.ensures.stopped)
