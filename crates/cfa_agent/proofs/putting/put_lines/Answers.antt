use Rattle.std.proofs.Common.{◌∙◌}
use Rattle.cfa_agent.proofs.ShortPuts.{on_any_err, short_lines}
use Rattle.cfa_agent.proofs.putting.put_lines.Goals as goal

pub returns-in_err-put_all-clause-failed : goal.returns-in_err-put_all-clause-failed
returns-in_err-put_all-clause-failed g c =
    let out = g.O.Sink.shown in
    on_any_err c.from_residual.result
    (short_lines c.args.lines.now c.loop-line.line-index c.line-item.result c.as_bytes.result.now c.loop-line-test.true
    (c.as_bytes.ensures.value ∙ c.as_str.ensures ∙ c.line-item.is)
    (out c.args.out.now) (out c.loop-line.out) (out c.put_all.new.out) c.loop-line.invariant c.in_err-put_all.ensures.failed)
