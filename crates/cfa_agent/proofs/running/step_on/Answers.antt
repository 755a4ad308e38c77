use Rattle.std.proofs.Common.{◌≡◌, Bool, Err, OnOk, Result, refl}
use Rattle.cfa_base.specs.lemmas.Results.{on_err}
use Rattle.cfa_output.specs.declared.ends.Object.TheVariants.{Sink}
use Rattle.cfa_output.specs.declared.ends.Stop.{Stop}
use Rattle.cfa_output.specs.declared.ends.Stop.TheVariants.{Outside}
use Rattle.cfa_agent.specs.Ran.{CountsFaults}
use Rattle.cfa_agent.proofs.RunSteps.{put_short, put_whole, step_as, step_put}
use Rattle.cfa_agent.proofs.running.step_on.Goals as goal

pub returns-in_err-put_lines-clause-put : goal.returns-in_err-put_lines-clause-put
returns-in_err-put_lines-clause-put g c =
    let site = g.S.Site.shown in
    let out = g.O.Sink.shown in
    let pats = g.P.Patterns.shown in
    let step = c.step-stepped in
    step_put c.args.running.now step.new.teller c.args.machine.now step.new.machine (site c.args.site.now) (site step.new.site)
    (out c.args.out.now) (out c.put_lines.new.out) (pats c.args.pats.now) (pats step.new.pats) step.result c.from_residual.result
    c.new-lines.result.items step.new.out.items c.new-lines.ensures.items
    (step_as site (c.args.running.now, (c.args.site.now, c.new-lines.result)) (step.new.teller, (step.new.site, step.new.out))
    c.args.machine.now step.new.machine step.result step.ensures.stepped)
    step.ensures.faults step.ensures.patterns
    (put_short step.new.out.items c.as_slice.result.now (out c.args.out.now) (out c.put_lines.new.out) step.result c.from_residual.result
    c.as_slice.ensures.value
    (on_err (λ (result : Result Bool Stop). result ≡ Err (Outside Sink)) c.from_residual.result (Outside Sink) c.from_residual.ensures.1 refl)
    c.in_err-put_lines.ensures.failed)

pub returns-clause-put : goal.returns-clause-put
returns-clause-put g c =
    let site = g.S.Site.shown in
    let out = g.O.Sink.shown in
    let pats = g.P.Patterns.shown in
    let step = c.step-stepped in
    step_put c.args.running.now step.new.teller c.args.machine.now step.new.machine (site c.args.site.now) (site step.new.site)
    (out c.args.out.now) (out c.put_lines.new.out) (pats c.args.pats.now) (pats step.new.pats) step.result step.result
    c.new-lines.result.items step.new.out.items c.new-lines.ensures.items
    (step_as site (c.args.running.now, (c.args.site.now, c.new-lines.result)) (step.new.teller, (step.new.site, step.new.out))
    c.args.machine.now step.new.machine step.result step.ensures.stepped)
    step.ensures.faults step.ensures.patterns
    (put_whole step.new.out.items c.as_slice.result.now (out c.args.out.now) (out c.put_lines.new.out) step.result
    c.as_slice.ensures.value c.in_ok-put_lines.ensures.put)

pub returns-in_err-put_lines-clause-counted : goal.returns-in_err-put_lines-clause-counted
returns-in_err-put_lines-clause-counted g c =
    let site = g.S.Site.shown in
    let step = c.step-stepped in
    on_err (λ (result : Result Bool Stop). OnOk result (CountsFaults c.args.running.now.tally.failed step.new.teller.tally.failed (site c.args.site.now).faults (site step.new.site).faults))
    c.from_residual.result (Outside Sink) c.from_residual.ensures.1 tt

pub returns-clause-counted : goal.returns-clause-counted
returns-clause-counted g c = c.step-stepped.ensures.counted
