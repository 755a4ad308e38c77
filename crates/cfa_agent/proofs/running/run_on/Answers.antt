use Rattle.std.proofs.Common.{◌≡◌, OnOk, Result, Err, refl}
use Rattle.cfa_base.specs.lemmas.Results.{on_err}
use Rattle.cfa_output.specs.declared.ends.Stop.{Stop}
use Rattle.cfa_agent.specs.Faults.{faults_counted_both, faults_counted_none}
use Rattle.cfa_agent.specs.Ran.{CountsFaults}
use Rattle.cfa_agent.specs.Putting.{comes_to_end, falls_short}
use Rattle.cfa_agent.proofs.RunSteps.{runs_more, runs_none}
use Rattle.cfa_agent.proofs.running.run_on.Goals as goal

pub loop-init : goal.loop-init
loop-init g c = (
  runs_none c.args.running.now c.args.machine.now (g.S.Site.shown c.args.site.now) (g.O.Sink.shown c.args.out.now) (g.P.Patterns.shown c.args.pats.now)
      c.requires.holds c.requires.stands,
  faults_counted_none c.args.running.now.tally.failed (g.S.Site.shown c.args.site.now).faults,
)

pub step_on-requires-clause-holds : goal.step_on-requires-clause-holds
step_on-requires-clause-holds g c = c.loop.invariant.0.holds

pub step_on-requires-clause-stands : goal.step_on-requires-clause-stands
step_on-requires-clause-stands g c = c.loop.invariant.0.stands

pub returns-in_err-step_on-clause-ends : goal.returns-in_err-step_on-clause-ends
returns-in_err-step_on-clause-ends g c =
    let site = g.S.Site.shown in
    let out = g.O.Sink.shown in
    let pats = g.P.Patterns.shown in
    let stop = c.in_err-step_on.field-0.0 in
    falls_short stop
    (on_err (λ (result : Result (Unit {0}) Stop). result ≡ Err stop) c.from_residual.result stop c.from_residual.ensures.1 refl)
    c.loop.running c.loop.machine (site c.loop.site) (out c.loop.out) (pats c.loop.pats) c.loop.invariant.0 c.in_err-step_on.ensures.put

pub returns-then-not-branch-clause-ends : goal.returns-then-not-branch-clause-ends
returns-then-not-branch-clause-ends g c =
    let site = g.S.Site.shown in
    let out = g.O.Sink.shown in
    let pats = g.P.Patterns.shown in
    let ok = c.in_ok-step_on.ensures in
    comes_to_end refl (ok.over c.if-not-branch.true)
    (runs_more c.args.running.now c.loop.running c.step_on.new.running c.args.machine.now c.loop.machine c.step_on.new.machine
    (site c.args.site.now) (site c.loop.site) (site c.step_on.new.site) (out c.args.out.now) (out c.loop.out) (out c.step_on.new.out)
    (pats c.args.pats.now) (pats c.loop.pats) (pats c.step_on.new.pats) c.loop.invariant.0 c.in_ok-step_on.field-0 ok.put ok.holds ok.stands)

pub loop-smaller : goal.loop-smaller
loop-smaller g c = c.in_ok-step_on.ensures.lighter c.if-not-branch.false

pub returns-then-not-branch-clause-counted : goal.returns-then-not-branch-clause-counted
returns-then-not-branch-clause-counted g c =
    let site = g.S.Site.shown in
    faults_counted_both c.args.running.now.tally.failed c.loop.running.tally.failed c.step_on.new.running.tally.failed
    (site c.args.site.now).faults (site c.loop.site).faults (site c.step_on.new.site).faults c.loop.invariant.1 c.in_ok-step_on.ensures.counted

pub returns-in_err-step_on-clause-counted : goal.returns-in_err-step_on-clause-counted
returns-in_err-step_on-clause-counted g c =
    let site = g.S.Site.shown in
    on_err (λ (result : Result (Unit {0}) Stop). OnOk result (CountsFaults c.args.running.now.tally.failed c.step_on.new.running.tally.failed (site c.args.site.now).faults (site c.step_on.new.site).faults))
    c.from_residual.result c.in_err-step_on.field-0.0 c.from_residual.ensures.1 tt

pub loop-preserved : goal.loop-preserved
loop-preserved g c =
    let site = g.S.Site.shown in
    let out = g.O.Sink.shown in
    let pats = g.P.Patterns.shown in
    let ok = c.in_ok-step_on.ensures in (
      runs_more c.args.running.now c.loop.running c.step_on.new.running c.args.machine.now c.loop.machine c.step_on.new.machine
          (site c.args.site.now) (site c.loop.site) (site c.step_on.new.site) (out c.args.out.now) (out c.loop.out) (out c.step_on.new.out)
          (pats c.args.pats.now) (pats c.loop.pats) (pats c.step_on.new.pats) c.loop.invariant.0 c.in_ok-step_on.field-0 ok.put ok.holds ok.stands,
      faults_counted_both c.args.running.now.tally.failed c.loop.running.tally.failed c.step_on.new.running.tally.failed
          (site c.args.site.now).faults (site c.loop.site).faults (site c.step_on.new.site).faults c.loop.invariant.1 ok.counted,
    )
