use Rattle.cfa_agent.proofs.AgentLemmas.{answers_as, counts_as, lighter_as, refuses_as, sound_as, stepped_as}
use Rattle.cfa_agent.proofs.RunSteps.{step_as}
use Rattle.cfa_agent.proofs.agents.go_on.Goals as goal

pub returns : goal.returns
returns g c =
    let site = g.S.Site.shown in
    let pats = g.P.Patterns.shown in
    let step = c.step-stepped in
    let m' = step.new.machine in
    let r' = step.new.teller in
    let p' = c.leave.result.0 in
    let answer = c.leave.result.1 in
    let is = c.leave.ensures in
    record {
      stepped =
          stepped_as c.args.machine m' c.args.running r' (site c.args.site.now) (site step.new.site) c.args.lines.now.items step.new.out.items step.result p' answer is
          (step_as site (c.args.running, (c.args.site.now, c.args.lines.now)) (r', (step.new.site, step.new.out)) c.args.machine m' step.result step.ensures.stepped);
      sound = sound_as m' r' step.result p' answer is step.ensures.holds step.ensures.stands;
      answers = answers_as m' r' step.result p' answer is;
      counts = counts_as m' r' (site c.args.site.now) (site step.new.site) step.result p' answer is step.ensures.faults;
      patterns = refuses_as m' r' (pats c.args.pats.now) (pats step.new.pats) step.result p' answer is step.ensures.patterns;
      lighter = lighter_as c.args.machine m' r' step.result p' answer is step.ensures.lighter;
    }
