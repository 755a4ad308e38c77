use Rattle.std.proofs.Common.{sym, subst}
use Rattle.cfa_agent.specs.Agents.{IsAt}
use Rattle.cfa_agent.specs.declared.agents.Progress.{Progress}
use Rattle.cfa_agent.proofs.AgentLemmas.{ended_again}
use Rattle.cfa_agent.proofs.agents.Agent.step.Goals as goal

pub returns-in-Ended-clause-stepped : goal.returns-in-Ended-clause-stepped
returns-in-Ended-clause-stepped g c s moment locks x at =
    ended_again c.steps_end_with_an_actuation.ensures.over s moment locks x c.in-Ended.tally c.args.self.now.lines.items (g.S.Site.shown c.args.site.now)
    (subst (λ (p : Progress). IsAt s moment locks p x) (sym c.in-Ended.ensures.value) at)
