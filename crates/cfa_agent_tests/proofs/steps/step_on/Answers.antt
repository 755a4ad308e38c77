use Rattle.std.proofs.Common.{sym, subst}
use Rattle.cfa_agent.specs.Agents.{IsSound}
use Rattle.cfa_agent_tests.proofs.steps.step_on.Goals as goal

pub returns : goal.returns
returns c = subst IsSound (sym c.take_lines-lines.ensures.stays) c.step-stepped.ensures.sound
