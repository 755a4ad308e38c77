use Rattle.std.proofs.Common.{◌∙◌}
use Rattle.cfa_acts.proofs.Seen.{weaker}
use Rattle.cfa_acts.proofs.Decisions.{running_decided}
use Rattle.cfa_acts.proofs.services.decide_running.Goals as goal

pub returns-clause-seen : goal.returns-clause-seen
returns-clause-seen g c = weaker _ _ _ _ (λ w e. c.in_ok-change_running.ensures.exact ∙ running_decided c.args.running c.args.name.now _ w e) c.in_ok-row.ensures
