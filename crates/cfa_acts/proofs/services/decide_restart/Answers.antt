use Rattle.std.proofs.Common.{◌∙◌}
use Rattle.cfa_acts.proofs.Seen.{weaker}
use Rattle.cfa_acts.proofs.Decisions.{restart_decided}
use Rattle.cfa_acts.proofs.services.decide_restart.Goals as goal

pub returns-clause-seen : goal.returns-clause-seen
returns-clause-seen g c = weaker _ _ _ _ (λ w e. c.in_ok-restart.ensures.exact ∙ restart_decided c.args.name.now _ w e) c.in_ok-row.ensures
