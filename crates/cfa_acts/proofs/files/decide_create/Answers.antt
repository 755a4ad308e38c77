use Rattle.std.proofs.Common.{ap, ◌∙◌}
use Rattle.cfa_acts.specs.Seeing.{created}
use Rattle.cfa_acts.proofs.Seen.{weaker}
use Rattle.cfa_acts.proofs.Decisions.{create_decided}
use Rattle.cfa_acts.proofs.files.decide_create.Goals as goal

pub returns-clause-seen : goal.returns-clause-seen
returns-clause-seen g c = weaker _ _ _ _ (λ w e. c.in_ok-create.ensures.exact ∙ ap (created c.args.path.now) e ∙ create_decided c.args.path.now w) c.in_ok-look.ensures
