use Rattle.std.proofs.Common.{ap, ◌∙◌}
use Rattle.cfa_acts.specs.Seeing.{deleted}
use Rattle.cfa_acts.proofs.Seen.{weaker}
use Rattle.cfa_acts.proofs.Decisions.{delete_decided}
use Rattle.cfa_acts.proofs.files.decide_delete.Goals as goal

pub returns-clause-seen : goal.returns-clause-seen
returns-clause-seen g c = weaker _ _ _ _ (λ w e. c.in_ok-delete.ensures.exact ∙ ap (deleted c.args.path.now c.args.with_directories) e ∙ delete_decided c.args.path.now c.args.with_directories w) c.in_ok-look.ensures
