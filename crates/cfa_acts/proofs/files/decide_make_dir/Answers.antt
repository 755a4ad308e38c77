use Rattle.std.proofs.Common.{ap, ◌∙◌}
use Rattle.cfa_acts.specs.Seeing.{made}
use Rattle.cfa_acts.proofs.Seen.{weaker}
use Rattle.cfa_acts.proofs.Decisions.{make_dir_decided}
use Rattle.cfa_acts.proofs.files.decide_make_dir.Goals as goal

pub returns-clause-seen : goal.returns-clause-seen
returns-clause-seen g c = weaker _ _ _ _ (λ w e. c.in_ok-make_dir.ensures.exact ∙ ap (made c.args.path.now) e ∙ make_dir_decided c.args.path.now w) c.in_ok-look.ensures
