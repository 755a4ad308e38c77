use Rattle.std.proofs.Common.{ap, ◌∙◌}
use Rattle.std.proofs.lemmas.Result.{on_ok_weaker}
use Rattle.cfa_statuses.specs.Status.{greater}
use Rattle.cfa_outcomes.specs.Environments.{mark_in, mark_of}
use Rattle.cfa_outcomes.proofs.EnvironmentLemmas.{mark_in-marked_same, mark_in-marked_other}
use Rattle.cfa_outcomes.proofs.environments.Environment.mark.Goals as goal

pub returns-clause-mark : goal.returns-clause-mark
returns-clause-mark c =
    on_ok_weaker c.raise.result (λ raises.
    ap (λ m. mark_in m c.args.path.now c.args.text) raises
    ∙ mark_in-marked_same c.self.inside.marks c.args.path.now c.args.text c.args.to
    ∙ ap (λ e. greater (mark_of e c.args.path.now c.args.text) c.args.to) c.self.view_is)
    c.raise.ensures.ok

pub returns-clause-others : goal.returns-clause-others
returns-clause-others c =
    on_ok_weaker c.raise.result (λ raises path text differ.
    ap (λ m. mark_in m path text) raises
    ∙ mark_in-marked_other c.self.inside.marks c.args.path.now c.args.text c.args.to path text differ
    ∙ ap (λ e. mark_of e path text) c.self.view_is)
    c.raise.ensures.ok
