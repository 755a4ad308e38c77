use Rattle.std.proofs.Common.{Some, None, sym, ap, ◌∙◌}
use Rattle.std.specs.Rc.{rc_str_bytes}
use Rattle.cfa_statuses.specs.Raised.{status_in}
use Rattle.cfa_statuses.specs.lemmas.Raised.{status_in-none_raised}
use Rattle.cfa_outcomes.proofs.EnvironmentLemmas.{marks_at-found}
use Rattle.cfa_outcomes.proofs.marking.Marks.get.Goals as goal

pub returns-in-Some : goal.returns-in-Some
returns-in-Some c =
    c.get-in-Some.ensures
    ∙ ap (λ r. status_in r c.args.text.now) (sym (marks_at-found rc_str_bytes c.self.inside.rows c.args.self.now c.as_str.result.now c.args.path.now (Some c.in-Some.texts.now) c.self.view_is c.as_str.ensures c.in-Some.ensures.value))

pub returns-in-None : goal.returns-in-None
returns-in-None c =
    sym (status_in-none_raised c.args.text.now)
    ∙ ap (λ r. status_in r c.args.text.now) (sym (marks_at-found rc_str_bytes c.self.inside.rows c.args.self.now c.as_str.result.now c.args.path.now None c.self.view_is c.as_str.ensures c.in-None.ensures.value))
