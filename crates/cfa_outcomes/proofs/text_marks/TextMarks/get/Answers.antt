use Rattle.std.proofs.Common.{Some, None, sym}
use Rattle.std.specs.Rc.{rc_str_bytes}
use Rattle.cfa_outcomes.proofs.HashedTexts.{status_in-hashed}
use Rattle.cfa_outcomes.proofs.text_marks.TextMarks.get.Goals as goal

pub returns-in-Some : goal.returns-in-Some
returns-in-Some c =
    sym (status_in-hashed rc_str_bytes c.self.inside.rows c.args.self.now c.as_str.result.now c.args.text.now (Some c.in-Some.status.now) c.self.view_is c.as_str.ensures c.in-Some.ensures.value)

pub returns-in-None : goal.returns-in-None
returns-in-None c =
    sym (status_in-hashed rc_str_bytes c.self.inside.rows c.args.self.now c.as_str.result.now c.args.text.now None c.self.view_is c.as_str.ensures c.in-None.ensures.value)
