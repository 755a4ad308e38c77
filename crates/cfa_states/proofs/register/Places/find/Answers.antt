use Rattle.std.proofs.Common.{◌∙◌}
use Rattle.std.specs.Rc.{rc_str_bytes}
use Rattle.cfa_states.proofs.PlaceLemmas.{placed_is, placed_nowhere}
use Rattle.cfa_states.proofs.register.Places.find.Goals as goal

pub returns-in-Some : goal.returns-in-Some
returns-in-Some c =
    placed_is rc_str_bytes c.self.inside.rows c.args.self.now c.as_str.result.now c.args.path.now c.as_str-in-Some.result.now c.args.text.now c.in-Some.texts.now c.copied.result
    c.self.view_is c.as_str.ensures c.as_str-in-Some.ensures c.in-Some.ensures.value (c.copied.ensures ∙ c.get-in-Some.ensures)

pub returns-in-None : goal.returns-in-None
returns-in-None c =
    placed_nowhere rc_str_bytes c.self.inside.rows c.args.self.now c.as_str.result.now c.args.path.now c.args.text.now
    c.self.view_is c.as_str.ensures c.in-None.ensures.value
