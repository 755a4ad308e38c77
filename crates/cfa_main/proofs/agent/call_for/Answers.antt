use Rattle.std.proofs.Common.{refl, sym, ◌∙◌}
use Rattle.cfa_main.specs.Demos.{a_demo, no_demo, unread}
use Rattle.cfa_main.proofs.agent.call_for.Goals as goal

pub returns-in-Ok-Some : goal.returns-in-Ok-Some
returns-in-Ok-Some g c = a_demo (sym c.in-Ok-Some.ensures ∙ c.in-Ok-Some.field-0-is) refl refl c.demonstrate.ensures

pub returns-in-Ok-None : goal.returns-in-Ok-None
returns-in-Ok-None g c = no_demo (sym c.in-Ok-None.ensures ∙ c.in-Ok-None.field-0-is) c.call.ensures

pub returns-in-Err : goal.returns-in-Err
returns-in-Err g c = unread refl refl refl c.put_stop.ensures
