use Rattle.std.proofs.Common.{Some, refl, ap, ◌∙◌}
use Rattle.cfa_main.specs.Demos.{accepted, in_conflict, too_large, without_memory}
use Rattle.cfa_main.proofs.demonstrating.perform_demo.Goals as goal

pub returns-in-Ok-Some-Accepted : goal.returns-in-Ok-Some-Accepted
returns-in-Ok-Some-Accepted g c = accepted c.in-Ok-Some-Accepted.live (c.in-Ok-Some-Accepted.ensures ∙ c.in-Ok-Some-Accepted.field-0-is ∙ ap Some c.in-Ok-Some-Accepted.field-0-0-is) c.show_runs.ensures

pub returns-in-Ok-Some-Conflict : goal.returns-in-Ok-Some-Conflict
returns-in-Ok-Some-Conflict g c = in_conflict c.in-Ok-Some-Conflict.conflict (c.in-Ok-Some-Conflict.ensures ∙ c.in-Ok-Some-Conflict.field-0-is ∙ ap Some c.in-Ok-Some-Conflict.field-0-0-is) refl c.put_verdict.ensures

pub returns-in-Ok-None : goal.returns-in-Ok-None
returns-in-Ok-None g c = too_large (c.in-Ok-None.ensures ∙ c.in-Ok-None.field-0-is) refl refl

pub returns-in-Err : goal.returns-in-Err
returns-in-Err g c = without_memory refl refl
