use Rattle.std.proofs.Common.{refl, arith}
use Rattle.cfa_main.specs.Demos.{late}
use Rattle.cfa_main.proofs.demonstrating.demonstrate.Goals as goal

pub returns-then-moment-gt-LAST_MOMENT : goal.returns-then-moment-gt-LAST_MOMENT
returns-then-moment-gt-LAST_MOMENT g c = late c.refusal-failure.result (omega arith) c.refusal-failure.ensures refl c.put_failure-status.ensures
