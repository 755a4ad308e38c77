-- What an object of the outside shows after a call on it, by what the call answered.
use Rattle.std.specs.Prelude.{Result, IfOk, IsErrOf}
use Rattle.cfa_base.specs.Shown.{Shown, HasFailed, IsLeft}
use Rattle.cfa_outside.specs.declared.errors.OutsideErr.{OutsideErr}
use Rattle.cfa_outside.specs.declared.errors.OutsideErr.TheVariants.{Failed, NoMemory}

-- after an answer it shows what the call did; after a failure it tells that the call was refused, and its count of
-- faults rose; want of memory leaves what it tells
pub record Answered {T X : Type 0} (Did : X → (before after : Shown T) → Type 0) (refused : T → T)
    (before after : Shown T) (result : Result X OutsideErr) : Type 0 where
  pub ok : IfOk result (λ answer. Did answer before after)
  pub failed : IsErrOf result Failed → HasFailed refused before after
  pub memory : IsErrOf result NoMemory → IsLeft before after
