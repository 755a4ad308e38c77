-- What holds of what ends a call before its work is done: of the line of a refusal, and of a stop; and of a line that is told.
use Rattle.std.specs.Prelude.{ℕ, ◌≡◌, List, ⊤, Result, Ok, Err}
use Rattle.cfa_output.specs.declared.ends.Stop.{Stop}
use Rattle.cfa_output.specs.declared.ends.Stop.TheVariants.{Memory}
use Rattle.cfa_output.specs.declared.ends.Failure.{Failure}
use Rattle.cfa_output.specs.declared.ends.Failure.TheVariants.{Refused, Stopped}

-- of the line of a refusal
abbrev pub IfRefused : Failure → (List ℕ → Type 0) → Type 0
IfRefused (Refused line) P = P line
IfRefused (Stopped stop) P = ⊤

-- of a stop
abbrev pub IfStopped : Failure → (Stop → Type 0) → Type 0
IfStopped (Refused line) P = ⊤
IfStopped (Stopped stop) P = P stop

-- a line is told, unless memory ended
abbrev pub Tells : (line : List ℕ) → Result (List ℕ) Stop → Type 0
Tells line (Ok told) = told ≡ line
Tells line (Err stop) = stop ≡ Memory
