use Rattle.std.proofs.Common.{◌≡◌, ℕ, List, take}
use Rattle.std.specs.FinMap as finite
use Rattle.cfa_outcomes.proofs.EnvironmentLemmas.{given}
use Rattle.cfa_outcomes.proofs.environments.Environment.new.Given as goal

-- the classes so far are Yes, and no other has a status
abbrev pub invariant-loop-class : goal.invariant-loop-class
invariant-loop-class l = (class : List ℕ) → finite.get l.statuses class ≡ given (take l.class-index l.class-items) class
