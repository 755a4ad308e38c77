use Rattle.std.proofs.Common.{[], ◌∷◌, take}
use Rattle.cfa_states.specs.History.{History}
use Rattle.cfa_states.specs.Kept.{Keeps, IsLater}
use Rattle.cfa_states.specs.Passes.{raise_each}
use Rattle.cfa_states.specs.Views.{Setting}
use Rattle.cfa_visits.proofs.ending.raise_outcome.Given as goal

-- the classes so far were raised
abbrev pub invariant-loop-class : goal.invariant-loop-class
invariant-loop-class l =
    ((s : Setting) (h : History) → Keeps s l.fn.state h → Keeps s l.state (raise_each l.instance (l.fn.outcome ∷ []) l.status (take l.class-index l.class-items) h))
    × IsLater l.fn.state l.state
