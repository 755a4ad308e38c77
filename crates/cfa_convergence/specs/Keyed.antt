-- Each instance that a run of a checked policy actuates has its key text.
use Rattle.std.specs.Prelude.{◌≡◌}
use Rattle.std.specs.List.{AllByRecursion as Each}
use Rattle.cfa_states.specs.History.{History}
use Rattle.cfa_states.specs.Passes.{goes, run}
use Rattle.cfa_states.specs.Views.{Setting}
use Rattle.cfa_laws.specs.Keys.{IsKeyed}
use Rattle.cfa_convergence.specs.Contained.{actuations}
use Rattle.cfa_convergence.specs.Policies.{HasKnown}
use Rattle.cfa_convergence.specs.Told.{Telling, teller_of}

abbrev pub ActuationsAreKeyed : Type 0
ActuationsAreKeyed =
    (s : Setting) (tells : Telling) (h : History) → HasKnown s.policy → run s (teller_of tells) ≡ goes h → Each IsKeyed (actuations h)
