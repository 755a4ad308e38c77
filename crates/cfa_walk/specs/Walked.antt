-- What came of a run, as far as it was made: its history is that of its definition, told by each teller with which who tells it
-- agrees afterwards.
use Rattle.std.specs.Prelude.{[], ⊤, Result, Ok, Err}
use Rattle.cfa_output.specs.declared.ends.Stop.{Stop}
use Rattle.cfa_output.specs.declared.ends.Stop.TheVariants.{Outside, Memory, Visits, Pattern}
use Rattle.cfa_states.specs.declared.states.State.{State}
use Rattle.cfa_states.specs.History.{History}
use Rattle.cfa_states.specs.Kept.{Keeps}
use Rattle.cfa_states.specs.Builds.{BuiltOn}
use Rattle.cfa_states.specs.Levels.{GoesTo, IsTooLarge}
use Rattle.cfa_states.specs.Passes.{run}
use Rattle.cfa_states.specs.Tellers.{Teller}
use Rattle.cfa_states.specs.Views.{Setting}

module _ {W X : Type 0} (teller : X → Teller) (agrees : W → X → Type 0) (behind : W → X → History → Type 0) (s : Setting) where
  -- with what is kept of it
  abbrev pub HasRunTo : (w w' : W) → Result State Stop → Type 0
  HasRunTo w w' (Ok st) =
      (x : X) → agrees w' x →
      agrees w x × (behind w x [] → GoesTo (run s (teller x)) (λ k. Keeps s st k × behind w' x k))
  HasRunTo w w' (Err (Outside object)) = ⊤
  HasRunTo w w' (Err Memory) = ⊤
  HasRunTo w w' (Err Visits) = (x : X) → agrees w' x → agrees w x × (behind w x [] → IsTooLarge (run s (teller x)))
  HasRunTo w w' (Err (Pattern text)) =
      (x : X) → agrees w' x → agrees w x × (behind w x [] → BuiltOn s (run s (teller x)) text)
