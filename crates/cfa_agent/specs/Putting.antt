-- Of the code alone: a step of a run whose lines are put behind it, and the run as far as it was made by such steps.
use Rattle.std.specs.Prelude.{ℕ, ◌≡◌, ◌≤◌, Bool, List, [], ◌++◌, Result, Ok, Err}
use Rattle.cfa_base.specs.Shown.{Shown, Follows}
use Rattle.cfa_outside.specs.Sites.{Told}
use Rattle.cfa_outside.specs.Sinks.{adds_bytes}
use Rattle.cfa_output.specs.Puts.{PutsShort}
use Rattle.cfa_output.specs.declared.ends.Object.TheVariants.{Sink}
use Rattle.cfa_output.specs.declared.ends.Stop.{Stop}
use Rattle.cfa_output.specs.declared.ends.Stop.TheVariants.{Outside}
use Rattle.cfa_frames.specs.Moves.{need_of, over}
use Rattle.cfa_machine.specs.Reaching.{done_of}
use Rattle.cfa_machine.specs.Stacks.{Holds, Stands, seen_stack}
use Rattle.cfa_machine.specs.declared.machines.Machine.{Machine}
use Rattle.cfa_states.specs.History.{History}
use Rattle.cfa_states.specs.Levels.{FaultsAre, PatternsAre}
use Rattle.cfa_states.specs.Views.{Setting}
use Rattle.cfa_walk.specs.Turns.{IsLeft, StepDone}
use Rattle.cfa_agent.specs.declared.progress.Running.{Running}
use Rattle.cfa_agent.specs.Ran.{text_of_lines}
use Rattle.cfa_agent.specs.Standing.{Given, Agrees, IsBehind, teller_of}

-- the step's lines were put, so that it ended as it did; or they couldn't all be put, and the run ends by that
pub data IsPut (told : List (List ℕ)) (stepped : Result Bool Stop) (out out' : Shown (List ℕ)) (result : Result Bool Stop) : Type 0 where
  all_put : result ≡ stepped → Follows (adds_bytes (text_of_lines told)) out out' → IsPut told stepped out out' result
  put_failed : result ≡ Err (Outside Sink) → PutsShort (text_of_lines told) out out' → IsPut told stepped out out' result

pub record StepPut (r r' : Running) (m m' : Machine) (site site' : Shown Told) (out out' : Shown (List ℕ)) (pats pats' : Shown (List (List ℕ))) (result : Result Bool Stop) : Type 0 where
  pub told : List (List ℕ)
  pub stepped : Result Bool Stop
  pub done : StepDone teller_of Agrees IsBehind (r, (site, [])) (r', (site', told)) m m' stepped
  pub faults : FaultsAre (site.faults, 0) (site'.faults, 0) (done_of stepped)
  pub patterns : PatternsAre (done_of stepped) pats pats'
  pub put : IsPut told stepped out out' result

-- the lines were taken
abbrev pub with_taken : List (List ℕ) → Given → Given
with_taken lines g = record g { taken = g.taken ++ lines }

-- the run is what it was to be, and what was put are its lines so far
pub record RunsOn (first r : Running) (m m' : Machine) (site site' : Shown Told) (out out' : Shown (List ℕ)) (pats pats' : Shown (List (List ℕ))) : Type 0 where
  pub holds : Holds m'
  pub stands : (s : Setting) × ((h : History) × Stands s m' h)
  pub put : List (List ℕ)
  pub gone : (s : Setting) (g : Given) (h : History) → Agrees (r, (site', [])) g →
      Agrees (first, (site, [])) g × (Stands s m h → IsBehind (first, (site, [])) g h →
      (k : History) × (Stands s m' k × (IsBehind (r, (site', [])) (with_taken put g) k × IsLeft s (teller_of g) (seen_stack m) h (seen_stack m') k)))
  pub out_is : Follows (adds_bytes (text_of_lines put)) out out'
  pub faults_are : site.faults ≤ site'.faults
  pub patterns_are : pats' ≡ pats

-- the run came to its end, or was stopped in a step
pub data RunEnds (first r' : Running) (m m' : Machine) (site site' : Shown Told) (out out' : Shown (List ℕ)) (pats pats' : Shown (List (List ℕ))) (result : Result (Unit {0}) Stop) : Type 0 where
  comes_to_end : result ≡ Ok tt → need_of (seen_stack m') ≡ over → RunsOn first r' m m' site site' out out' pats pats' →
      RunEnds first r' m m' site site' out out' pats pats' result
  falls_short : (stop : Stop) → result ≡ Err stop → (r1 : Running) (m1 : Machine) (site1 : Shown Told) (out1 : Shown (List ℕ)) (pats1 : Shown (List (List ℕ))) →
      RunsOn first r1 m m1 site site1 out out1 pats pats1 → StepPut r1 r' m1 m' site1 site' out1 out' pats1 pats' (Err stop) →
      RunEnds first r' m m' site site' out out' pats pats' result
