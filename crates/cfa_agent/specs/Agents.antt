-- An agent between two steps, and a step of it. It stands where the definition has come by its steps so far, whatever sites these were
-- handed. What a step adds to the site that it is handed, and the lines that it tells, are those of the definition's next step, told by
-- the world that this site has then and under the marks of the entries that the step itself adds.
use Rattle.std.specs.Prelude.{ℕ, ◌≡◌, ◌⊎◌, ◌+◌, Bool, true, false, List, [], ◌++◌, Result, Ok, Err, ⊤}
use Rattle.cfa_base.specs.Causes.{Rose}
use Rattle.cfa_base.specs.Patterns.{refuses}
use Rattle.cfa_base.specs.Shown.{Shown, HasFailed, Untouched}
use Rattle.cfa_outside.specs.Sites.{Told, adds}
use Rattle.cfa_output.specs.declared.ends.Object.TheVariants.{Inputs, Site, Sink}
use Rattle.cfa_output.specs.declared.ends.Stop.{Stop}
use Rattle.cfa_output.specs.declared.ends.Stop.TheVariants.{Outside, Memory, Visits, Pattern}
use Rattle.cfa_frames.specs.Frames.{Stack, rest}
use Rattle.cfa_frames.specs.Moves.{Next, goes_on, is_too_large, need_of, nothing, over}
use Rattle.cfa_frames.specs.Steps.{step}
use Rattle.cfa_machine.specs.Stacks.{Holds, Stands, seen_stack}
use Rattle.cfa_machine.specs.declared.machines.Machine.{Machine}
use Rattle.cfa_states.specs.Builds.{BuiltOn}
use Rattle.cfa_states.specs.History.{History}
use Rattle.cfa_states.specs.Views.{Setting}
use Rattle.cfa_walk.specs.Turns.{machine_weight}
use Rattle.cfa_agent.specs.declared.agents.Agent.{Agent}
use Rattle.cfa_agent.specs.declared.agents.Progress.{Progress}
use Rattle.cfa_agent.specs.declared.agents.Progress.TheVariants.{Going, Ended, Stopped}
use Rattle.cfa_agent.specs.declared.agents.Stepped.{Stepped}
use Rattle.cfa_agent.specs.declared.agents.Stepped.TheVariants as answers
use Rattle.cfa_agent.specs.declared.progress.Running.{Running}
use Rattle.cfa_agent.specs.declared.running.Tally.{Tally}
use Rattle.cfa_agent.specs.Ran.{counts_of, started}
use Rattle.cfa_agent.specs.Runs.{Start, actuations_in, tally_in}
use Rattle.cfa_agent.specs.Stepping.{events_since, lines_since, log_since, recorded_in, stepper}

-- ---- where an agent stands

-- what came of a run whose history is this
pub record RunningIs (moment : ℕ) (locks : Bool) (r : Running) (h : History) : Type 0 where
  pub moment_is : r.moment ≡ moment
  pub locks_are : r.locks ≡ locks
  pub number_is : r.number ≡ actuations_in h
  pub recorded_is : r.has_record ≡ recorded_in h
  pub counts_are : counts_of r.tally ≡ tally_in h

abbrev pub StoppedAt : Stop → Tally → Next → Type 0
StoppedAt Visits tally (is_too_large h) = counts_of tally ≡ tally_in h
StoppedAt Visits tally (goes_on st h) = ⊥
StoppedAt (Outside object) tally x = ⊥
StoppedAt Memory tally x = ⊥
StoppedAt (Pattern text) tally x = ⊥

-- between two steps; at the end, where nothing is left to do; or where more visits are needed than may be made. Where something
-- else stopped it, it stands nowhere
abbrev pub IsAt : Setting → (moment : ℕ) → (locks : Bool) → Progress → Next → Type 0
IsAt s moment locks (Going m r) (goes_on st h) = Stands s m h × ((seen_stack m ≡ st) × RunningIs moment locks r h)
IsAt s moment locks (Going m r) (is_too_large h) = ⊥
IsAt s moment locks (Ended tally) (goes_on st h) = (need_of st ≡ over) × (counts_of tally ≡ tally_in h)
IsAt s moment locks (Ended tally) (is_too_large h) = ⊥
IsAt s moment locks (Stopped stop tally) x = StoppedAt stop tally x

-- an agent that goes on stands somewhere
abbrev pub IsSound : Progress → Type 0
IsSound (Going m r) = Holds m × ((s : Setting) × ((h : History) × Stands s m h))
IsSound (Ended tally) = ⊤
IsSound (Stopped stop tally) = ⊤

-- so it does from the beginning on, behind each step
abbrev pub Sound : Agent → Type 0
Sound agent = IsSound agent.progress

abbrev pub tally_kept : Progress → Tally
tally_kept (Going m r) = r.tally
tally_kept (Ended tally) = tally
tally_kept (Stopped stop tally) = tally

-- a step that leaves more to do makes it lighter
abbrev pub weight_left : Progress → ℕ
weight_left (Going m r) = machine_weight m
weight_left (Ended tally) = 0
weight_left (Stopped stop tally) = 0

-- ---- a step

-- that of the definition, told by the world of a start behind the history there
abbrev pub next_by : Setting → Start → Next → Next
next_by s start (goes_on st h) = step s (stepper start h (recorded_in h)) st h
next_by s start (is_too_large h) = is_too_large h

abbrev pub history_at : Next → History
history_at (goes_on st h) = h
history_at (is_too_large h) = h

-- what it adds to the log of its site, and the lines that it tells
pub record Adds (start : Start) (h k : History) (before after : Told) (lines lines' : List (List ℕ)) : Type 0 where
  pub log_is : after ≡ adds (log_since start h (recorded_in h) (events_since h k)) before
  pub lines_are : lines' ≡ lines ++ lines_since start h (recorded_in h) (events_since h k)

-- it stands there then
pub record Arrives (s : Setting) (moment : ℕ) (locks : Bool) (start : Start) (x : Next) (lines lines' : List (List ℕ)) (before after : Told) (p' : Progress) : Type 0 where
  pub is_at : IsAt s moment locks p' (next_by s start x)
  pub adds : Adds start (history_at x) (history_at (next_by s start x)) before after lines lines'

-- the stack goes on by itself
abbrev pub IsMidway : Next → Type 0
IsMidway (goes_on st h) = need_of st ≡ nothing
IsMidway (is_too_large h) = ⊥

-- a text was refused for its size that the run builds, told by the step's site
abbrev pub BuildsThere : Setting → Start → Next → (text : List ℕ) → Type 0
BuildsThere s start (goes_on st h) text = BuiltOn s (rest s (stepper start h (recorded_in h)) st h) text
BuildsThere s start (is_too_large h) text = ⊥

-- how a stopped step ended
abbrev pub StopAs : Setting → (moment : ℕ) → (locks : Bool) → Start → Next → (lines lines' : List (List ℕ)) → (before after : Told) → (p' : Progress) → Stop → Type 0
StopAs s moment locks start x lines lines' before after p' (Outside object) = ⊤
StopAs s moment locks start x lines lines' before after p' Memory = ⊤
StopAs s moment locks start x lines lines' before after p' Visits = Arrives s moment locks start x lines lines' before after p'
StopAs s moment locks start x lines lines' before after p' (Pattern text) = BuildsThere s start x text

abbrev pub StepFrom : Setting → (moment : ℕ) → (locks : Bool) → Start → Next → (lines lines' : List (List ℕ)) → (before after : Told) → (p' : Progress) → Stepped → Type 0
StepFrom s moment locks start x lines lines' before after p' answers.More =
    Arrives s moment locks start x lines lines' before after p' × IsMidway (next_by s start x)
StepFrom s moment locks start x lines lines' before after p' answers.Ended = Arrives s moment locks start x lines lines' before after p'
StepFrom s moment locks start x lines lines' before after p' (answers.Stopped stop) = StopAs s moment locks start x lines lines' before after p' stop

-- a step from there, under the marks of what it adds
abbrev pub StepAs : Setting → (moment : ℕ) → (locks : Bool) → Next → (lines lines' : List (List ℕ)) → (before after : Told) → (p' : Progress) → Stepped → Type 0
StepAs s moment locks x lines lines' before after p' stepped =
    StepFrom s moment locks (started moment locks before after) x lines lines' before after p' stepped

-- ---- what it answers

-- the same stop, or want of memory for its text
abbrev pub IsAgain : (stop again : Stop) → Type 0
IsAgain (Outside object) again = again ≡ Outside object
IsAgain Memory again = again ≡ Memory
IsAgain Visits again = again ≡ Visits
IsAgain (Pattern text) again = (again ≡ Pattern text) ⊎ (again ≡ Memory)

-- it answers by where the agent is then
abbrev pub Answers : Progress → Stepped → Type 0
Answers (Going m r) answers.More = ⊤
Answers (Ended tally) answers.Ended = ⊤
Answers (Stopped stop tally) (answers.Stopped again) = IsAgain stop again ⊎ IsAgain again stop
Answers _ _ = ⊥

-- what is left of a run by how its step ended
abbrev pub IsLeftBy : Machine → Running → (stepped : Result Bool Stop) → Progress → Stepped → Type 0
IsLeftBy m r (Ok true) p answer = (p ≡ Going m r) × (answer ≡ answers.More)
IsLeftBy m r (Ok false) p answer = (p ≡ Ended r.tally) × (answer ≡ answers.Ended)
IsLeftBy m r (Err stop) p answer = (kept : Stop) × (IsAgain stop kept × ((p ≡ Stopped kept r.tally) × (answer ≡ answers.Stopped stop)))

abbrev pub IsMore : Stepped → Type 0
IsMore answers.More = ⊤
IsMore answers.Ended = ⊥
IsMore (answers.Stopped stop) = ⊥

abbrev pub IsResting : Progress → Type 0
IsResting (Going m r) = ⊥
IsResting (Ended tally) = ⊤
IsResting (Stopped stop tally) = ⊤

-- what has ended or was stopped stays as it is, and touches nothing
pub record Stays (p p' : Progress) (lines lines' : List (List ℕ)) (site site' : Shown Told) (pats pats' : Shown (List (List ℕ))) : Type 0 where
  pub same_progress : p' ≡ p
  pub same_lines : lines' ≡ lines
  pub same_site : Untouched site site'
  pub same_patterns : Untouched pats pats'

-- ---- counts of faults, and the builder of patterns

abbrev pub StepCounts : Stepped → (site site' : Shown Told) → Type 0
StepCounts answers.More site site' = ⊤
StepCounts answers.Ended site site' = ⊤
StepCounts (answers.Stopped (Outside Inputs)) site site' = ⊥
StepCounts (answers.Stopped (Outside Site)) site site' = Rose site.faults site'.faults
StepCounts (answers.Stopped (Outside Sink)) site site' = ⊥
StepCounts (answers.Stopped Memory) site site' = ⊤
StepCounts (answers.Stopped Visits) site site' = ⊤
StepCounts (answers.Stopped (Pattern text)) site site' = ⊤

abbrev pub StepRefuses : Stepped → (pats pats' : Shown (List (List ℕ))) → Type 0
StepRefuses answers.More pats pats' = pats' ≡ pats
StepRefuses answers.Ended pats pats' = pats' ≡ pats
StepRefuses (answers.Stopped (Outside object)) pats pats' = pats' ≡ pats
StepRefuses (answers.Stopped Memory) pats pats' = pats' ≡ pats
StepRefuses (answers.Stopped Visits) pats pats' = pats' ≡ pats
StepRefuses (answers.Stopped (Pattern text)) pats pats' = HasFailed (refuses text) pats pats'
