-- Several agents of one policy on one host, without locks. They are numbered from 1, and a list of numbers says whose turn it is: each
-- number moves its agent by one step, on the world as it stands then. So does the number of an agent that has ended, which does nothing.
--
-- A mark says of a turn, numbered from 1 too, that in its step, after so many changes, a call of some kind failed in an act, or in the
-- look or read for its digest. It acts on the instance of that step alone.
use Rattle.std.specs.Prelude.{ℕ, suc, ◌==◌, Bool, true, false, ◌||◌, List, [], ◌∷◌, ◌++◌, map}
use Rattle.cfa_outside.specs.declared.worlds.World.{World}
use Rattle.cfa_outside.specs.declared.sites.Call.{Call}
use Rattle.cfa_outside.specs.declared.sites.Entry.{Entry}
use Rattle.cfa_outside.specs.declared.sites.Entry.TheVariants.{Did, Refused}
use Rattle.cfa_outside.specs.Sites.{after}
use Rattle.cfa_frames.specs.Moves.{Next}
use Rattle.cfa_frames.specs.Steps.{begun}
use Rattle.cfa_states.specs.History.{History}
use Rattle.cfa_states.specs.Views.{Setting}
use Rattle.cfa_agent.specs.Actuations.{Mark}
use Rattle.cfa_agent.specs.Agents.{history_at, next_by}
use Rattle.cfa_agent.specs.Marks.{counted_on}
use Rattle.cfa_agent.specs.Ran.{start_of}
use Rattle.cfa_agent.specs.Runs.{Start, actuations_in}
use Rattle.cfa_agent.specs.Stepping.{events_since, lines_since, log_since, recorded_in}

-- ---- marks of turns

pub record TurnMark : Type 0 where
  pub turn : ℕ
  pub changes : ℕ
  pub call : Call

abbrev pub marked_if : (is_its : Bool) → (number : ℕ) → TurnMark → List Mark
marked_if true number mark = record { instance = number; changes = mark.changes; call = mark.call } ∷ []
marked_if false number mark = []

-- those of one turn, as marks of the instance of this number
abbrev pub marks_in : (turn number : ℕ) → List TurnMark → List Mark
marks_in turn number [] = []
marks_in turn number (mark ∷ marks) = marked_if (mark.turn == turn) number mark ++ marks_in turn number marks

-- the refused calls of a log are paired with turns, in order, where an instance has made so many changes before the log. They are counted
-- as for the marks of a run
abbrev pub turn_marks_behind : (changes : ℕ) → List Entry → (turns : List ℕ) → List TurnMark
turn_marks_behind changes [] turns = []
turn_marks_behind changes (Did change ∷ log) turns = turn_marks_behind (counted_on changes change) log turns
turn_marks_behind changes (Refused call ∷ log) [] = []
turn_marks_behind changes (Refused call ∷ log) (turn ∷ turns) =
    record { turn = turn; changes = changes; call = call } ∷ turn_marks_behind changes log turns

abbrev pub turn_marks_of : List Entry → (turns : List ℕ) → List TurnMark
turn_marks_of log turns = turn_marks_behind 0 log turns

-- ---- agents on one host

-- where each agent stands, by its number; what all of them added to the log; the lines that they told, each with the number of its agent;
-- how many turns there were, and those of them in which a call failed
pub record Together : Type 0 where
  pub stands : ℕ → Next
  pub log : List Entry
  pub lines : List (ℕ × List ℕ)
  pub turns : ℕ
  pub faults : List ℕ

-- none has done anything yet
abbrev pub first_of_all : Setting → Together
first_of_all s = record { stands = λ number. begun s; log = []; lines = []; turns = 0; faults = [] }

abbrev pub is_refusal : Entry → Bool
is_refusal (Did change) = false
is_refusal (Refused call) = true

abbrev pub has_refusal : List Entry → Bool
has_refusal [] = false
has_refusal (entry ∷ log) = is_refusal entry || has_refusal log

abbrev pub listed_if : Bool → ℕ → List ℕ
listed_if true turn = turn ∷ []
listed_if false turn = []

-- the agent of this number stands there now, and the others where they stood
abbrev pub stood_if : (is_its : Bool) → (now before : Next) → Next
stood_if true now before = now
stood_if false now before = before

-- what a step adds that goes on from a history up to another
abbrev pub step_entries : Start → (h k : History) → List Entry
step_entries start h k = log_since start h (recorded_in h) (events_since h k)

abbrev pub step_lines : Start → (h k : History) → List (List ℕ)
step_lines start h k = lines_since start h (recorded_in h) (events_since h k)

module _ (s : Setting) (moment : ℕ) (marks : List TurnMark) (world : World) where
  -- what the step of a turn begins with, from this history
  abbrev pub start_in : (turn : ℕ) → List Entry → History → Start
  start_in turn log h = start_of moment false (after log world) (marks_in turn (suc (actuations_in h)) marks)

  -- a step was made that began so
  abbrev pub with_step : (number : ℕ) → Together → Start → (h : History) → (now : Next) → Together
  with_step number all start h now = record {
    stands = λ other. stood_if (number == other) now (all.stands other);
    log = all.log ++ step_entries start h (history_at now);
    lines = all.lines ++ map (λ line. (number, line)) (step_lines start h (history_at now));
    turns = suc all.turns;
    faults = all.faults ++ listed_if (has_refusal (step_entries start h (history_at now))) (suc all.turns);
  }

  -- the agent of this number makes its step
  abbrev pub turned_from : (number : ℕ) → Together → Next → Together
  turned_from number all x =
      with_step number all (start_in (suc all.turns) all.log (history_at x)) (history_at x)
      (next_by s (start_in (suc all.turns) all.log (history_at x)) x)

  abbrev pub turned : (number : ℕ) → Together → Together
  turned number all = turned_from number all (all.stands number)

  -- one after the other
  abbrev pub turned_all : (numbers : List ℕ) → Together → Together
  turned_all [] all = all
  turned_all (number ∷ numbers) all = turned_all numbers (turned number all)

  -- from the beginning
  unfoldable pub interleave : (numbers : List ℕ) → Together
  interleave numbers = turned_all numbers (first_of_all s)
