-- Of the code alone: with what a run on a site agrees as far as it was made.
use Rattle.std.specs.Prelude.{ℕ, ◌≡◌, ◌≤◌, List, [], ◌++◌, All, Bool, true, false, ◌||◌, length, drop, Option, Some, None, ◌∷◌, IsTrue}
use Rattle.std.proofs.Common.{ap}
use Rattle.std.proofs.lemmas.Bool.{false≢true}
use Rattle.cfa_outside.specs.declared.sites.Entry.{Entry}
use Rattle.cfa_journal.specs.declared.positions.Position.{Position}
use Rattle.cfa_journal.specs.declared.positions.Position.TheVariants as positions
use Rattle.cfa_journal.specs.declared.positions.Version.TheVariants.{Two}
use Rattle.cfa_journal.specs.declared.records.Record.{Record}
use Rattle.cfa_agent.specs.Actuations.{Mark, mark_of}
use Rattle.cfa_agent.specs.Bracketed.{Point, IsBracketedFrom}
use Rattle.cfa_outside.specs.declared.worlds.World.{World}
use Rattle.cfa_agent.specs.Marks.{marks_of}
use Rattle.cfa_base.specs.Shown.{Shown}
use Rattle.cfa_outside.specs.Sites.{Told, adds, after}
use Rattle.cfa_states.specs.History.{History, Event, Begun, Set, Raised, Reached, Listed, Told as Heard}
use Rattle.cfa_states.specs.Levels.{Faults, is_quiet}
use Rattle.cfa_states.specs.Tellers.{Teller}
use Rattle.cfa_agent.specs.declared.progress.Running.{Running}
use Rattle.cfa_agent.specs.Ran.{counts_of}
use Rattle.cfa_agent.specs.Runs.{Counts, Start, no_counts, actuations_in, has_record, tally_in}
use Rattle.cfa_agent.specs.Stepping.{stepper, recorded_in, log_since, world_since, lines_since}

-- A log whose marks stay, whatever is added to it.

-- all these marks are of these entries, whatever is added
pub record Gives (log : List Entry) (marks : List Mark) : Type 0 where
  pub before : (more : List Entry) → marks_of (log ++ more) ≡ marks ++ marks_of more

-- whatever is added, the marks of the log stay, and none of them has a number above this one
pub record IsWholeLog (n : ℕ) (log : List Entry) : Type 0 where
  pub gives : Gives log (marks_of log)
  pub within : All (λ (m : Mark). m.instance ≤ n) (marks_of log)

-- A log that is bracketed, whatever is added to it from where it leads.

-- a point of a log by its parts
abbrev pub at : Position → Option Record → (changes : ℕ) → World → Point
at position written changes world =
    record { position = position; written = written; changes = changes; world = world }

-- a log leads from a point to a position, where so many changes are counted
pub record Leads (here : Point) (log : List Entry) (position : Position) (changes : ℕ) : Type 0 where
  pub written : Option Record
  pub on : (more : List Entry) → IsBracketedFrom (at position written changes (after log here.world)) more →
      IsBracketedFrom here (log ++ more)

-- where a run stands whose instances have all ended, by whether it has a record
abbrev pub resting : (has_record : Bool) → Position
resting false = positions.Start
resting true = positions.Between Two

-- from where a run stands on a world, a log leads to where it stands then
abbrev pub Rests : (had_record : Bool) → World → List Entry → (has_record : Bool) → Type 0
Rests had_record world log has = Leads (at (resting had_record) None 0 world) log (resting has) 0

-- With what steps on a site agree as far as they were made, and what they came to. Which calls of the site fail is
-- known of the entries alone that they have added so far. So they agree with each run of the definition that
-- meets their marks, up to the instance that was actuated last.

-- where steps on a site begin: their start, the history behind which they stand, whether this has a record, what happened on the
-- site before, and the lines that weren't taken; and the lines that were taken since
pub record Given : Type 0 where
  pub start : Start
  pub base : History
  pub had_record : Bool
  pub log : List Entry
  pub lines : List (List ℕ)
  pub taken : List (List ℕ)

-- who tells how instances end, with what its site shows and the lines that weren't taken
abbrev pub Standing : Type 0
Standing = Running × (Shown Told × List (List ℕ))

abbrev pub teller_of : Given → Teller
teller_of g = stepper g.start g.base g.had_record

-- no line fails
abbrev pub faults_of : Standing → Faults
faults_of w = (w.1.0.faults, 0)

-- ---- with what it agrees

-- what was added to the log since the start
abbrev pub since : Given → Told → List Entry
since g t = drop (length g.log) t.log

-- the log goes on from that of the start by whole entries
pub record GoesOn (number : ℕ) (g : Given) (t : Told) : Type 0 where
  pub longer : length g.log ≤ length t.log
  pub whole : IsWholeLog number (since g t)

-- the same marks of the instances up to a number
abbrev pub SameMarks : (number : ℕ) → (marks marks' : List Mark) → Type 0
SameMarks number marks marks' = (k : ℕ) → k ≤ number → mark_of marks k ≡ mark_of marks' k

abbrev pub Agrees : Standing → Given → Type 0
Agrees w g =
    (t : Told) → w.1.0.told ≡ Some t → GoesOn w.0.number g t →
    SameMarks w.0.number g.start.marks (marks_of (since g t))

-- ---- what it came to

-- a run that begins has actuated, written and counted nothing
pub record IsFirst (moment : ℕ) (locks : Bool) (r : Running) : Type 0 where
  pub moment_is : r.moment ≡ moment
  pub locks_are : r.locks ≡ locks
  pub number_is : r.number ≡ 0
  pub has_record_is : r.has_record ≡ false
  pub counts_are : counts_of r.tally ≡ no_counts

abbrev pub first_told : Given → Told
first_told g = record { world = g.start.world; log = g.log }

-- this was written, told and counted since, of so many instances with acts in all
pub record CameTo (w : Standing) (g : Given) (log : List Entry) (lines : List (List ℕ)) (number : ℕ) (recorded : Bool) (counts : Counts) : Type 0 where
  pub moment_is : w.0.moment ≡ g.start.moment
  pub locks_are : w.0.locks ≡ g.start.has_locks
  pub number_is : w.0.number ≡ number
  pub has_record_is : w.0.has_record ≡ g.had_record || has_record log
  pub recorded_is : w.0.has_record ≡ recorded
  pub counts_are : counts_of w.0.tally ≡ counts
  pub whole : IsWholeLog w.0.number log
  pub rests : Rests g.had_record g.start.world log w.0.has_record
  pub told_is : w.1.0.told ≡ Some (adds log (first_told g))
  pub lines_are : g.taken ++ w.1.1 ≡ g.lines ++ lines

abbrev pub log_of_events : Given → List Event → List Entry
log_of_events g = log_since g.start g.base g.had_record

abbrev pub world_of_events : Given → List Event → World
world_of_events g = world_since g.start g.base g.had_record

abbrev pub lines_of_events : Given → List Event → List (List ℕ)
lines_of_events g = lines_since g.start g.base g.had_record

-- by these events, to this history
abbrev pub CameBy : Standing → Given → List Event → History → Type 0
CameBy w g events h = CameTo w g (log_of_events g events) (lines_of_events g events) (actuations_in h) (recorded_in h) (tally_in h)

pub record IsBehind (w : Standing) (g : Given) (h : History) : Type 0 where
  pub events : List Event
  pub is : h ≡ events ++ g.base
  pub came : CameBy w g events h

-- What a run came to stands over the events that it needn't hear of.

stays : (w : Standing) (g : Given) (events : List Event) (event : Event) (h : History) → IsTrue (is_quiet event) →
    CameBy w g events h → CameBy w g (event ∷ events) (event ∷ h)
stays w g events (Begun path arguments) h quiet came = came
stays w g events (Set path name datum) h quiet came = came
stays w g events (Raised place class status source) h quiet came = came
stays w g events (Reached home promise guard sets visits) h quiet came = came
stays w g events (Listed instance status) h quiet came = came
stays w g events (Heard instance outcomes) h quiet came = absurd (false≢true quiet)

pub stays_behind : (w : Standing) (g : Given) (event : Event) (h : History) →
    IsTrue (is_quiet event) → IsBehind w g h → IsBehind w g (event ∷ h)
stays_behind w g event h quiet behind = record {
  events = event ∷ behind.events;
  is = ap (λ (l : List Event). event ∷ l) behind.is;
  came = stays w g behind.events event h quiet behind.came;
}
