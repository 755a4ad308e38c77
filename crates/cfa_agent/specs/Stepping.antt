-- Steps of an agent on a site. They begin where the agent stands in its history, on the world that the site has then. What they add to
-- the log of this site is what the events since say: other sites may have been handed to the steps before, and of those the history
-- alone is known. A run of a policy on one site begins at the empty history.
use Rattle.std.specs.Prelude.{ℕ, ◌-◌, suc, Bool, true, false, ◌||◌, List, [], ◌∷◌, ◌++◌, length, take}
use Rattle.cfa_outside.specs.declared.worlds.World.{World}
use Rattle.cfa_outside.specs.declared.sites.Entry.{Entry}
use Rattle.cfa_outside.specs.Sites.{after}
use Rattle.cfa_output.specs.Lines.{report_line}
use Rattle.cfa_outcomes.specs.declared.outcomes.Outcome.{Outcome}
use Rattle.cfa_outcomes.specs.declared.outcomes.Outcome.TheVariants.{Kept, Repaired, Failed}
use Rattle.cfa_resolve.specs.declared.instances.Instance.{Instance}
use Rattle.cfa_resolve.specs.declared.instances.Work.{Work}
use Rattle.cfa_resolve.specs.declared.instances.Work.TheVariants.{Acts, Call, Report}
use Rattle.cfa_states.specs.History.{History, Event, Begun, Set, Raised, Reached, Listed, Told}
use Rattle.cfa_states.specs.Tellers.{Teller}
use Rattle.cfa_agent.specs.Actuations.{Done, entries_of}
use Rattle.cfa_agent.specs.Locking.{lock_entries}
use Rattle.cfa_agent.specs.Runs.{Start, actuations_in, done_behind, done_next, has_record, lines_done, real_on}

-- the events of a history that came behind an earlier one
abbrev pub events_since : (base h : History) → List Event
events_since base h = take (length h - length base) h

-- ---- records of a history

-- a record tells of an instance with acts that was repaired or failed
abbrev pub is_recorded : Outcome → Bool
is_recorded Kept = false
is_recorded Repaired = true
is_recorded Failed = true

abbrev pub work_recorded : Outcome → Work → Bool
work_recorded outcome (Acts acts) = is_recorded outcome
work_recorded outcome (Call name arguments) = false
work_recorded outcome (Report content) = false

-- whether there is one, before which that of the run stands
abbrev pub recorded_in : History → Bool
recorded_in [] = false
recorded_in (Told instance [] ∷ h) = recorded_in h
recorded_in (Told instance (outcome ∷ others) ∷ h) = recorded_in h || work_recorded outcome instance.work
recorded_in (Begun p arguments ∷ h) = recorded_in h
recorded_in (Set p name datum ∷ h) = recorded_in h
recorded_in (Raised place class status source ∷ h) = recorded_in h
recorded_in (Reached home promise guard sets visits ∷ h) = recorded_in h
recorded_in (Listed instance status ∷ h) = recorded_in h

-- ---- what events since a history add, on the world of a start

module _ (s : Start) (base : History) (had_record : Bool) where
  abbrev pub work_added : List Entry → (number : ℕ) → Instance → Work → List Entry
  work_added log number instance (Acts acts) =
      entries_of s.moment number instance (after log s.world) (done_behind s log number instance) (had_record || has_record log)
  work_added log number instance (Call name arguments) = []
  work_added log number instance (Report content) = []

  abbrev pub instance_added : List Entry → (number : ℕ) → Instance → List Entry
  instance_added log number instance = work_added log number instance instance.work ++ lock_entries s.moment s.has_locks instance

  -- the entries, in order
  abbrev pub log_since : List Event → List Entry
  log_since [] = []
  log_since (Told instance [] ∷ events) = log_since events
  log_since (Told instance (outcome ∷ others) ∷ events) =
      log_since events ++ instance_added (log_since events) (suc (actuations_in (events ++ base))) instance
  log_since (Begun p arguments ∷ events) = log_since events
  log_since (Set p name datum ∷ events) = log_since events
  log_since (Raised place class status source ∷ events) = log_since events
  log_since (Reached home promise guard sets visits ∷ events) = log_since events
  log_since (Listed instance status ∷ events) = log_since events

  -- the world as it stands behind them
  abbrev pub world_since : List Event → World
  world_since events = after (log_since events) s.world

  abbrev pub done_since : List Event → Instance → Done
  done_since events instance = done_next s (world_since events) (events ++ base) instance

  -- each instance ends as its site has it
  abbrev pub stepper : Teller
  stepper = real_on s (λ h. world_since (events_since base h))

  abbrev pub work_told : List Event → Instance → Work → List (List ℕ)
  work_told events instance (Acts acts) =
      lines_done s instance (done_since events instance) (done_since events instance).failure (done_since events instance).changes
  work_told events instance (Call name arguments) = []
  work_told events instance (Report content) = report_line content ∷ []

  -- the lines, in order
  abbrev pub lines_since : List Event → List (List ℕ)
  lines_since [] = []
  lines_since (Told instance [] ∷ events) = lines_since events
  lines_since (Told instance (outcome ∷ others) ∷ events) = lines_since events ++ work_told events instance instance.work
  lines_since (Begun p arguments ∷ events) = lines_since events
  lines_since (Set p name datum ∷ events) = lines_since events
  lines_since (Raised place class status source ∷ events) = lines_since events
  lines_since (Reached home promise guard sets visits ∷ events) = lines_since events
  lines_since (Listed instance status ∷ events) = lines_since events
