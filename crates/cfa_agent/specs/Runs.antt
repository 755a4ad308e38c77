-- A run begins on a world at a moment, with or without locks. Where it has locks, an instance whose lock was last set too few
-- minutes ago is skipped, and each other one sets its lock when it has ended: a call after its bundle, and a report too. The log of
-- a run is what its instances add one after the other, and the world as it stands is what this log makes of the first.
--
-- Its lines tell the instances with acts that were repaired or failed, and the reports; its tally counts how all instances ended.
use Rattle.std.specs.Prelude.{ℕ, ◌+◌, suc, Bool, true, false, List, [], ◌∷◌, ◌++◌, length, Option, Some, None}
use Rattle.cfa_outside.specs.declared.worlds.World.{World}
use Rattle.cfa_outside.specs.declared.sites.Change.{Change}
use Rattle.cfa_outside.specs.declared.sites.Change.TheVariants as changes
use Rattle.cfa_outside.specs.declared.sites.Entry.{Entry}
use Rattle.cfa_outside.specs.declared.sites.Entry.TheVariants.{Did, Refused}
use Rattle.cfa_outside.specs.Sites.{after}
use Rattle.cfa_acts.specs.declared.acts.Reason.{Reason}
use Rattle.cfa_acts.specs.Reasons.{code_of, word_of}
use Rattle.cfa_output.specs.Lines.{repaired_line, failed_line, report_line, total_line}
use Rattle.cfa_resolve.specs.declared.instances.Instance.{Instance}
use Rattle.cfa_resolve.specs.declared.instances.Work.{Work}
use Rattle.cfa_resolve.specs.declared.instances.Work.TheVariants.{Acts, Call, Report}
use Rattle.cfa_outcomes.specs.declared.outcomes.Outcome.{Outcome}
use Rattle.cfa_outcomes.specs.declared.outcomes.Outcome.TheVariants.{Kept, Repaired, Failed}
use Rattle.cfa_states.specs.History.{History, Begun, Set, Raised, Reached, Listed, Told}
use Rattle.cfa_states.specs.Tellers.{Teller, worst_in, inner_path}
use Rattle.cfa_states.specs.Views.{Setting}
use Rattle.cfa_states.specs.Passes.{Course, goes, too_large, run}
use Rattle.cfa_agent.specs.Locking.{is_skipped, lock_entries}
use Rattle.cfa_agent.specs.Actuations.{Mark, Done, done_on, outcome_done, entries_of}

-- what a run begins with, and the marks that it meets
pub record Start : Type 0 where
  pub world : World
  pub moment : ℕ
  pub has_locks : Bool
  pub marks : List Mark

-- ---- numbers

abbrev pub one_with_acts : Work → ℕ
one_with_acts (Acts acts) = 1
one_with_acts (Call name arguments) = 0
one_with_acts (Report content) = 0

-- how many instances with acts were actuated
abbrev pub actuations_in : History → ℕ
actuations_in [] = 0
actuations_in (Told instance [] ∷ h) = actuations_in h
actuations_in (Told instance (outcome ∷ others) ∷ h) = one_with_acts instance.work + actuations_in h
actuations_in (Begun p arguments ∷ h) = actuations_in h
actuations_in (Set p name datum ∷ h) = actuations_in h
actuations_in (Raised place class status source ∷ h) = actuations_in h
actuations_in (Reached home promise guard sets visits ∷ h) = actuations_in h
actuations_in (Listed instance status ∷ h) = actuations_in h

-- ---- the log

abbrev pub is_record : Entry → Bool
is_record (Did (changes.Append bytes)) = true
is_record (Did change) = false
is_record (Refused call) = false

abbrev pub has_record : List Entry → Bool
has_record [] = false
has_record (entry ∷ log) = elim (is_record entry) [ true ↦ true | false ↦ has_record log ]

module _ (s : Start) where
  -- what an instance of this number does behind a log
  abbrev pub done_behind : List Entry → (number : ℕ) → Instance → Done
  done_behind log number instance = done_on s.marks number instance (after log s.world)

  abbrev pub work_entries : List Entry → (number : ℕ) → Instance → Work → List Entry
  work_entries log number instance (Acts acts) =
      entries_of s.moment number instance (after log s.world) (done_behind log number instance) (has_record log)
  work_entries log number instance (Call name arguments) = []
  work_entries log number instance (Report content) = []

  -- a log with what an instance adds
  abbrev pub with_entries : List Entry → (number : ℕ) → Instance → List Entry
  with_entries log number instance =
      log ++ (work_entries log number instance instance.work ++ lock_entries s.moment s.has_locks instance)

  -- the entries of a history, in order
  abbrev pub log_in : History → List Entry
  log_in [] = []
  log_in (Told instance [] ∷ h) = log_in h
  log_in (Told instance (outcome ∷ others) ∷ h) = with_entries (log_in h) (suc (actuations_in h)) instance
  log_in (Begun p arguments ∷ h) = log_in h
  log_in (Set p name datum ∷ h) = log_in h
  log_in (Raised place class status source ∷ h) = log_in h
  log_in (Reached home promise guard sets visits ∷ h) = log_in h
  log_in (Listed instance status ∷ h) = log_in h

  -- the world as it stands behind a history
  abbrev pub world_in : History → World
  world_in h = after (log_in h) s.world

  -- what an instance does on a world that comes next in a history
  abbrev pub done_next : World → History → Instance → Done
  done_next world h instance = done_on s.marks (suc (actuations_in h)) instance world

  abbrev pub done_in : History → Instance → Done
  done_in h instance = done_next (world_in h) h instance

  -- ---- how instances end

  abbrev pub outcome_by_work : World → History → Instance → Work → Outcome
  outcome_by_work world h instance (Acts acts) = outcome_done (done_next world h instance)
  outcome_by_work world h instance (Call name arguments) = worst_in h (inner_path instance)
  outcome_by_work world h instance (Report content) = Kept

  -- by the world as a function of the history gives it
  abbrev pub real_on : (History → World) → Teller
  real_on world_at = record {
    skips = λ h instance. is_skipped s.moment s.has_locks (world_at h) instance;
    tells = λ h instance. outcome_by_work (world_at h) h instance instance.work ∷ [];
  }

  -- by the world that the run itself makes
  abbrev pub real : Teller
  real = real_on world_in

  -- ---- lines

  abbrev pub lines_done : Instance → Done → Option Reason → List Change → List (List ℕ)
  lines_done instance done (Some reason) made = failed_line instance.source (code_of reason) (word_of reason) ∷ []
  lines_done instance done None [] = []
  lines_done instance done None (change ∷ made) = repaired_line instance.source (length (change ∷ made)) ∷ []

  abbrev pub work_lines : History → Instance → Work → List (List ℕ)
  work_lines h instance (Acts acts) =
      lines_done instance (done_in h instance) (done_in h instance).failure (done_in h instance).changes
  work_lines h instance (Call name arguments) = []
  work_lines h instance (Report content) = report_line content ∷ []

  -- the lines of a history, in order
  abbrev pub lines_in : History → List (List ℕ)
  lines_in [] = []
  lines_in (Told instance [] ∷ h) = lines_in h
  lines_in (Told instance (outcome ∷ others) ∷ h) = lines_in h ++ work_lines h instance instance.work
  lines_in (Begun p arguments ∷ h) = lines_in h
  lines_in (Set p name datum ∷ h) = lines_in h
  lines_in (Raised place class status source ∷ h) = lines_in h
  lines_in (Reached home promise guard sets visits ∷ h) = lines_in h
  lines_in (Listed instance status ∷ h) = lines_in h

-- ---- the tally

-- how many instances were kept, repaired, failed and skipped
pub record Counts : Type 0 where
  pub kept : ℕ
  pub repaired : ℕ
  pub failed : ℕ
  pub skipped : ℕ

abbrev pub no_counts : Counts
no_counts = record { kept = 0; repaired = 0; failed = 0; skipped = 0 }

abbrev pub counted : List Outcome → Counts → Counts
counted [] c = record c { skipped = suc c.skipped }
counted (Kept ∷ others) c = record c { kept = suc c.kept }
counted (Repaired ∷ others) c = record c { repaired = suc c.repaired }
counted (Failed ∷ others) c = record c { failed = suc c.failed }

abbrev pub tally_in : History → Counts
tally_in [] = no_counts
tally_in (Told instance outcomes ∷ h) = counted outcomes (tally_in h)
tally_in (Begun p arguments ∷ h) = tally_in h
tally_in (Set p name datum ∷ h) = tally_in h
tally_in (Raised place class status source ∷ h) = tally_in h
tally_in (Reached home promise guard sets visits ∷ h) = tally_in h
tally_in (Listed instance status ∷ h) = tally_in h

-- ---- a run as a whole

abbrev pub history_of : Course → History
history_of (goes h) = h
history_of (too_large h) = h

unfoldable pub run_of : Setting → Start → Course
run_of setting s = run setting (real s)

-- its log, its lines and its counts
unfoldable pub log_of : Setting → Start → List Entry
log_of setting s = log_in s (history_of (run_of setting s))

unfoldable pub lines_of : Setting → Start → List (List ℕ)
lines_of setting s = lines_in s (history_of (run_of setting s))

unfoldable pub tally_of : Setting → Start → Counts
tally_of setting s = tally_in (history_of (run_of setting s))

-- the last line of a run that ended
abbrev pub last_line : Counts → List ℕ
last_line c = total_line c.kept c.repaired c.failed c.skipped

-- ---- settled

-- without locks and without a failed call, a run on this world changes nothing
abbrev pub quiet_start : World → (moment : ℕ) → Start
quiet_start world moment = record { world = world; moment = moment; has_locks = false; marks = [] }
