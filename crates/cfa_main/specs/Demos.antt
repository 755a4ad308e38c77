-- What a demo does. The policy of so many promises is read, checked and analysed. Where it is accepted its two first
-- lines are put; it is run, and two lines tell of that run; it is run again, and the last two lines tell of this run
-- and whether the world that it left is settled. Each run is without locks, and on the world that it finds. A stop ends
-- the work where it comes.
use Rattle.std.specs.Prelude.{ℕ, ◌≡◌, ◌<◌, ◌≤◌, false, List, [], ◌++◌, length, codes, Some, None, Result, Ok, Err, IfOk, IfErr, OnOk, ⊤}
use Rattle.cfa_base.specs.Causes.{Rose}
use Rattle.cfa_base.specs.declared.limits.TheConstants.{LAST_MOMENT}
use Rattle.cfa_base.specs.Shown.{Shown, Follows, Untouched}
use Rattle.cfa_outside.specs.Inputs.{Library}
use Rattle.cfa_outside.specs.Sinks.{adds_bytes}
use Rattle.cfa_outside.specs.Sites.{Told, adds}
use Rattle.cfa_output.specs.declared.ends.Object.TheVariants.{Inputs, Site, Sink}
use Rattle.cfa_output.specs.declared.ends.Stop.{Stop}
use Rattle.cfa_output.specs.declared.ends.Stop.TheVariants.{Outside, Memory, Visits, Pattern}
use Rattle.cfa_output.specs.declared.ends.Failure.{Failure}
use Rattle.cfa_output.specs.declared.ends.Failure.TheVariants.{Refused, Stopped}
use Rattle.cfa_output.specs.Lines.{number_line, settled_line, moment_line, memory_line, stop_line}
use Rattle.cfa_demo.specs.Counts.{changes_in}
use Rattle.cfa_demo_laws.specs.Laws.{demo_name, demo_texts}
use Rattle.cfa_words.specs.Demos.{demo_asked}
use Rattle.cfa_sources.specs.Checks.{Refuses}
use Rattle.cfa_states.specs.Levels.{IsTooLarge}
use Rattle.cfa_states.specs.Views.{Setting}
use Rattle.cfa_conflict.specs.declared.verdicts.Verdict.TheVariants.{Accepted, Conflict as InConflictBy}
use Rattle.cfa_conflict.specs.declared.verdicts.Conflict.{Conflict}
use Rattle.cfa_conflict.specs.Analyses.{analysis_of}
use Rattle.cfa_agent.specs.Actuations.{Mark}
use Rattle.cfa_agent.specs.Runs.{run_of, log_of, tally_of}
use Rattle.cfa_agent.specs.Ran.{started, start_of, counts_of, IsWhole, IfBothTold}
use Rattle.cfa_convergence.specs.Settled.{Settles}
use Rattle.cfa_main.specs.declared.demonstrating.CountedRun.{CountedRun}
use Rattle.cfa_main.specs.declared.ends.End.{End}
use Rattle.cfa_main.specs.declared.work.PolicyInContext.{PolicyInContext}
use Rattle.cfa_main.specs.Calls.{TakesPolicy, end_by, settled_by}
use Rattle.cfa_main.specs.Done.{HasFault, status_of}
use Rattle.cfa_main.specs.Stages.{setting_in, Is, StopsPutting, VerdictPut, IsRefusalWith, PutsStop, PutsFailure, status_of_stop, Called}

-- ---- the policy

-- it is valid, and the classes of the calendar alone are set from the start
abbrev pub TakesDemo : (number moment : ℕ) → Setting → Type 0
TakesDemo number moment setting = TakesPolicy (demo_texts number) moment demo_name [] setting

-- it isn't: it is refused with this line, or memory ended
abbrev pub FailsDemo : (number : ℕ) → Failure → Type 0
FailsDemo number (Refused line) = Refuses (demo_texts number) demo_name line
FailsDemo number (Stopped stop) = stop ≡ Memory

-- ---- a run

-- a run without locks on the world that a site told before it, under the marks of its own entries: its entries are
-- added, and counted are how its instances ended, its entries, and the changes among these that are no records
pub record RanOnce (setting : Setting) (moment : ℕ) (before after : Told) (run : CountedRun) : Type 0 where
  pub is_whole : IsWhole (run_of setting (started moment false before after))
  pub site_is : after ≡ adds (log_of setting (started moment false before after)) before
  pub tally_is : counts_of run.tally ≡ tally_of setting (started moment false before after)
  pub entries_are : run.entries ≡ length (log_of setting (started moment false before after))
  pub changes_are : run.changes ≡ changes_in (log_of setting (started moment false before after))

-- the same as far as the site tells; where no promise failed, the world that it leaves is settled if the policy is
-- accepted
pub record Ran (setting : Setting) (moment : ℕ) (site site' : Shown Told) (run : CountedRun) : Type 0 where
  pub once : IfBothTold (λ before after. RanOnce setting moment before after run) site site'
  pub settles : run.tally.failed ≡ 0 → (live : ℕ) → analysis_of setting ≡ Some (Accepted live) →
      IfBothTold (λ before after. Settles setting after.world) site site'

-- a run is stopped by a call on the site that failed, by want of memory, or by too many visits
abbrev pub StopsOnce : Setting → (moment : ℕ) → (site site' : Shown Told) → Stop → Type 0
StopsOnce setting moment site site' (Outside Inputs) = ⊥
StopsOnce setting moment site site' (Outside Site) = Rose site.faults site'.faults
StopsOnce setting moment site site' (Outside Sink) = ⊥
StopsOnce setting moment site site' Memory = ⊤
StopsOnce setting moment site site' Visits = IfBothTold (λ before after.
    (marks : List Mark) × IsTooLarge (run_of setting (start_of moment false before.world marks))) site site'
StopsOnce setting moment site site' (Pattern text) = ⊥

pub record RunOnce (setting : Setting) (moment : ℕ) (site site' : Shown Told)
    (result : Result CountedRun Stop) : Type 0 where
  pub ran : IfOk result (Ran setting moment site site')
  pub stopped : IfErr result (StopsOnce setting moment site site')

-- ---- its lines

abbrev pub demo_lines : (number live : ℕ) → List ℕ
demo_lines number live = number_line (codes "demo") number ++ number_line (codes "accepted") live

abbrev pub first_lines : CountedRun → List ℕ
first_lines run = number_line (codes "repaired") run.tally.repaired ++ number_line (codes "changes") run.changes

abbrev pub second_lines : (live : ℕ) → CountedRun → List ℕ
second_lines live run =
    number_line (codes "rerun") run.entries ++ settled_line (settled_by false run.tally.failed (Some (Accepted live)))

-- two lines were put, or memory ended, or a put of them failed
pub record LinesPut (lines : List ℕ) (out out' : Shown (List ℕ)) (result : Result (Unit {0}) Stop) : Type 0 where
  pub put : OnOk result (Follows (adds_bytes lines) out out')
  pub stopped : IfErr result (StopsPutting (Is lines) out out')

-- ---- the order of work, from its end on

-- what a site shows is told; and of a type whose sites all tell it is told always
abbrev pub IsTold : Shown Told → Type 0
IsTold shown = (t : Told) × (shown.told ≡ Some t)

abbrev pub AlwaysTells : {X : Type 0} → (X → Shown Told) → Type 0
AlwaysTells {X} shown = (x : X) → IsTold (shown x)

-- the lines behind the second run
pub data SecondIsTold (live : ℕ) (run : CountedRun) (out out' : Shown (List ℕ)) : Result End Stop → Type 0 where
  told : Follows (adds_bytes (second_lines live run)) out out' →
      SecondIsTold live run out out' (Ok (end_by run.tally.failed))
  not_told : {stop : Stop} → StopsPutting (Is (second_lines live run)) out out' stop → SecondIsTold live run out out' (Err stop)

-- the second run, and what follows it
pub data RunsAgain (setting : Setting) (moment live : ℕ) (site site' : Shown Told) (out out' : Shown (List ℕ)) :
    Result End Stop → Type 0 where
  ran_again : {result : Result End Stop} (second : CountedRun) → Ran setting moment site site' second →
      SecondIsTold live second out out' result → RunsAgain setting moment live site site' out out' result
  stopped_again : {stop : Stop} → StopsOnce setting moment site site' stop → Untouched out out' →
      RunsAgain setting moment live site site' out out' (Err stop)

-- the lines behind the first run, and what follows them
pub data FirstIsTold (setting : Setting) (moment live : ℕ) (run : CountedRun) (site site' : Shown Told)
    (out out' : Shown (List ℕ)) : Result End Stop → Type 0 where
  first_told : {result : Result End Stop} (mid : Shown (List ℕ)) → Follows (adds_bytes (first_lines run)) out mid →
      RunsAgain setting moment live site site' mid out' result →
      FirstIsTold setting moment live run site site' out out' result
  first_not_told : {stop : Stop} → Untouched site site' → StopsPutting (Is (first_lines run)) out out' stop →
      FirstIsTold setting moment live run site site' out out' (Err stop)

-- the first run, and what follows it; between the runs the site tells its world where sites of its type do
pub data RunsTwice (Tells : Type 0) (setting : Setting) (moment live : ℕ) (site site' : Shown Told)
    (out out' : Shown (List ℕ)) : Result End Stop → Type 0 where
  ran_first : {result : Result End Stop} (mid : Shown Told) (first : CountedRun) → (Tells → IsTold mid) →
      Ran setting moment site mid first → FirstIsTold setting moment live first mid site' out out' result →
      RunsTwice Tells setting moment live site site' out out' result
  stopped_first : {stop : Stop} → StopsOnce setting moment site site' stop → Untouched out out' →
      RunsTwice Tells setting moment live site site' out out' (Err stop)

-- the lines before the runs, and what follows them
pub data IsShown (Tells : Type 0) (setting : Setting) (number moment live : ℕ) (site site' : Shown Told)
    (out out' : Shown (List ℕ)) : Result End Stop → Type 0 where
  begun : {result : Result End Stop} (mid : Shown (List ℕ)) → Follows (adds_bytes (demo_lines number live)) out mid →
      RunsTwice Tells setting moment live site site' mid out' result →
      IsShown Tells setting number moment live site site' out out' result
  not_begun : {stop : Stop} → Untouched site site' → StopsPutting (Is (demo_lines number live)) out out' stop →
      IsShown Tells setting number moment live site site' out out' (Err stop)

-- the analysis, and what follows it: only an accepted policy is run
pub data IsPerformed (Tells : Type 0) (setting : Setting) (number moment : ℕ) (site site' : Shown Told)
    (out out' : Shown (List ℕ)) : Result End Stop → Type 0 where
  accepted : {result : Result End Stop} (live : ℕ) → analysis_of setting ≡ Some (Accepted live) →
      IsShown Tells setting number moment live site site' out out' result →
      IsPerformed Tells setting number moment site site' out out' result
  in_conflict : {result : Result End Stop} (c : Conflict) → analysis_of setting ≡ Some (InConflictBy c) →
      Untouched site site' → VerdictPut (InConflictBy c) out out' result →
      IsPerformed Tells setting number moment site site' out out' result
  too_large : analysis_of setting ≡ None → Untouched site site' → Untouched out out' →
      IsPerformed Tells setting number moment site site' out out' (Err Visits)
  without_memory : Untouched site site' → Untouched out out' →
      IsPerformed Tells setting number moment site site' out out' (Err Memory)

-- ---- the call

-- a call that asks for a demo did this and ended with the status; the last line of a stop or a refusal is put where it
-- can be
pub data Demonstrates (Tells : Type 0) (number moment : ℕ) (site site' : Shown Told) (out out' : Shown (List ℕ))
    (status : ℕ) : Type 0 where
  no_memory : Untouched site site' → PutsStop (Some memory_line) 5 out out' status →
      Demonstrates Tells number moment site site' out out' status
  late : (failure : Failure) → LAST_MOMENT < moment → IsRefusalWith moment_line failure → Untouched site site' →
      PutsFailure failure out out' status → Demonstrates Tells number moment site site' out out' status
  not_taken : (failure : Failure) → moment ≤ LAST_MOMENT → FailsDemo number failure → Untouched site site' →
      PutsFailure failure out out' status → Demonstrates Tells number moment site site' out out' status
  ended : {setting : Setting} (end : End) → moment ≤ LAST_MOMENT → TakesDemo number moment setting →
      IsPerformed Tells setting number moment site site' out out' (Ok end) → status ≡ status_of end →
      Demonstrates Tells number moment site site' out out' status
  stopped : {setting : Setting} (stop : Stop) (mid : Shown (List ℕ)) → moment ≤ LAST_MOMENT → TakesDemo number moment setting →
      IsPerformed Tells setting number moment site site' out mid (Err stop) →
      PutsStop (stop_line stop) (status_of_stop stop) mid out' status →
      Demonstrates Tells number moment site site' out out' status

-- how a demo in time ends: by its second run, without a failed promise or with one; or it is stopped, by a put that failed, by the
-- site, which has counted a failed call, by want of memory, or by too many visits where sites needn't tell their world
pub data EndsDemo (Tells : Type 0) (site' : Shown Told) (out out' : Shown (List ℕ)) (status : ℕ) : Type 0 where
  kept_in_the_end : status ≡ 0 → EndsDemo Tells site' out out' status
  failed_in_the_end : status ≡ 2 → EndsDemo Tells site' out out' status
  stopped_by_sink : status ≡ 4 → HasFault out out' → EndsDemo Tells site' out out' status
  stopped_by_site : status ≡ 4 → 0 < site'.faults → EndsDemo Tells site' out out' status
  stopped_by_memory : status ≡ 5 → EndsDemo Tells site' out out' status
  stopped_by_visits : status ≡ 6 → ¬ Tells → EndsDemo Tells site' out out' status

-- the words ask for no demo
abbrev pub AsksNoDemo : (words : List (List ℕ)) → Type 0
AsksNoDemo words = demo_asked words ≡ None

-- Of the code alone: what a stop within a run counts as, where nothing but the site is of the outside.
abbrev pub narrowed : Stop → Stop
narrowed (Outside Inputs) = Memory
narrowed (Outside Site) = Outside Site
narrowed (Outside Sink) = Memory
narrowed Memory = Memory
narrowed Visits = Visits
narrowed (Pattern text) = Memory

-- the policy was read, or wasn't
pub record DemoRead (number moment : ℕ) (result : Result PolicyInContext Failure) : Type 0 where
  pub takes : IfOk result (λ policy. TakesDemo number moment (setting_in policy))
  pub fails : IfErr result (FailsDemo number)

-- how a call ended, by what its words ask for
pub data CalledFor (Tells : Type 0) (words : List (List ℕ)) (moment : ℕ) (inputs inputs' : Shown Library)
    (site site' : Shown Told) (out out' : Shown (List ℕ)) (pats pats' : Shown (List (List ℕ))) (status : ℕ) : Type 0 where
  a_demo : {number : ℕ} → demo_asked words ≡ Some number → Untouched inputs inputs' → Untouched pats pats' →
      Demonstrates Tells number moment site site' out out' status →
      CalledFor Tells words moment inputs inputs' site site' out out' pats pats' status
  no_demo : demo_asked words ≡ None → Called words moment inputs inputs' site site' out out' pats pats' status →
      CalledFor Tells words moment inputs inputs' site site' out out' pats pats' status
  unread : Untouched inputs inputs' → Untouched site site' → Untouched pats pats' →
      PutsStop (Some memory_line) 5 out out' status →
      CalledFor Tells words moment inputs inputs' site site' out out' pats pats' status
