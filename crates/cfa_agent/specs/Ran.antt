-- What a run leaves. Its log, its lines and its counts are those of its definition under the marks of the entries that it adds:
-- a mark says of an instance that a call of the site failed in one of its acts, so that only a call that was really refused
-- can make one.
--
-- A run is stopped where a lock or the journal fails, where a line can't be put, where memory ends, where more visits are needed
-- than a run may make, and where a pattern is refused for its size.
use Rattle.std.specs.Prelude.{ℕ, ◌≡◌, ◌≤◌, Bool, List, ◌++◌, drop, length, flat_map, Option, Some, None, Result, Ok, Err, IfSome, ⊤}
use Rattle.cfa_base.specs.Shown.{Shown, Follows, HasFailed}
use Rattle.cfa_base.specs.Patterns.{refuses}
use Rattle.cfa_outside.specs.declared.sites.Entry.{Entry}
use Rattle.cfa_outside.specs.declared.worlds.World.{World}
use Rattle.cfa_outside.specs.Sites.{Told, adds}
use Rattle.cfa_outside.specs.Sinks.{adds_bytes}
use Rattle.cfa_output.specs.declared.ends.Stop.{Stop}
use Rattle.cfa_output.specs.declared.ends.Object.TheVariants.{Inputs, Site, Sink}
use Rattle.cfa_output.specs.declared.ends.Stop.TheVariants.{Outside, Memory, Visits, Pattern}
use Rattle.cfa_states.specs.Builds.{BuiltOn}
use Rattle.cfa_states.specs.Levels.{Stops}
use Rattle.cfa_states.specs.Views.{Setting}
use Rattle.cfa_states.specs.Passes.{Course, goes, too_large}
use Rattle.cfa_agent.specs.declared.running.Tally.{Tally}
use Rattle.cfa_agent.specs.Actuations.{Mark}
use Rattle.cfa_agent.specs.Marks.{marks_of}
use Rattle.cfa_agent.specs.Runs.{Start, Counts, run_of, log_of, lines_of, tally_of, last_line}

-- ---- a run that ended

-- the entries that a site's log has more
abbrev pub added : (before after : Told) → List Entry
added before after = drop (length before.log) after.log

abbrev pub start_of : (moment : ℕ) → (has_locks : Bool) → World → List Mark → Start
start_of moment has_locks world marks =
    record { world = world; moment = moment; has_locks = has_locks; marks = marks }

-- what a run begins with, by what the site told before and after it
abbrev pub started : (moment : ℕ) → (has_locks : Bool) → (before after : Told) → Start
started moment has_locks before after = start_of moment has_locks before.world (marks_of (added before after))

abbrev pub IsWhole : Course → Type 0
IsWhole (goes h) = ⊤
IsWhole (too_large h) = ⊥

abbrev pub counts_of : Tally → Counts
counts_of tally = record { kept = tally.kept; repaired = tally.repaired; failed = tally.failed; skipped = tally.skipped }

-- what lines put
abbrev pub text_of_lines : List (List ℕ) → List ℕ
text_of_lines lines = flat_map (λ line. line) lines

-- the lines of a run that ended, with the total behind them
abbrev pub text_of : Setting → Start → List ℕ
text_of setting s = text_of_lines (lines_of setting s) ++ last_line (tally_of setting s)

-- a run of the setting did, put and counted what its definition says
pub record RunsAs (setting : Setting) (s : Start) (before after : Told) (out out' : Shown (List ℕ)) (tally : Tally) : Type 0 where
  pub is_whole : IsWhole (run_of setting s)
  pub site_is : after ≡ adds (log_of setting s) before
  pub out_is : Follows (adds_bytes (text_of setting s)) out out'
  pub tally_is : counts_of tally ≡ tally_of setting s

-- by counts alone, also on a site that tells nothing: neither that of failed promises falls nor that of the site's faults, and
-- where the first stands, so does the second
pub record CountsFaults (failed failed' faults faults' : ℕ) : Type 0 where
  pub failed_later : failed ≤ failed'
  pub later : faults ≤ faults'
  pub calm : failed' ≡ failed → faults' ≡ faults

-- this holds of what a site told before and after, where it tells
abbrev pub IfBothTold : (Holds : (before after : Told) → Type 0) → (site site' : Shown Told) → Type 0
IfBothTold Holds site site' = IfSome site.told (λ before. IfSome site'.told (λ after. Holds before after))

-- ---- a run that was stopped

-- a run that was stopped at the limit did and put all that its definition says before the promise with which it would have more visits
pub record LimitAs (setting : Setting) (s : Start) (before after : Told) (out out' : Shown (List ℕ)) : Type 0 where
  pub site_is : after ≡ adds (log_of setting s) before
  pub out_is : Follows (adds_bytes (text_of_lines (lines_of setting s))) out out'

-- the text that was refused for its size, if that stopped the run
abbrev pub text_too_big : Result Tally Stop → Option (List ℕ)
text_too_big (Ok tally) = None
text_too_big (Err (Outside object)) = None
text_too_big (Err Memory) = None
text_too_big (Err Visits) = None
text_too_big (Err (Pattern text)) = Some text

-- the cause of a stop by an object of the outside: its count of faults rose. But for a failed put the count of the sink stands
abbrev pub StopsRun : (site site' : Shown Told) → (out out' : Shown (List ℕ)) → Stop → Type 0
StopsRun site site' out out' stop = Stops (site.faults, out.faults) (site'.faults, out'.faults) stop

-- the text that stopped the run is one that the run builds, by its definition under the marks of the entries so far
abbrev pub RunBuilds : Setting → (moment : ℕ) → (has_locks : Bool) → (site site' : Shown Told) → Option (List ℕ) → Type 0
RunBuilds setting moment has_locks site site' None = ⊤
RunBuilds setting moment has_locks site site' (Some text) =
    IfBothTold (λ before after. BuiltOn setting (run_of setting (started moment has_locks before after)) text) site site'

-- the builder of patterns is as it was, unless it refused the text that stopped the run
abbrev pub Refuses : Option (List ℕ) → (pats pats' : Shown (List (List ℕ))) → Type 0
Refuses None pats pats' = pats' ≡ pats
Refuses (Some text) pats pats' = HasFailed (refuses text) pats pats'

-- where a line of the step couldn't be put that was so stopped, the run ends by that
pub data RefusesUnput (Builds : List ℕ → Type 0) (pats pats' : Shown (List (List ℕ))) : Type 0 where
  refuses_none : pats' ≡ pats → RefusesUnput Builds pats pats'
  refuses_one : (text : List ℕ) → Builds text → HasFailed (refuses text) pats pats' → RefusesUnput Builds pats pats'

abbrev pub RunRefuses : {X : Type 0} → (Builds : List ℕ → Type 0) → Result X Stop → (pats pats' : Shown (List (List ℕ))) → Type 0
RunRefuses Builds (Ok answer) pats pats' = pats' ≡ pats
RunRefuses Builds (Err (Outside Inputs)) pats pats' = pats' ≡ pats
RunRefuses Builds (Err (Outside Site)) pats pats' = pats' ≡ pats
RunRefuses Builds (Err (Outside Sink)) pats pats' = RefusesUnput Builds pats pats'
RunRefuses Builds (Err Memory) pats pats' = pats' ≡ pats
RunRefuses Builds (Err Visits) pats pats' = pats' ≡ pats
RunRefuses Builds (Err (Pattern text)) pats pats' = HasFailed (refuses text) pats pats'
