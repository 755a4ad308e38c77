-- Of the code alone: the two phases of a call. What reads it touches neither the site nor the sink, and what does its work
-- doesn't touch the inputs.
use Rattle.std.specs.Prelude.{ℕ, ◌≡◌, ◌≢◌, ◌<◌, ◌≤◌, List, Option, Some, None, ⊤, ◌⊎◌, Bool, true, false, Result, Ok, Err, IfOk, OnOk, IfErr, IsErrOf, IfSome}
use Rattle.cfa_base.specs.declared.limits.TheConstants.{LAST_MOMENT}
use Rattle.cfa_base.specs.Shown.{Shown, Follows, Untouched}
use Rattle.cfa_base.specs.Patterns.{SizeRefusal}
use Rattle.cfa_words.specs.declared.words.Options.{Options}
use Rattle.cfa_words.specs.declared.words.Request.{Request}
use Rattle.cfa_words.specs.Words.{asked}
use Rattle.cfa_outside.specs.Inputs.{Library}
use Rattle.cfa_outside.specs.Sites.{Told}
use Rattle.cfa_outside.specs.Sinks.{adds_bytes}
use Rattle.cfa_output.specs.declared.ends.Object.TheVariants.{Inputs, Site, Sink}
use Rattle.cfa_output.specs.declared.ends.Stop.{Stop}
use Rattle.cfa_output.specs.declared.ends.Stop.TheVariants.{Outside, Memory, Visits, Pattern}
use Rattle.cfa_output.specs.declared.ends.Failure.{Failure}
use Rattle.cfa_output.specs.declared.ends.Failure.TheVariants.{Refused, Stopped}
use Rattle.cfa_output.specs.Ends.{IfRefused, Tells}
use Rattle.cfa_output.specs.declared.items.End.TheVariants.{Yes}
use Rattle.cfa_output.specs.Lines.{words_line, moment_line, stop_line, journal_bad_line, journal_long_line}
use Rattle.cfa_output.specs.Puts.{PutsShort}
use Rattle.cfa_journal.specs.declared.journals.JournalErr.{JournalErr}
use Rattle.cfa_journal.specs.declared.journals.JournalErr.TheVariants.{BadRecord, TooLong, NoMemory}
use Rattle.cfa_sources.specs.Sources.{Texts, IsNamed, IsNextFile}
use Rattle.cfa_sources.specs.Checks.{Refuses as RefusesPolicy, RefusesSize}
use Rattle.cfa_sources.specs.Readings.{ReadUpTo, stop_of, stopped_by, text_too_big}
use Rattle.cfa_walk.specs.Settings.{setting_of}
use Rattle.cfa_states.specs.Levels.{IsTooLarge}
use Rattle.cfa_states.specs.Passes.{run}
use Rattle.cfa_states.specs.Tellers.{open_walk}
use Rattle.cfa_states.specs.Views.{Setting}
use Rattle.cfa_conflict.specs.declared.verdicts.Verdict.{Verdict}
use Rattle.cfa_conflict.specs.declared.verdicts.Verdict.TheVariants.{Accepted, Conflict as InConflictBy}
use Rattle.cfa_conflict.specs.Analyses.{AnalysisBuilds, analysis_of}
use Rattle.cfa_agent.specs.Runs.{run_of, tally_of}
use Rattle.cfa_agent.specs.Bracketed.{AllBracketed}
use Rattle.cfa_agent.specs.Ran.{added, LimitAs, RunBuilds, started, IsWhole, IfBothTold, StopsRun, Refuses, RunRefuses}
use Rattle.cfa_convergence.specs.Settled.{Settles}
use Rattle.cfa_main.specs.declared.ends.End.{End}
use Rattle.cfa_main.specs.declared.ends.End.TheVariants.{Ended, PromiseFailed, InConflict}
use Rattle.cfa_main.specs.declared.work.PolicyInContext.{PolicyInContext}
use Rattle.cfa_main.specs.declared.work.PolicyRun.{PolicyRun}
use Rattle.cfa_main.specs.declared.work.Work.{Work}
use Rattle.cfa_main.specs.declared.work.Work.TheVariants.{Run, Judge, Search, Show}
use Rattle.cfa_main.specs.Audits.{bytes_of, RefusesJournal}
use Rattle.cfa_main.specs.Calls.{Task, runs, judges, searches, shows, TakesPolicy, TakesRun, RefusesRequest, TakesRequest, settled_by, verdict_line, verdict_end, ran}
use Rattle.cfa_main.specs.Done.{IsDone, FallsShort, status_of}
use Rattle.cfa_main.specs.Searches.{TellsSearch, IsSearchText, BuiltToSearch}
use Rattle.cfa_main.specs.Ends.{IsRun, IsObeying, IsNextOf, AsksNext, BuildsOf, AsksBuilt, RefusesCall}

-- ---- the work

abbrev pub RunsPolicy : Work → Type 0
RunsPolicy (Run order) = ⊤
RunsPolicy (Judge policy) = ⊥
RunsPolicy (Search policy) = ⊥
RunsPolicy (Show text) = ⊥

-- the work is done as its analysis says
abbrev pub Obeys : Work → Type 0
Obeys (Run order) = order.strict ≡ true
Obeys (Judge policy) = ⊤
Obeys (Search policy) = ⊤
Obeys (Show text) = ⊥

abbrev pub setting_in : PolicyInContext → Setting
setting_in policy = setting_of policy.checked policy.context

-- what the work is by the definition of a call
abbrev pub task_of : Work → Task
task_of (Run order) = runs (setting_in order.policy) order.locks order.strict
task_of (Judge policy) = judges (setting_in policy)
task_of (Search policy) = searches (setting_in policy)
task_of (Show text) = shows text

-- ---- reading

-- the work is what a request asks for
pub record IsWorkOf (request : Request) (moment : ℕ) (told : Option Library) (work : Work) : Type 0 where
  pub runs : RunsPolicy work → IsRun request
  pub obeys : Obeys work → IsObeying request
  pub taken : IfSome told (λ library. TakesRequest library.texts moment request (task_of work))

-- a policy was read, and its classes are those that are set from the start
pub record PolicyPrepared (policy : List ℕ) (handed_in : List (List ℕ)) (moment : ℕ) (inputs inputs' : Shown Library) (pats pats' : Shown (List (List ℕ))) (result : Result PolicyInContext Failure) : Type 0 where
  pub takes : IfOk result (λ taken. IfSome inputs.told (λ library.
      TakesPolicy library.texts moment policy handed_in (setting_in taken)))
  pub refused : IfErr result (λ failure. IfRefused failure (λ line.
      IfSome inputs.told (λ library. RefusesPolicy library.texts policy line)))
  pub inputs_are : ReadUpTo (IsNextFile policy) (stop_of result) inputs inputs'
  pub patterns_are : SizeRefusal (λ text. IfSome inputs.told (λ library. RefusesSize library.texts policy text))
      (text_too_big (stop_of result)) pats pats'

-- a policy was read to be run
pub record RunPrepared (policy : List ℕ) (options : Options) (moment : ℕ) (inputs inputs' : Shown Library) (pats pats' : Shown (List (List ℕ))) (result : Result PolicyRun Failure) : Type 0 where
  pub order : IfOk result (λ order. IfSome inputs.told (λ library.
      TakesRun library.texts moment policy options (setting_in order.policy) order.locks order.strict))
  pub strict_is : IfOk result (λ order. order.strict ≡ options.strict)
  pub refused : IfErr result (λ failure. IfRefused failure (λ line.
      IfSome inputs.told (λ library. RefusesPolicy library.texts policy line)))
  pub inputs_are : ReadUpTo (IsNextFile policy) (stop_of result) inputs inputs'
  pub patterns_are : SizeRefusal (λ text. IfSome inputs.told (λ library. RefusesSize library.texts policy text))
      (text_too_big (stop_of result)) pats pats'

-- the bytes of this name were read
pub record BytesRead (name : List ℕ) (inputs inputs' : Shown Library) (result : Result (List ℕ) Stop) : Type 0 where
  pub bytes : IfOk result (λ bytes. IfSome inputs.told (λ library. bytes_of library.texts name ≡ Some bytes))
  pub inputs_are : ReadUpTo (IsNamed name) (stopped_by result) inputs inputs'
  pub no_pattern : text_too_big (stopped_by result) ≡ None

-- why a journal is refused was told
abbrev pub JournalTells : (name : List ℕ) → JournalErr → Result (List ℕ) Stop → Type 0
JournalTells name (BadRecord line) result = Tells (journal_bad_line name line) result
JournalTells name TooLong result = Tells (journal_long_line name) result
JournalTells name NoMemory result = result ≡ Err Memory

-- the journal of this name was read to the text that is told of it
pub record JournalTold (TellsAs : Texts → (name text : List ℕ) → Type 0) (name : List ℕ) (inputs inputs' : Shown Library) (result : Result (List ℕ) Failure) : Type 0 where
  pub text : IfOk result (λ text. IfSome inputs.told (λ library. TellsAs library.texts name text))
  pub refused : IfErr result (λ failure. IfRefused failure (λ line.
      IfSome inputs.told (λ library. RefusesJournal library.texts name line)))
  pub inputs_are : ReadUpTo (IsNamed name) (stop_of result) inputs inputs'
  pub no_pattern : text_too_big (stop_of result) ≡ None

-- the policy or journal of a request was read
pub record RequestPrepared (request : Request) (moment : ℕ) (inputs inputs' : Shown Library) (pats pats' : Shown (List (List ℕ))) (result : Result Work Failure) : Type 0 where
  pub work : IfOk result (IsWorkOf request moment inputs.told)
  pub refused : IfErr result (λ failure. IfRefused failure (λ line.
      IfSome inputs.told (λ library. RefusesRequest library.texts request line)))
  pub inputs_are : ReadUpTo (IsNextOf request) (stop_of result) inputs inputs'
  pub patterns_are : SizeRefusal (BuildsOf request inputs.told) (text_too_big (stop_of result)) pats pats'

-- the words ask for this work in time
pub record IsAsked (words : List (List ℕ)) (moment : ℕ) (told : Option Library) (work : Work) : Type 0 where
  pub request : Request
  pub asked_is : asked words ≡ Some request
  pub in_time : moment ≤ LAST_MOMENT
  pub is_work : IsWorkOf request moment told work

-- the refusal with this line, or want of memory
abbrev pub IsRefusalWith : (line : List ℕ) → Failure → Type 0
IsRefusalWith line (Refused told) = told ≡ line
IsRefusalWith line (Stopped (Outside object)) = ⊥
IsRefusalWith line (Stopped Memory) = ⊤
IsRefusalWith line (Stopped Visits) = ⊥
IsRefusalWith line (Stopped (Pattern text)) = ⊥

abbrev pub OnlyRefused : (line : List ℕ) → Result Work Failure → Type 0
OnlyRefused line (Ok work) = ⊥
OnlyRefused line (Err failure) = IsRefusalWith line failure

-- a call was read
pub record Prepared (words : List (List ℕ)) (moment : ℕ) (inputs inputs' : Shown Library) (pats pats' : Shown (List (List ℕ))) (result : Result Work Failure) : Type 0 where
  pub work : IfOk result (IsAsked words moment inputs.told)
  pub refused : IfErr result (λ failure. IfRefused failure (RefusesCall words moment inputs.told))
  pub words_refused : asked words ≡ None → OnlyRefused words_line result × Untouched inputs inputs'
  pub moment_refused : asked words ≢ None → LAST_MOMENT < moment → OnlyRefused moment_line result × Untouched inputs inputs'
  pub inputs_are : ReadUpTo (AsksNext words) (stop_of result) inputs inputs'
  pub patterns_are : SizeRefusal (AsksBuilt words inputs.told) (text_too_big (stop_of result)) pats pats'

-- ---- the analysis

-- an analysis is stopped by a pattern that it builds, or by want of memory
abbrev pub StopsAnalysis : Setting → Stop → Type 0
StopsAnalysis setting (Outside object) = ⊥
StopsAnalysis setting Memory = ⊤
StopsAnalysis setting Visits = ⊥
StopsAnalysis setting (Pattern text) = AnalysisBuilds setting text

-- a policy was analysed; none where its analysis needs too many visits
pub record Analysed (setting : Setting) (pats pats' : Shown (List (List ℕ))) (result : Result (Option Verdict) Stop) : Type 0 where
  pub verdict_is : IfOk result (λ verdict. analysis_of setting ≡ verdict)
  pub stopped : IfErr result (StopsAnalysis setting)
  pub patterns_are : Refuses (text_too_big (stopped_by result)) pats pats'

-- the line of a verdict was put
abbrev pub TellsVerdict : Option Verdict → End → (out out' : Shown (List ℕ)) → Type 0
TellsVerdict None end out out' = ⊥
TellsVerdict (Some verdict) end out out' = (end ≡ verdict_end verdict) × Follows (adds_bytes (verdict_line verdict)) out out'

-- nothing was put, unless a put of such a text failed
abbrev pub StopsTelling : (IsText : List ℕ → Type 0) → (out out' : Shown (List ℕ)) → Stop → Type 0
StopsTelling IsText out out' (Outside Inputs) = ⊥
StopsTelling IsText out out' (Outside Site) = ⊥
StopsTelling IsText out out' (Outside Sink) = FallsShort IsText out out'
StopsTelling IsText out out' Memory = Untouched out out'
StopsTelling IsText out out' Visits = Untouched out out'
StopsTelling IsText out out' (Pattern text) = Untouched out out'

-- a put of such a text failed, or memory ended before
abbrev pub StopsPutting : (IsText : List ℕ → Type 0) → (out out' : Shown (List ℕ)) → Stop → Type 0
StopsPutting IsText out out' (Outside Inputs) = ⊥
StopsPutting IsText out out' (Outside Site) = ⊥
StopsPutting IsText out out' (Outside Sink) = FallsShort IsText out out'
StopsPutting IsText out out' Memory = Untouched out out'
StopsPutting IsText out out' Visits = ⊥
StopsPutting IsText out out' (Pattern text) = ⊥

-- the text is this one
abbrev pub Is : (wanted text : List ℕ) → Type 0
Is wanted text = text ≡ wanted

-- the text is the line of the verdict
abbrev pub IsVerdictLine : Option Verdict → (text : List ℕ) → Type 0
IsVerdictLine None text = ⊥
IsVerdictLine (Some verdict) text = text ≡ verdict_line verdict

-- the line of this verdict was put, or memory ended or the sink failed
pub record VerdictPut (verdict : Verdict) (out out' : Shown (List ℕ)) (result : Result End Stop) : Type 0 where
  pub put : IfOk result (λ end. TellsVerdict (Some verdict) end out out')
  pub stopped : IfErr result (StopsPutting (Is (verdict_line verdict)) out out')

-- the text that stopped the work is one that the analysis builds
abbrev pub BuiltToAnalyse : Setting → Option (List ℕ) → Type 0
BuiltToAnalyse setting None = ⊤
BuiltToAnalyse setting (Some text) = AnalysisBuilds setting text

-- a policy was judged: the line of its verdict was put
pub record PolicyJudged (setting : Setting) (out out' : Shown (List ℕ)) (pats pats' : Shown (List (List ℕ))) (result : Result End Stop) : Type 0 where
  pub told : IfOk result (λ end. TellsVerdict (analysis_of setting) end out out')
  pub too_large : IsErrOf result Visits → analysis_of setting ≡ None
  pub stopped : IfErr result (StopsTelling (IsVerdictLine (analysis_of setting)) out out')
  pub built : BuiltToAnalyse setting (text_too_big (stopped_by result))
  pub patterns_are : Refuses (text_too_big (stopped_by result)) pats pats'

-- that was all
pub record OnlyJudged (setting : Setting) (site site' : Shown Told) (out out' : Shown (List ℕ)) (pats pats' : Shown (List (List ℕ))) (result : Result End Stop) : Type 0 where
  pub judged : PolicyJudged setting out out' pats pats' result
  pub site_is : Untouched site site'

-- ---- the search

-- the edits of a policy were searched: the lines of what was found were put
pub record PolicySearched (setting : Setting) (out out' : Shown (List ℕ)) (pats pats' : Shown (List (List ℕ))) (result : Result End Stop) : Type 0 where
  pub told : IfOk result (λ end. TellsSearch setting (run setting open_walk) end out out')
  pub too_large : IsErrOf result Visits → IsTooLarge (run setting open_walk)
  pub stopped : IfErr result (StopsTelling (IsSearchText setting (run setting open_walk)) out out')
  pub built : BuiltToSearch setting (text_too_big (stopped_by result))
  pub patterns_are : Refuses (text_too_big (stopped_by result)) pats pats'

-- that was all
pub record OnlySearched (setting : Setting) (site site' : Shown Told) (out out' : Shown (List ℕ)) (pats pats' : Shown (List (List ℕ))) (result : Result End Stop) : Type 0 where
  pub searched : PolicySearched setting out out' pats pats' result
  pub site_is : Untouched site site'

-- ---- doing the work

-- an end of a run that was made
abbrev pub IsEndOfRun : End → Type 0
IsEndOfRun Ended = ⊤
IsEndOfRun PromiseFailed = ⊤
IsEndOfRun InConflict = ⊥

-- a run of the setting was made, or stopped
pub record RunPerformed (setting : Setting) (moment : ℕ) (has_locks : Bool) (site site' : Shown Told) (out out' : Shown (List ℕ)) (pats pats' : Shown (List (List ℕ))) (result : Result End Stop) : Type 0 where
  pub ends : IfOk result IsEndOfRun
  pub whole : OnOk result (IfBothTold (λ before after.
      IsWhole (run_of setting (started moment has_locks before after))) site site')
  pub done : IfOk result (λ end. IfBothTold (λ before after.
      IsDone (ran setting (started moment has_locks before after) (analysis_of setting)) before after out out' (status_of end)) site site')
  pub settles : OnOk result (IfBothTold (λ before after.
      settled_by has_locks (tally_of setting (started moment has_locks before after)).failed (analysis_of setting) ≡ Yes → Settles setting after.world) site site')
  pub too_large : IsErrOf result Visits → IfBothTold (λ before after.
      IsTooLarge (run_of setting (started moment has_locks before after))) site site'
  pub limit : IsErrOf result Visits → IfBothTold (λ before after.
      LimitAs setting (started moment has_locks before after) before after out out') site site'
  pub bracketed : OnOk result (IfBothTold (λ before after. AllBracketed before.world (added before after)) site site')
  pub calm : OnOk result (out'.faults ≡ out.faults)
  pub stopped : IfErr result (StopsRun site site' out out')
  pub built : RunBuilds setting moment has_locks site site' (text_too_big (stopped_by result))
  pub patterns_are : RunRefuses (λ text. RunBuilds setting moment has_locks site site' (Some text)) result pats pats'

-- the run is made whatever the verdict, but where it is strict, which wants the policy to be accepted
abbrev pub MayRun : (is_strict : Bool) → Option Verdict → Type 0
MayRun false verdict = ⊤
MayRun true None = ⊥
MayRun true (Some (Accepted live)) = ⊤
MayRun true (Some (InConflictBy c)) = ⊥

abbrev pub IsInConflict : Option Verdict → Type 0
IsInConflict None = ⊥
IsInConflict (Some (Accepted live)) = ⊥
IsInConflict (Some (InConflictBy c)) = ⊤

-- the work came to its end with the analysis of a run, or was stopped there: by a conflict, told or cut short, and by too many visits in
-- a strict run alone
pub record IsObeyed (is_strict : Bool) (verdict : Option Verdict) (result : Result End Stop) : Type 0 where
  pub conflict : OnOk result ((is_strict ≡ true) × IsInConflict verdict)
  pub short : IsErrOf result (Outside Sink) → (is_strict ≡ true) × IsInConflict verdict
  pub too_large : IsErrOf result Visits → is_strict ≡ true

-- a policy was run, or its run ended with its analysis
pub data PolicyRan (setting : Setting) (moment : ℕ) (has_locks is_strict : Bool) (site site' : Shown Told) (out out' : Shown (List ℕ)) (pats pats' : Shown (List (List ℕ))) (result : Result End Stop) : Type 0 where
  not_made : IsObeyed is_strict (analysis_of setting) result → OnlyJudged setting site site' out out' pats pats' result →
      PolicyRan setting moment has_locks is_strict site site' out out' pats pats' result
  made : MayRun is_strict (analysis_of setting) → RunPerformed setting moment has_locks site site' out out' pats pats' result →
      PolicyRan setting moment has_locks is_strict site site' out out' pats pats' result

-- a text was put, or a put of it failed
pub record TextPut (text : List ℕ) (out out' : Shown (List ℕ)) (result : Result End Stop) : Type 0 where
  pub put : IfOk result (λ end. (end ≡ Ended) × Follows (adds_bytes text) out out')
  pub sink_failed : IfErr result (λ stop. (stop ≡ Outside Sink) × PutsShort text out out')

-- a text was put, and that is all
pub record OnlyPut (text : List ℕ) (site site' : Shown Told) (out out' : Shown (List ℕ)) (pats pats' : Shown (List (List ℕ))) (result : Result End Stop) : Type 0 where
  pub puts : TextPut text out out' result
  pub site_is : Untouched site site'
  pub patterns_are : Untouched pats pats'

-- work that is no run touches neither the site nor, but for its analysis or its walk, the patterns
abbrev pub Performed :
    Work → (moment : ℕ) → (site site' : Shown Told) → (out out' : Shown (List ℕ)) → (pats pats' : Shown (List (List ℕ))) → Result End Stop → Type 0
Performed (Run order) moment site site' out out' pats pats' result =
    PolicyRan (setting_in order.policy) moment order.locks order.strict site site' out out' pats pats' result
Performed (Judge policy) moment site site' out out' pats pats' result = OnlyJudged (setting_in policy) site site' out out' pats pats' result
Performed (Search policy) moment site site' out out' pats pats' result = OnlySearched (setting_in policy) site site' out out' pats pats' result
Performed (Show text) moment site site' out out' pats pats' result = OnlyPut text site site' out out' pats pats' result

-- a policy is run in one setting
abbrev pub OneSetting : Type 0
OneSetting =
    (texts : Texts) (moment : ℕ) (request : Request) (a b : Setting) (locks other_locks strict other_strict : Bool) →
    TakesRequest texts moment request (runs a locks strict) → TakesRequest texts moment request (runs b other_locks other_strict) → a ≡ b

-- ---- the end of a call

-- the line is the last that is put, and the status stands, unless the line can't be put
abbrev pub PutsEnd : (line : List ℕ) → (status : ℕ) → (out out' : Shown (List ℕ)) → (result : ℕ) → Type 0
PutsEnd line status out out' result =
    ((result ≡ status) × Follows (adds_bytes line) out out') ⊎ ((result ≡ 4) × PutsShort line out out')

abbrev pub status_of_stop : Stop → ℕ
status_of_stop (Outside object) = 4
status_of_stop Memory = 5
status_of_stop Visits = 6
status_of_stop (Pattern text) = 6

-- the line of a stop is put, where it has one
abbrev pub PutsStop : (line : Option (List ℕ)) → (status : ℕ) → (out out' : Shown (List ℕ)) → (result : ℕ) → Type 0
PutsStop None status out out' result = (result ≡ status) × Untouched out out'
PutsStop (Some line) status out out' result = PutsEnd line status out out' result

-- the line of a refusal is put, or that of a stop
abbrev pub PutsFailure : Failure → (out out' : Shown (List ℕ)) → (result : ℕ) → Type 0
PutsFailure (Refused line) out out' result = PutsEnd line 1 out out' result
PutsFailure (Stopped stop) out out' result = PutsStop (stop_line stop) (status_of_stop stop) out out' result

-- how a call ended
pub data Called (words : List (List ℕ)) (moment : ℕ) (inputs inputs' : Shown Library) (site site' : Shown Told) (out out' : Shown (List ℕ)) (pats pats' : Shown (List (List ℕ))) (status : ℕ) : Type 0 where
  not_prepared : {failure : Failure} → Prepared words moment inputs inputs' pats pats' (Err failure) → Untouched site site' →
      PutsFailure failure out out' status → Called words moment inputs inputs' site site' out out' pats pats' status
  ended : {work : Work} (end : End) → Prepared words moment inputs inputs' pats pats (Ok work) →
      Performed work moment site site' out out' pats pats' (Ok end) → status ≡ status_of end → Called words moment inputs inputs' site site' out out' pats pats' status
  stopped_at_work : {work : Work} (stop : Stop) (mid : Shown (List ℕ)) → Prepared words moment inputs inputs' pats pats (Ok work) →
      Performed work moment site site' out mid pats pats' (Err stop) → PutsStop (stop_line stop) (status_of_stop stop) mid out' status → Called words moment inputs inputs' site site' out out' pats pats' status
