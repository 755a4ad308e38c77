-- How a call may end, as its clauses say it: by which status, with which line as all that was put or as the last, and what was read.
use Rattle.std.specs.Prelude.{ℕ, ◌≡◌, ◌<◌, ◌≤◌, true, ◌++◌, List, Option, Some, None, ⊤, ◌⊎◌, IfSome}
use Rattle.cfa_base.specs.Causes.{Rose}
use Rattle.cfa_base.specs.declared.limits.TheConstants.{LAST_MOMENT}
use Rattle.cfa_base.specs.Shown.{Shown, Follows, Untouched, HasFailed, IsLeft}
use Rattle.cfa_base.specs.Patterns.{refuses}
use Rattle.cfa_words.specs.declared.words.Request.{Request}
use Rattle.cfa_words.specs.declared.words.Request.TheVariants.{Run, Show, Check, Audit, Edits, History}
use Rattle.cfa_words.specs.Words.{asked}
use Rattle.cfa_outside.specs.Inputs.{Library}
use Rattle.cfa_outside.specs.Sinks.{adds_bytes}
use Rattle.cfa_outside.specs.declared.worlds.World.{World}
use Rattle.cfa_outside.specs.Sites.{Told, adds}
use Rattle.cfa_output.specs.Lines.{words_line, moment_line, outside_line, memory_line, visits_line, pattern_line}
use Rattle.cfa_sources.specs.Sources.{Texts, IsNamed, IsNextFile}
use Rattle.cfa_sources.specs.Checks.{RefusesSize}
use Rattle.cfa_sources.specs.Readings.{FailsNext}
use Rattle.cfa_agent.specs.Actuations.{Mark}
use Rattle.cfa_agent.specs.Marks.{marks_of}
use Rattle.cfa_agent.specs.Ran.{added, started, text_of_lines, IfBothTold}
use Rattle.cfa_agent.specs.Runs.{lines_of, log_of}
use Rattle.cfa_states.specs.Views.{Setting}
use Rattle.cfa_convergence.specs.Settled.{Settles}
use Rattle.cfa_main.specs.Calls.{Task, Does, RefusesRequest, AsksTask, AsksUnaccepted, NeedsTooMany, AnalysesTooMany, AnalysisBuildsText, RunBuildsText, RunsIn}
use Rattle.cfa_main.specs.Done.{Done, all_lines}

-- ---- statuses

-- the call wasn't stopped: its work was done, it was refused, a promise failed, or a conflict was told
abbrev pub IsEnd : (status : ℕ) → Type 0
IsEnd status = (status ≡ 0) ⊎ ((status ≡ 1) ⊎ ((status ≡ 2) ⊎ (status ≡ 3)))

-- the call was stopped: by an object of the outside, by want of memory, or by a limit on patterns or on visits
abbrev pub IsStop : (status : ℕ) → Type 0
IsStop status = (status ≡ 4) ⊎ ((status ≡ 5) ⊎ (status ≡ 6))

-- the status of a refusal, unless its line can't be put or memory ends
abbrev pub IsRefusal : (status : ℕ) → Type 0
IsRefusal status = (status ≡ 1) ⊎ ((status ≡ 4) ⊎ (status ≡ 5))

-- ---- what the words ask for

-- the words ask for a request of which this holds
abbrev pub Asks : (Holds : Request → Type 0) → (words : List (List ℕ)) → Type 0
Asks Holds words = (request : Request) × (asked words ≡ Some request) × Holds request

abbrev pub IsRun : Request → Type 0
IsRun (Run policy options) = ⊤
IsRun (Show policy) = ⊥
IsRun (Check policy classes) = ⊥
IsRun (Audit journal) = ⊥
IsRun (Edits policy classes) = ⊥
IsRun (History journal) = ⊥

abbrev pub AsksRun : (words : List (List ℕ)) → Type 0
AsksRun words = Asks IsRun words

-- the words ask for something else than a run, or are refused
abbrev pub AsksNoRun : (words : List (List ℕ)) → Type 0
AsksNoRun words = ¬ AsksRun words

-- a run and a check are analysed; a check and a strict run obey the analysis. `edits` walks its policy, and obeys the walk
abbrev pub IsAnalysed : Request → Type 0
IsAnalysed (Run policy options) = ⊤
IsAnalysed (Show policy) = ⊥
IsAnalysed (Check policy classes) = ⊤
IsAnalysed (Audit journal) = ⊥
IsAnalysed (Edits policy classes) = ⊤
IsAnalysed (History journal) = ⊥

abbrev pub IsObeying : Request → Type 0
IsObeying (Run policy options) = options.strict ≡ true
IsObeying (Show policy) = ⊥
IsObeying (Check policy classes) = ⊤
IsObeying (Audit journal) = ⊥
IsObeying (Edits policy classes) = ⊤
IsObeying (History journal) = ⊥

abbrev pub AsksAnalysis : (words : List (List ℕ)) → Type 0
AsksAnalysis words = Asks IsAnalysed words

abbrev pub AsksToObey : (words : List (List ℕ)) → Type 0
AsksToObey words = Asks IsObeying words

-- the words ask for something of which the policy or the journal is taken, by these texts, in time
abbrev pub AsksTaken : (words : List (List ℕ)) → (moment : ℕ) → Texts → Type 0
AsksTaken words moment texts = (moment ≤ LAST_MOMENT) × ((task : Task) × AsksTask words moment texts task)

-- the words ask for something of which the policy or the journal is refused, by these texts
abbrev pub AsksRefused : (words : List (List ℕ)) → Texts → Type 0
AsksRefused words texts = Asks (λ request. (line : List ℕ) × RefusesRequest texts request line) words

-- the words ask in time for a run of a policy that is taken, and that is made as far as the analysis goes: it isn't a strict one of a policy
-- that isn't accepted
abbrev pub AsksMadeRun : (words : List (List ℕ)) → (moment : ℕ) → Texts → Type 0
AsksMadeRun words moment texts =
    AsksRun words × AsksTaken words moment texts × (AsksUnaccepted words moment texts → ⊥)

-- the status is that of a refusal or of a pattern that is too big
abbrev pub IsNotDone : (status : ℕ) → Type 0
IsNotDone status = IsRefusal status ⊎ (status ≡ 6)

-- ---- refusals

-- a call is refused with this line, as far as the inputs tell their texts
pub data RefusesCall (words : List (List ℕ)) (moment : ℕ) (told : Option Library) : (line : List ℕ) → Type 0 where
  of_words : asked words ≡ None → RefusesCall words moment told words_line
  of_moment : {request : Request} → asked words ≡ Some request → LAST_MOMENT < moment →
      RefusesCall words moment told moment_line
  of_request : {request : Request} {line : List ℕ} → asked words ≡ Some request → moment ≤ LAST_MOMENT →
      IfSome told (λ library. RefusesRequest library.texts request line) → RefusesCall words moment told line

-- the line of a refusal was put
abbrev pub PutsRefusal :
    (words : List (List ℕ)) → (moment : ℕ) → (told : Option Library) → (out out' : Shown (List ℕ)) → Type 0
PutsRefusal words moment told out out' =
    (line : List ℕ) × RefusesCall words moment told line × Follows (adds_bytes line) out out'

-- a call was refused with this line before anything was read, unless its line can't be put or memory ends
pub record IsUnread (line : List ℕ) (inputs inputs' : Shown Library) (out out' : Shown (List ℕ)) (status : ℕ) : Type 0 where
  pub is_refusal : IsRefusal status
  pub put : status ≡ 1 → Follows (adds_bytes line) out out'
  pub unread : Untouched inputs inputs'

-- ---- what is read

-- a show reads its policy's file, a run, a check and `edits` read the inputs too that it names, an audit and a history read their
-- journal
abbrev pub IsNextOf : Request → Texts → (name : List ℕ) → Type 0
IsNextOf (Run policy options) texts name = IsNextFile policy texts name
IsNextOf (Show policy) texts name = IsNamed policy texts name
IsNextOf (Check policy classes) texts name = IsNextFile policy texts name
IsNextOf (Audit journal) texts name = IsNamed journal texts name
IsNextOf (Edits policy classes) texts name = IsNextFile policy texts name
IsNextOf (History journal) texts name = IsNamed journal texts name

-- the name is the next that is read for what the words ask for
abbrev pub AsksNext : (words : List (List ℕ)) → Texts → (name : List ℕ) → Type 0
AsksNext words texts name = Asks (λ request. IsNextOf request texts name) words

-- no reading failed, unless the call was stopped: after want of memory the count of faults is left open; and by status 4 a reading may
-- have failed, that of the name that is read next
abbrev pub ReadsInTurn : (words : List (List ℕ)) → (inputs inputs' : Shown Library) → (status : ℕ) → Type 0
ReadsInTurn words inputs inputs' status =
    Untouched inputs inputs'
    ⊎ ((((status ≡ 4) ⊎ (status ≡ 5)) × IsLeft inputs inputs')
    ⊎ ((status ≡ 4) × FailsNext (AsksNext words) inputs inputs'))

-- a run, a check and `edits` build the texts of the patterns of their policy, where nothing else is refused
abbrev pub BuildsOf : Request → (told : Option Library) → (text : List ℕ) → Type 0
BuildsOf (Run policy options) told text = IfSome told (λ library. RefusesSize library.texts policy text)
BuildsOf (Show policy) told text = ⊥
BuildsOf (Check policy classes) told text = IfSome told (λ library. RefusesSize library.texts policy text)
BuildsOf (Audit journal) told text = ⊥
BuildsOf (Edits policy classes) told text = IfSome told (λ library. RefusesSize library.texts policy text)
BuildsOf (History journal) told text = ⊥

-- the text is built for what the words ask for
abbrev pub AsksBuilt : (words : List (List ℕ)) → (told : Option Library) → (text : List ℕ) → Type 0
AsksBuilt words told text = Asks (λ request. BuildsOf request told text) words

-- ---- stops

-- the line is the last that was put
abbrev pub PutsLast : (line : List ℕ) → (out' : Shown (List ℕ)) → Type 0
PutsLast line out' = (mid : Shown (List ℕ)) × Follows (adds_bytes line) mid out'

-- the words ask for a run that is made, as far as the inputs tell
abbrev pub MakesRun : (words : List (List ℕ)) → (moment : ℕ) → (told : Option Library) → Type 0
MakesRun words moment told = AsksRun words × IfSome told (λ library. AsksMadeRun words moment library.texts)

-- the reading of the next name failed, and its stop is all that was done
pub record StopsReading (words : List (List ℕ)) (inputs inputs' : Shown Library)
    (site site' : Shown Told) (out out' : Shown (List ℕ)) : Type 0 where
  pub failed : FailsNext (AsksNext words) inputs inputs'
  pub untouched : Untouched site site'
  pub put : Follows (adds_bytes outside_line) out out'

-- a run was stopped by the site: a call on it failed, and the stop's line is the last
pub record StopsAtSite (words : List (List ℕ)) (site site' : Shown Told)
    (out' : Shown (List ℕ)) : Type 0 where
  pub asks_run : AsksRun words
  pub rose : Rose site.faults site'.faults
  pub put : PutsLast outside_line out'

-- the text is one that the analysis or the walk of `edits` builds, as far as the inputs tell
abbrev pub AnalysisBuilt : (words : List (List ℕ)) → (moment : ℕ) → (told : Option Library) → (text : List ℕ) → Type 0
AnalysisBuilt words moment told text =
    AsksAnalysis words × IfSome told (λ library. AnalysisBuildsText words moment library.texts text)

-- the text is one that the run builds, of a policy that is taken, by its definition under the marks of the entries so far, as far as is
-- told
abbrev pub RunBuilt :
    (words : List (List ℕ)) → (moment : ℕ) → (told : Option Library) → (site site' : Shown Told) → (text : List ℕ) → Type 0
RunBuilt words moment told site site' text =
    AsksRun words × IfSome told (λ library. AsksTaken words moment library.texts × IfBothTold (λ before after.
    RunBuildsText words moment library.texts before.world (marks_of (added before after)) text) site site')

-- a text was refused for its size before anything was done on the site: one of the patterns of the policy that is checked, walked or
-- run, or one that its analysis or its walk builds
pub record RefusesBefore (words : List (List ℕ)) (moment : ℕ) (told : Option Library) (site site' : Shown Told)
    (pats pats' : Shown (List (List ℕ))) : Type 0 where
  pub text : List ℕ
  pub builds : AsksBuilt words told text ⊎ AnalysisBuilt words moment told text
  pub refused : HasFailed (refuses text) pats pats'
  pub untouched : Untouched site site'

-- a text that a run builds was refused for its size
pub record RefusesInRun (words : List (List ℕ)) (moment : ℕ) (told : Option Library) (site site' : Shown Told)
    (pats pats' : Shown (List (List ℕ))) : Type 0 where
  pub text : List ℕ
  pub builds : RunBuilt words moment told site site' text
  pub refused : HasFailed (refuses text) pats pats'

-- the text is all that a call puts: the line of a refusal, what its definition says of the call, or the line of a stop that came before
-- anything was put, by its cause
pub data IsToPut (words : List (List ℕ)) (moment : ℕ) (inputs inputs' : Shown Library) (site site' : Shown Told)
    (pats pats' : Shown (List (List ℕ))) : (text : List ℕ) → Type 0 where
  of_refusal : {line : List ℕ} → RefusesCall words moment inputs.told line →
      IsToPut words moment inputs inputs' site site' pats pats' line
  of_work : {text : List ℕ} → IfSome inputs.told (λ library. (world : World) (marks : List Mark) →
      (done : Done) × Does words moment library.texts world marks done × (text ≡ all_lines done.steps)) →
      IsToPut words moment inputs inputs' site site' pats pats' text
  of_reading : FailsNext (AsksNext words) inputs inputs' →
      IsToPut words moment inputs inputs' site site' pats pats' outside_line
  of_memory : IsToPut words moment inputs inputs' site site' pats pats' memory_line
  of_pattern : RefusesBefore words moment inputs.told site site' pats pats' →
      IsToPut words moment inputs inputs' site site' pats pats' pattern_line
  of_visits : AsksToObey words → IfSome inputs.told (λ library. AnalysesTooMany words moment library.texts) →
      IsToPut words moment inputs inputs' site site' pats pats' visits_line

-- a text was refused for its size in this call
pub data RefusesText (words : List (List ℕ)) (moment : ℕ) (told : Option Library) (site site' : Shown Told)
    (pats pats' : Shown (List (List ℕ))) : Type 0 where
  before_work : RefusesBefore words moment told site site' pats pats' → RefusesText words moment told site site' pats pats'
  in_run : RefusesInRun words moment told site site' pats pats' → RefusesText words moment told site site' pats pats'

-- a call was stopped by a text that was refused for its size: before the work, so that the stop's line is all that was done, or in a run
pub data StopsAtPattern (words : List (List ℕ)) (moment : ℕ) (told : Option Library) (site site' : Shown Told)
    (out out' : Shown (List ℕ)) (pats pats' : Shown (List (List ℕ))) : Type 0 where
  stops_before : RefusesBefore words moment told site site' pats pats' → Follows (adds_bytes pattern_line) out out' →
      StopsAtPattern words moment told site site' out out' pats pats'
  stops_in_run : RefusesInRun words moment told site site' pats pats' → PutsLast pattern_line out' →
      StopsAtPattern words moment told site site' out out' pats pats'

-- a run needs more visits than it may make: all before the promise with which it would have more was done, and of it and the stop the lines were put
pub record IsCutOff (words : List (List ℕ)) (moment : ℕ) (texts : Texts) (out out' : Shown (List ℕ)) (before after : Told) : Type 0 where
  pub needs : NeedsTooMany words moment texts before.world (marks_of (added before after))
  pub site_is : after ≡ adds (log_of needs.setting (started moment needs.has_locks before after)) before
  pub out_is : Follows (adds_bytes (text_of_lines (lines_of needs.setting (started moment needs.has_locks before after)) ++ visits_line)) out out'

-- a call was stopped by too many visits, of the analysis or the walk that it obeys, so that the stop's line is all that was done; or of its run, of a
-- policy that was taken, which was made, by the run's definition under the marks of the entries so far
pub data StopsAtVisits (words : List (List ℕ)) (moment : ℕ) (told : Option Library)
    (site site' : Shown Told) (out out' : Shown (List ℕ))
    (pats pats' : Shown (List (List ℕ))) : Type 0 where
  by_analysis : AsksToObey words → IfSome told (λ library. AnalysesTooMany words moment library.texts) →
      Untouched site site' → Untouched pats pats' → Follows (adds_bytes visits_line) out out' →
      StopsAtVisits words moment told site site' out out' pats pats'
  by_run : MakesRun words moment told →
      IfSome told (λ library. IfBothTold (IsCutOff words moment library.texts out out') site site') →
      Untouched pats pats' → PutsLast visits_line out' →
      StopsAtVisits words moment told site site' out out' pats pats'

-- ---- settled

-- the line is the last of these bytes
abbrev pub EndsWith : (line bytes : List ℕ) → Type 0
EndsWith line bytes = (front : List ℕ) × (bytes ≡ front ++ line)

-- each setting in which a policy is run settles on this world
abbrev pub IsSettledBy : (words : List (List ℕ)) → (moment : ℕ) → Texts → World → Type 0
IsSettledBy words moment texts world =
    (setting : Setting) → RunsIn words moment texts setting → Settles setting world

-- ---- completeness

-- nothing outside failed, no pattern was refused for its size, and neither the analysis that is obeyed nor the run that is made, by what
-- the site tells, needs too many visits
pub record IsUnhindered (words : List (List ℕ)) (moment : ℕ) (texts : Texts) (inputs inputs' : Shown Library)
    (site site' : Shown Told) (out out' : Shown (List ℕ))
    (pats pats' : Shown (List (List ℕ))) : Type 0 where
  pub inputs_stand : Rose inputs.faults inputs'.faults → ⊥
  pub site_stands : Rose site.faults site'.faults → ⊥
  pub sink_stands : Rose out.faults out'.faults → ⊥
  pub builder_stands : Rose pats.faults pats'.faults → ⊥
  pub analysis_ends : AnalysesTooMany words moment texts → ⊥
  pub run_ends : AsksMadeRun words moment texts → IfBothTold (λ before after.
      NeedsTooMany words moment texts before.world (marks_of (added before after))) site site' → ⊥

-- the work was done, or memory ended
abbrev pub IsDoneOrMemory : (status : ℕ) → Type 0
IsDoneOrMemory status = (status ≡ 0) ⊎ ((status ≡ 2) ⊎ ((status ≡ 3) ⊎ (status ≡ 5)))
