-- What a call of the program does, by its words and moment, the texts of its inputs, the site's world, and the marks of the calls
-- of the site that failed in acts. The words are refused first, then the moment, then the policy or journal that the words name;
-- else the work that they ask for is done.
--
-- A check tells the verdict of its analysis. A run is analysed first, makes its run, and tells in its last line whether the world that
-- it leaves is settled: it isn't known to be where locks count, where a promise failed, where the verdict is a conflict, and where the
-- analysis needs too many visits, the first of these being told. A strict run obeys the analysis: of a conflict it tells the verdict
-- alone. `edits` walks the policy once, and tells what it finds of its scripts.
use Rattle.std.specs.Prelude.{ℕ, ◌≡◌, ◌<◌, ◌≤◌, Bool, true, false, nat_lt, if◌then◌else◌, List, [], ◌∷◌, ◌++◌, Option, Some, None, ⊤, codes}
use Rattle.cfa_base.specs.declared.limits.TheConstants.{LAST_MOMENT}
use Rattle.cfa_words.specs.declared.words.Options.{Options}
use Rattle.cfa_words.specs.declared.words.Request.{Request}
use Rattle.cfa_words.specs.declared.words.Request.TheVariants.{Run, Show, Check, Audit, Edits, History}
use Rattle.cfa_words.specs.Words.{asked}
use Rattle.cfa_outside.specs.declared.worlds.World.{World}
use Rattle.cfa_tree.specs.Tree.{PolicyTree}
use Rattle.cfa_classes.specs.Calendar.{hard_classes}
use Rattle.cfa_printer.specs.Printing.{printed}
use Rattle.cfa_output.specs.declared.items.End.{End as SettledEnd}
use Rattle.cfa_output.specs.declared.items.End.TheVariants.{Yes, Locks, Failed, Conflict as HasConflict, Limit}
use Rattle.cfa_output.specs.Lines.{words_line, moment_line, number_line, conflict_line, settled_line}
use Rattle.cfa_sources.specs.Sources.{Texts, ReadsFile, RefusesFile}
use Rattle.cfa_sources.specs.Checks.{Refuses, IsValidAs}
use Rattle.cfa_states.specs.Levels.{IsTooLarge}
use Rattle.cfa_states.specs.Passes.{run}
use Rattle.cfa_states.specs.Tellers.{open_walk}
use Rattle.cfa_states.specs.Views.{Setting}
use Rattle.cfa_conflict.specs.declared.verdicts.Verdict.{Verdict}
use Rattle.cfa_conflict.specs.declared.verdicts.Verdict.TheVariants.{Accepted, Conflict as InConflictBy}
use Rattle.cfa_conflict.specs.Conflicts.{code_of}
use Rattle.cfa_conflict.specs.Analyses.{AnalysisBuilds, analysis_of}
use Rattle.cfa_states.specs.Builds.{BuiltOn}
use Rattle.cfa_agent.specs.Actuations.{Mark}
use Rattle.cfa_agent.specs.Runs.{Start, run_of, log_of, tally_of}
use Rattle.cfa_agent.specs.Ran.{start_of, IsWhole, text_of}
use Rattle.cfa_main.specs.declared.ends.End.{End}
use Rattle.cfa_main.specs.declared.ends.End.TheVariants.{Ended, PromiseFailed, InConflict}
use Rattle.cfa_main.specs.Audits.{AuditsAs, RefusesJournal}
use Rattle.cfa_main.specs.Done.{Step, Done, puts, refused_with, ends_with}
use Rattle.cfa_main.specs.Histories.{RecountsAs}
use Rattle.cfa_main.specs.Searches.{SearchDoes}

-- ---- the policy or the journal

-- a policy is valid, and these classes are set from the start: those of the calendar, and then those that are handed in
pub record TakesPolicy (texts : Texts) (moment : ℕ) (policy : List ℕ) (handed_in : List (List ℕ))
    (setting : Setting) : Type 0 where
  pub valid_as : IsValidAs texts policy setting.policy
  pub classes_are : setting.classes ≡ hard_classes moment ++ handed_in

-- it is run with these options
pub record TakesRun (texts : Texts) (moment : ℕ) (policy : List ℕ) (options : Options)
    (setting : Setting) (has_locks is_strict : Bool) : Type 0 where
  pub takes_policy : TakesPolicy texts moment policy options.classes setting
  pub locks_are : has_locks ≡ options.locks
  pub strict_is : is_strict ≡ options.strict

-- the file of a policy is read, and this is the canonical text of its tree
pub record ReadsAsText (texts : Texts) (policy text : List ℕ) : Type 0 where
  pub tree : PolicyTree
  pub reads : ReadsFile texts 0 policy tree
  pub text_is : text ≡ printed tree

-- the policy or journal of a request is refused with this line: a run and `edits` refuse what a check does, and a history what an
-- audit does. The options of a run and classes count for nothing here
abbrev pub RefusesRequest : Texts → Request → (line : List ℕ) → Type 0
RefusesRequest texts (Run policy options) line = Refuses texts policy line
RefusesRequest texts (Show policy) line = RefusesFile texts 0 policy line
RefusesRequest texts (Check policy classes) line = Refuses texts policy line
RefusesRequest texts (Audit journal) line = RefusesJournal texts journal line
RefusesRequest texts (Edits policy classes) line = Refuses texts policy line
RefusesRequest texts (History journal) line = RefusesJournal texts journal line

-- ---- the work

-- a policy is run in a setting, with or without locks, strictly or not; or it is judged; or its edits are searched for clashes; or a
-- text is put, and that is all
pub data Task : Type 0 where
  runs : Setting → (has_locks is_strict : Bool) → Task
  judges : Setting → Task
  searches : Setting → Task
  shows : (text : List ℕ) → Task

-- the policy or journal of a request is taken, and this is the work that is to be done
abbrev pub TakesRequest : Texts → (moment : ℕ) → Request → Task → Type 0
TakesRequest texts moment (Run policy options) (runs setting has_locks is_strict) =
    TakesRun texts moment policy options setting has_locks is_strict
TakesRequest texts moment (Run policy options) (judges setting) = ⊥
TakesRequest texts moment (Run policy options) (searches setting) = ⊥
TakesRequest texts moment (Run policy options) (shows text) = ⊥
TakesRequest texts moment (Show policy) (runs setting has_locks is_strict) = ⊥
TakesRequest texts moment (Show policy) (judges setting) = ⊥
TakesRequest texts moment (Show policy) (searches setting) = ⊥
TakesRequest texts moment (Show policy) (shows text) = ReadsAsText texts policy text
TakesRequest texts moment (Check policy classes) (runs setting has_locks is_strict) = ⊥
TakesRequest texts moment (Check policy classes) (judges setting) =
    TakesPolicy texts moment policy classes setting
TakesRequest texts moment (Check policy classes) (searches setting) = ⊥
TakesRequest texts moment (Check policy classes) (shows text) = ⊥
TakesRequest texts moment (Audit journal) (runs setting has_locks is_strict) = ⊥
TakesRequest texts moment (Audit journal) (judges setting) = ⊥
TakesRequest texts moment (Audit journal) (searches setting) = ⊥
TakesRequest texts moment (Audit journal) (shows text) = AuditsAs texts journal text
TakesRequest texts moment (Edits policy classes) (runs setting has_locks is_strict) = ⊥
TakesRequest texts moment (Edits policy classes) (judges setting) = ⊥
TakesRequest texts moment (Edits policy classes) (searches setting) =
    TakesPolicy texts moment policy classes setting
TakesRequest texts moment (Edits policy classes) (shows text) = ⊥
TakesRequest texts moment (History journal) (runs setting has_locks is_strict) = ⊥
TakesRequest texts moment (History journal) (judges setting) = ⊥
TakesRequest texts moment (History journal) (searches setting) = ⊥
TakesRequest texts moment (History journal) (shows text) = RecountsAs texts journal text

-- the words ask for this task
pub record AsksTask (words : List (List ℕ)) (moment : ℕ) (texts : Texts) (task : Task) : Type 0 where
  pub request : Request
  pub asked_is : asked words ≡ Some request
  pub takes : TakesRequest texts moment request task

-- what is taken isn't refused
abbrev pub TakenIsNotRefused : Type 0
TakenIsNotRefused =
    (texts : Texts) (moment : ℕ) (request : Request) (task : Task) (line : List ℕ) →
    TakesRequest texts moment request task → RefusesRequest texts request line → ⊥

-- a promise failed where one is counted as failed
abbrev pub end_by : (failed : ℕ) → End
end_by failed = if nat_lt 0 failed then PromiseFailed else Ended

-- the line of a verdict, and how a call ends that tells it
abbrev pub verdict_line : Verdict → List ℕ
verdict_line (Accepted live) = number_line (codes "accepted") live
verdict_line (InConflictBy c) = conflict_line (code_of c.cause) c.first c.second c.resource

abbrev pub verdict_end : Verdict → End
verdict_end (Accepted live) = Ended
verdict_end (InConflictBy c) = InConflict

abbrev pub judged : Verdict → Done
judged verdict = ends_with (verdict_end verdict) (puts (verdict_line verdict) ∷ [])

-- whether the world that a run leaves is settled, by the verdict; none where the analysis needs too many visits
abbrev pub settled_by_verdict : Option Verdict → SettledEnd
settled_by_verdict None = Limit
settled_by_verdict (Some (Accepted live)) = Yes
settled_by_verdict (Some (InConflictBy c)) = HasConflict

-- the first cause for which it isn't known to be
abbrev pub settled_by : (has_locks : Bool) → (failed : ℕ) → Option Verdict → SettledEnd
settled_by true failed verdict = Locks
settled_by false failed verdict = if nat_lt 0 failed then Failed else settled_by_verdict verdict

-- a run adds its entries and puts its lines, the total behind them, and then whether the world is settled
abbrev pub ran : Setting → Start → Option Verdict → Done
ran setting s verdict =
    let step : Step = record { entries = log_of setting s; lines = text_of setting s } in
    let failed = (tally_of setting s).failed in
    ends_with (end_by failed) (step ∷ puts (settled_line (settled_by s.has_locks failed verdict)) ∷ [])

abbrev pub shown : (text : List ℕ) → Done
shown text = ends_with Ended (puts text ∷ [])

-- a run does this where it comes to its end
abbrev pub RunDoes : Setting → Start → Option Verdict → Done → Type 0
RunDoes setting s verdict done = IsWhole (run_of setting s) × (done ≡ ran setting s verdict)

-- a strict run is made where the policy is accepted
abbrev pub StrictRunDoes : Setting → Start → Option Verdict → Done → Type 0
StrictRunDoes setting s None done = ⊥
StrictRunDoes setting s (Some (Accepted live)) done = RunDoes setting s (Some (Accepted live)) done
StrictRunDoes setting s (Some (InConflictBy c)) done = done ≡ judged (InConflictBy c)

abbrev pub Judges : Option Verdict → Done → Type 0
Judges None done = ⊥
Judges (Some verdict) done = done ≡ judged verdict

-- this is done where the work comes to its end: what needs too many visits doesn't
abbrev pub DoesTask : Task → (moment : ℕ) → World → List Mark → Done → Type 0
DoesTask (runs setting has_locks true) moment world marks done =
    StrictRunDoes setting (start_of moment has_locks world marks) (analysis_of setting) done
DoesTask (runs setting has_locks false) moment world marks done =
    RunDoes setting (start_of moment has_locks world marks) (analysis_of setting) done
DoesTask (judges setting) moment world marks done = Judges (analysis_of setting) done
DoesTask (searches setting) moment world marks done = SearchDoes setting (run setting open_walk) done
DoesTask (shows text) moment world marks done = done ≡ shown text

-- ---- the call

pub data Does (words : List (List ℕ)) (moment : ℕ) (texts : Texts) (world : World)
    (marks : List Mark) : Done → Type 0 where
  words_refused : asked words ≡ None → Does words moment texts world marks (refused_with words_line)
  moment_refused : {request : Request} → asked words ≡ Some request → LAST_MOMENT < moment →
      Does words moment texts world marks (refused_with moment_line)
  request_refused : {request : Request} {line : List ℕ} → asked words ≡ Some request →
      moment ≤ LAST_MOMENT → RefusesRequest texts request line →
      Does words moment texts world marks (refused_with line)
  work_done : {request : Request} (task : Task) {done : Done} → asked words ≡ Some request →
      moment ≤ LAST_MOMENT → TakesRequest texts moment request task →
      DoesTask task moment world marks done → Does words moment texts world marks done

-- what a call does is one thing alone
abbrev pub DoesOneThing : Type 0
DoesOneThing =
    (words : List (List ℕ)) (moment : ℕ) (texts : Texts) (world : World) (marks : List Mark) (a b : Done) →
    Does words moment texts world marks a → Does words moment texts world marks b → a ≡ b

-- ---- strict runs that aren't made

-- the policy isn't accepted: it is in conflict, or its analysis needs too many visits
abbrev pub IsUnaccepted : Option Verdict → Type 0
IsUnaccepted None = ⊤
IsUnaccepted (Some (Accepted live)) = ⊥
IsUnaccepted (Some (InConflictBy c)) = ⊤

-- the words ask for a strict run of such a policy
pub record AsksUnaccepted (words : List (List ℕ)) (moment : ℕ) (texts : Texts) : Type 0 where
  pub setting : Setting
  pub has_locks : Bool
  pub asks : AsksTask words moment texts (runs setting has_locks true)
  pub unaccepted : IsUnaccepted (analysis_of setting)

-- ---- too many visits

-- a strict run that is cut off was analysed first, and accepted
abbrev pub IsCutOffBy : (is_strict : Bool) → Setting → Start → Option Verdict → Type 0
IsCutOffBy false setting s verdict = IsTooLarge (run_of setting s)
IsCutOffBy true setting s None = ⊥
IsCutOffBy true setting s (Some (Accepted live)) = IsTooLarge (run_of setting s)
IsCutOffBy true setting s (Some (InConflictBy c)) = ⊥

-- the words ask for a run that needs more visits than it may make
pub record NeedsTooMany (words : List (List ℕ)) (moment : ℕ) (texts : Texts) (world : World)
    (marks : List Mark) : Type 0 where
  pub setting : Setting
  pub has_locks : Bool
  pub is_strict : Bool
  pub asks : AsksTask words moment texts (runs setting has_locks is_strict)
  pub in_time : moment ≤ LAST_MOMENT
  pub cut_off : IsCutOffBy is_strict setting (start_of moment has_locks world marks) (analysis_of setting)

-- the task is done as its analysis says, or as its walk does
abbrev pub ObeysAnalysis : Task → Setting → Type 0
ObeysAnalysis (runs setting has_locks true) judged_in = judged_in ≡ setting
ObeysAnalysis (runs setting has_locks false) judged_in = ⊥
ObeysAnalysis (judges setting) judged_in = judged_in ≡ setting
ObeysAnalysis (searches setting) judged_in = judged_in ≡ setting
ObeysAnalysis (shows text) judged_in = ⊥

-- what is walked for a task needs more visits than it may make
abbrev pub NeedsManyVisits : Task → Setting → Type 0
NeedsManyVisits (runs setting has_locks is_strict) judged_in = analysis_of judged_in ≡ None
NeedsManyVisits (judges setting) judged_in = analysis_of judged_in ≡ None
NeedsManyVisits (searches setting) judged_in = IsTooLarge (run judged_in open_walk)
NeedsManyVisits (shows text) judged_in = ⊥

-- the words ask for a check or a strict run whose analysis needs more visits than it may make, or for `edits` whose walk does
pub record AnalysesTooMany (words : List (List ℕ)) (moment : ℕ) (texts : Texts) : Type 0 where
  pub task : Task
  pub setting : Setting
  pub asks : AsksTask words moment texts task
  pub in_time : moment ≤ LAST_MOMENT
  pub obeys : ObeysAnalysis task setting
  pub too_large : NeedsManyVisits task setting

-- ---- patterns

-- a task is analysed or walked in this setting
abbrev pub IsAnalysedIn : Task → Setting → Type 0
IsAnalysedIn (runs setting has_locks is_strict) analysed_in = analysed_in ≡ setting
IsAnalysedIn (judges setting) analysed_in = analysed_in ≡ setting
IsAnalysedIn (searches setting) analysed_in = analysed_in ≡ setting
IsAnalysedIn (shows text) analysed_in = ⊥

-- the text is one that is built where a task is analysed or walked
abbrev pub IsBuiltFor : Task → Setting → (text : List ℕ) → Type 0
IsBuiltFor (runs setting has_locks is_strict) analysed_in text = AnalysisBuilds analysed_in text
IsBuiltFor (judges setting) analysed_in text = AnalysisBuilds analysed_in text
IsBuiltFor (searches setting) analysed_in text = BuiltOn analysed_in (run analysed_in open_walk) text
IsBuiltFor (shows shown) analysed_in text = ⊥

-- the text is one that the analysis or the walk of what the words ask for builds
pub record AnalysisBuildsText (words : List (List ℕ)) (moment : ℕ) (texts : Texts) (text : List ℕ) : Type 0 where
  pub task : Task
  pub setting : Setting
  pub asks : AsksTask words moment texts task
  pub analysed : IsAnalysedIn task setting
  pub built : IsBuiltFor task setting text

-- the text is one that the run that the words ask for builds
pub record RunBuildsText (words : List (List ℕ)) (moment : ℕ) (texts : Texts) (world : World)
    (marks : List Mark) (text : List ℕ) : Type 0 where
  pub setting : Setting
  pub has_locks : Bool
  pub is_strict : Bool
  pub asks : AsksTask words moment texts (runs setting has_locks is_strict)
  pub built : BuiltOn setting (run_of setting (start_of moment has_locks world marks)) text

-- ---- settled

-- the words ask for a run of a valid policy in this setting
pub record RunsIn (words : List (List ℕ)) (moment : ℕ) (texts : Texts) (setting : Setting) : Type 0 where
  pub has_locks : Bool
  pub is_strict : Bool
  pub asks : AsksTask words moment texts (runs setting has_locks is_strict)
