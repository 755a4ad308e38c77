-- What is known of work that was done or stopped.
use Rattle.std.proofs.Common.{◌≡◌, ℕ, Bool, true, false, List, [], Option, Some, None, Result, Ok, Err, refl, sym, ap, subst, ◌∙◌, append-nil, arith}
use Rattle.std.proofs.lemmas.Bool.{false≢true}
use Rattle.cfa_base.specs.Shown.{Shown, followed, Untouched}
use Rattle.cfa_outside.specs.declared.worlds.World.{World}
use Rattle.cfa_outside.specs.Sinks.{adds_bytes}
use Rattle.cfa_outside.specs.Sites.{Told}
use Rattle.cfa_output.specs.declared.ends.Object.TheVariants.{Inputs, Site, Sink}
use Rattle.cfa_output.specs.declared.ends.Stop.{Stop}
use Rattle.cfa_output.specs.declared.ends.Stop.TheVariants.{Outside, Memory, Visits, Pattern}
use Rattle.cfa_sources.specs.Readings.{text_too_big}
use Rattle.cfa_states.specs.Levels.{IsTooLarge}
use Rattle.cfa_states.specs.Passes.{Course, goes, too_large, run}
use Rattle.cfa_states.specs.Tellers.{open_walk}
use Rattle.cfa_states.specs.Views.{Setting}
use Rattle.cfa_conflict.specs.declared.verdicts.Verdict.{Verdict}
use Rattle.cfa_conflict.specs.declared.verdicts.Verdict.TheVariants.{Accepted, Conflict as InConflictBy}
use Rattle.cfa_conflict.specs.Analyses.{analysis_of}
use Rattle.cfa_agent.specs.Actuations.{Mark}
use Rattle.cfa_agent.specs.Runs.{Start, run_of}
use Rattle.cfa_agent.specs.Ran.{start_of, StopsRun, Refuses, RunBuilds, RunRefuses, RefusesUnput, refuses_none}
use Rattle.cfa_main.specs.declared.work.PolicyRun.{PolicyRun}
use Rattle.cfa_agent.specs.lemmas.Hosts.{adds_none}
use Rattle.cfa_main.specs.declared.ends.End.{End}
use Rattle.cfa_main.specs.declared.ends.End.TheVariants.{Ended, PromiseFailed, InConflict}
use Rattle.cfa_main.specs.declared.work.Work.{Work}
use Rattle.cfa_main.specs.declared.work.Work.TheVariants.{Run, Judge, Search, Show}
use Rattle.cfa_main.specs.Calls.{runs, judged, shown, verdict_line, RunDoes, StrictRunDoes, Judges, DoesTask, IsUnaccepted, IsCutOffBy, ObeysAnalysis}
use Rattle.cfa_main.specs.Done.{Done, IsDone, IsPut, all_lines, status_of}
use Rattle.cfa_main.specs.Searches.{TellsSearch}
use Rattle.cfa_main.specs.Stages.{RunsPolicy, Obeys, setting_in, TellsVerdict, StopsTelling, IsVerdictLine, IsEndOfRun, MayRun, IsInConflict, not_made, made, Performed, TextPut, OnlyPut}
use Rattle.cfa_main.proofs.SearchLemmas.{search_not_failed}

-- ---- ends

pub no_conflict : (end : End) → IsEndOfRun end → status_of end ≡ 3 → ⊥
no_conflict Ended is three = omega (arith, three)
no_conflict PromiseFailed is three = omega (arith, three)
no_conflict InConflict is three = absurd is

-- ---- what is done by the definition

-- what a verdict asks for
abbrev pub judged_by : Option Verdict → Done
judged_by None = shown []
judged_by (Some verdict) = judged verdict

pub judges_told : (verdict : Option Verdict) (end : End) (out out' : Shown (List ℕ)) → TellsVerdict verdict end out out' → Judges verdict (judged_by verdict)
judges_told None end out out' told = absurd told
judges_told (Some verdict) end out out' told = refl

pub judged_done : (verdict : Option Verdict) (t : Told) (out out' : Shown (List ℕ)) (end : End) (n : ℕ) → n ≡ status_of end → TellsVerdict verdict end out out' → IsDone (judged_by verdict) t t out out' n
judged_done None t out out' end n is told = absurd told
judged_done (Some verdict) t out out' end n is told = record {
  logged = sym (adds_none t);
  put = told.1 ∙ ap (λ bs. followed (adds_bytes bs) out) (sym (append-nil (verdict_line verdict)));
  status_is = is ∙ ap status_of told.0;
}

pub judged_put : (verdict : Option Verdict) (out out' : Shown (List ℕ)) (end : End) (n : ℕ) → n ≡ status_of end → TellsVerdict verdict end out out' → IsPut (judged_by verdict) out out' n
judged_put None out out' end n is told = absurd told
judged_put (Some verdict) out out' end n is told = record {
  no_entry = refl;
  put = told.1 ∙ ap (λ bs. followed (adds_bytes bs) out) (sym (append-nil (verdict_line verdict)));
  status_is = is ∙ ap status_of told.0;
}

strict_made : (setting : Setting) (s : Start) (verdict : Option Verdict) (done : Done) → MayRun true verdict → RunDoes setting s verdict done → StrictRunDoes setting s verdict done
strict_made setting s None done may does = absurd may
strict_made setting s (Some (Accepted live)) done may does = does
strict_made setting s (Some (InConflictBy c)) done may does = absurd may

pub does_made : (strict : Bool) (setting : Setting) (locks : Bool) (moment : ℕ) (world : World) (marks : List Mark) (done : Done) → MayRun strict (analysis_of setting) →
    RunDoes setting (start_of moment locks world marks) (analysis_of setting) done → DoesTask (runs setting locks strict) moment world marks done
does_made true setting locks moment world marks done may does = strict_made setting (start_of moment locks world marks) (analysis_of setting) done may does
does_made false setting locks moment world marks done may does = does

strict_judged : (setting : Setting) (s : Start) (verdict : Option Verdict) → IsInConflict verdict → StrictRunDoes setting s verdict (judged_by verdict)
strict_judged setting s None conflict = absurd conflict
strict_judged setting s (Some (Accepted live)) conflict = absurd conflict
strict_judged setting s (Some (InConflictBy c)) conflict = refl

pub does_judged : (strict : Bool) (setting : Setting) (locks : Bool) (moment : ℕ) (world : World) (marks : List Mark) → strict ≡ true → IsInConflict (analysis_of setting) →
    DoesTask (runs setting locks strict) moment world marks (judged_by (analysis_of setting))
does_judged true setting locks moment world marks is conflict = strict_judged setting (start_of moment locks world marks) (analysis_of setting) conflict
does_judged false setting locks moment world marks is conflict = absurd (false≢true is)

-- a strict run is made where the policy is accepted alone
pub made_accepted : (strict : Bool) (verdict : Option Verdict) → strict ≡ true → MayRun strict verdict → IsUnaccepted verdict → ⊥
made_accepted true None is may not = may
made_accepted true (Some (Accepted live)) is may not = not
made_accepted true (Some (InConflictBy c)) is may not = may
made_accepted false verdict is may not = false≢true is

pub cut_off_by : (strict : Bool) (setting : Setting) (s : Start) (verdict : Option Verdict) → MayRun strict verdict → IsTooLarge (run_of setting s) → IsCutOffBy strict setting s verdict
cut_off_by false setting s verdict may cut = cut
cut_off_by true setting s None may cut = absurd may
cut_off_by true setting s (Some (Accepted live)) may cut = cut
cut_off_by true setting s (Some (InConflictBy c)) may cut = absurd may

pub obeys_strict : (strict : Bool) (setting : Setting) (locks : Bool) → strict ≡ true → ObeysAnalysis (runs setting locks strict) setting
obeys_strict true setting locks is = refl
obeys_strict false setting locks is = absurd (false≢true is)

-- ---- the text that is put by the definition

pub judges_line : (verdict : Option Verdict) (text : List ℕ) → IsVerdictLine verdict text → Judges verdict (judged_by verdict)
judges_line None text is = absurd is
judges_line (Some verdict) text is = refl

pub line_judged : (verdict : Option Verdict) (text : List ℕ) → IsVerdictLine verdict text → text ≡ all_lines (judged_by verdict).steps
line_judged None text is = absurd is
line_judged (Some verdict) text is = is ∙ sym (append-nil (verdict_line verdict))

-- ---- a text that was put

pub text_done : (text : List ℕ) (t : Told) (out out' : Shown (List ℕ)) (end : End) (n : ℕ) → n ≡ status_of end → TextPut text out out' (Ok end) → IsDone (shown text) t t out out' n
text_done text t out out' end n is put = record {
  logged = sym (adds_none t);
  put = put.put.1 ∙ ap (λ bs. followed (adds_bytes bs) out) (sym (append-nil text));
  status_is = is ∙ ap status_of put.put.0;
}

pub text_put : (text : List ℕ) (out out' : Shown (List ℕ)) (end : End) (n : ℕ) → n ≡ status_of end → TextPut text out out' (Ok end) → IsPut (shown text) out out' n
text_put text out out' end n is put = record {
  no_entry = refl;
  put = put.put.1 ∙ ap (λ bs. followed (adds_bytes bs) out) (sym (append-nil text));
  status_is = is ∙ ap status_of put.put.0;
}

-- ---- work

-- another stop than that of the sink
abbrev pub IsNoSink : Stop → Type 0
IsNoSink (Outside Inputs) = Unit {0}
IsNoSink (Outside Site) = Unit {0}
IsNoSink (Outside Sink) = ⊥
IsNoSink Memory = Unit {0}
IsNoSink Visits = Unit {0}
IsNoSink (Pattern text) = Unit {0}

-- the stop of the site
abbrev pub IsOfSite : Stop → Type 0
IsOfSite (Outside Inputs) = ⊥
IsOfSite (Outside Site) = Unit {0}
IsOfSite (Outside Sink) = ⊥
IsOfSite Memory = ⊥
IsOfSite Visits = ⊥
IsOfSite (Pattern text) = ⊥

telling_untouched : (IsText : List ℕ → Type 0) → (stop : Stop) (out out' : Shown (List ℕ)) → StopsTelling IsText out out' stop → IsNoSink stop → Untouched out out'
telling_untouched IsText (Outside Inputs) out out' stops other = absurd stops
telling_untouched IsText (Outside Site) out out' stops other = absurd stops
telling_untouched IsText (Outside Sink) out out' stops other = absurd other
telling_untouched IsText Memory out out' stops other = stops
telling_untouched IsText Visits out out' stops other = stops
telling_untouched IsText (Pattern text) out out' stops other = stops

not_of_site : (IsText : List ℕ → Type 0) → (stop : Stop) (out out' : Shown (List ℕ)) → StopsTelling IsText out out' stop → IsOfSite stop → ⊥
not_of_site IsText (Outside Inputs) out out' stops of_site = of_site
not_of_site IsText (Outside Site) out out' stops of_site = stops
not_of_site IsText (Outside Sink) out out' stops of_site = of_site
not_of_site IsText Memory out out' stops of_site = of_site
not_of_site IsText Visits out out' stops of_site = of_site
not_of_site IsText (Pattern text) out out' stops of_site = of_site

-- the status of a verdict is neither that of a failed run nor, where the policy is accepted, that of a conflict
verdict_not_failed : (verdict : Option Verdict) (end : End) (out out' : Shown (List ℕ)) → TellsVerdict verdict end out out' → status_of end ≡ 2 → ⊥
verdict_not_failed None end out out' told two = told
verdict_not_failed (Some (Accepted live)) end out out' told two = omega (arith, sym (ap status_of told.0) ∙ two)
verdict_not_failed (Some (InConflictBy c)) end out out' told two = omega (arith, sym (ap status_of told.0) ∙ two)

module _ (moment : ℕ) (site site' : Shown Told) (out out' : Shown (List ℕ)) (pats pats' : Shown (List (List ℕ))) where
  abbrev Did : Work → Result End Stop → Type 0
  Did work result = Performed work moment site site' out out' pats pats' result

  put_stop : (text : List ℕ) (stop : Stop) → OnlyPut text site site' out out' pats pats' (Err stop) → StopsRun site site' out out' stop
  put_stop text stop p = subst (StopsRun site site' out out') (sym p.puts.sink_failed.0) p.puts.sink_failed.1.failed.rose

  telling_stop : (IsText : List ℕ → Type 0) → (stop : Stop) → StopsTelling IsText out out' stop → StopsRun site site' out out' stop
  telling_stop IsText (Outside Inputs) stops = absurd stops
  telling_stop IsText (Outside Site) stops = absurd stops
  telling_stop IsText (Outside Sink) stops = stops.2.failed.rose
  telling_stop IsText Memory stops = ap (λ (s : Shown (List ℕ)). s.faults) stops
  telling_stop IsText Visits stops = ap (λ (s : Shown (List ℕ)). s.faults) stops
  telling_stop IsText (Pattern text) stops = ap (λ (s : Shown (List ℕ)). s.faults) stops

  pub work_stop : (work : Work) (stop : Stop) → Did work (Err stop) → StopsRun site site' out out' stop
  work_stop (Run order) stop (not_made obeyed p) = telling_stop _ stop p.judged.stopped
  work_stop (Run order) stop (made may p) = p.stopped
  work_stop (Judge policy) stop p = telling_stop _ stop p.judged.stopped
  work_stop (Search policy) stop p = telling_stop _ stop p.searched.stopped
  work_stop (Show text) stop p = put_stop text stop p

  only_sink : (text : List ℕ) (stop : Stop) → OnlyPut text site site' out out' pats pats' (Err stop) → IsNoSink stop → ⊥
  only_sink text stop p other = subst IsNoSink p.puts.sink_failed.0 other

  -- where nothing is shown but a text, no limit and no want of memory stops
  pub never_shown : (text : List ℕ) (stop : Stop) → Did (Show text) (Err stop) → IsNoSink stop → ⊥
  never_shown text stop p other = only_sink text stop p other

  pub untouched_at_stop : (work : Work) (stop : Stop) → Did work (Err stop) → ¬ RunsPolicy work → IsNoSink stop → Untouched out out'
  untouched_at_stop (Run order) stop p no_run other = absurd (no_run tt)
  untouched_at_stop (Judge policy) stop p no_run other = telling_untouched _ stop out out' p.judged.stopped other
  untouched_at_stop (Search policy) stop p no_run other = telling_untouched _ stop out out' p.searched.stopped other
  untouched_at_stop (Show text) stop p no_run other = absurd (only_sink text stop p other)

  site_is_no_sink : (stop : Stop) → IsOfSite stop → IsNoSink stop
  site_is_no_sink (Outside Inputs) of_site = tt
  site_is_no_sink (Outside Site) of_site = tt
  site_is_no_sink (Outside Sink) of_site = absurd of_site
  site_is_no_sink Memory of_site = tt
  site_is_no_sink Visits of_site = tt
  site_is_no_sink (Pattern text) of_site = tt

  pub runs_by_site : (work : Work) (stop : Stop) → Did work (Err stop) → IsOfSite stop → RunsPolicy work
  runs_by_site (Run order) stop p of_site = tt
  runs_by_site (Judge policy) stop p of_site = absurd (not_of_site _ stop out out' p.judged.stopped of_site)
  runs_by_site (Search policy) stop p of_site = absurd (not_of_site _ stop out out' p.searched.stopped of_site)
  runs_by_site (Show text) stop p of_site = absurd (only_sink text stop p (site_is_no_sink stop of_site))

  put_patterns : (text : List ℕ) (stop : Stop) → OnlyPut text site site' out out' pats pats' (Err stop) → Refuses (text_too_big (Some stop)) pats pats'
  put_patterns text stop p = subst (λ (s : Stop). Refuses (text_too_big (Some s)) pats pats') (sym p.puts.sink_failed.0) p.patterns_are

  -- a run may have refused a text before a line that it couldn't put
  abbrev pub RunUnput : Work → Type 0
  RunUnput (Run order) = RefusesUnput (λ text. RunBuilds (setting_in order.policy) moment order.locks site site' (Some text)) pats pats'
  RunUnput (Judge policy) = Untouched pats pats'
  RunUnput (Search policy) = Untouched pats pats'
  RunUnput (Show text) = Untouched pats pats'

  -- where no text is what stopped it
  abbrev pub PatternsBy : Work → Stop → Type 0
  PatternsBy work (Outside Inputs) = Untouched pats pats'
  PatternsBy work (Outside Site) = Untouched pats pats'
  PatternsBy work (Outside Sink) = RunUnput work
  PatternsBy work Memory = Untouched pats pats'
  PatternsBy work Visits = Untouched pats pats'
  PatternsBy work (Pattern text) = Unit {0}

  untouched_by : (work : Work) (stop : Stop) → Refuses (text_too_big (Some stop)) pats pats' → PatternsBy work stop
  untouched_by work (Outside Inputs) kept = kept
  untouched_by work (Outside Site) kept = kept
  untouched_by (Run order) (Outside Sink) kept = refuses_none kept
  untouched_by (Judge policy) (Outside Sink) kept = kept
  untouched_by (Search policy) (Outside Sink) kept = kept
  untouched_by (Show text) (Outside Sink) kept = kept
  untouched_by work Memory kept = kept
  untouched_by work Visits kept = kept
  untouched_by work (Pattern text) kept = tt

  run_by : (order : PolicyRun) (stop : Stop) → RunRefuses {X = End} (λ text. RunBuilds (setting_in order.policy) moment order.locks site site' (Some text)) (Err stop) pats pats' → PatternsBy (Run order) stop
  run_by order (Outside Inputs) kept = kept
  run_by order (Outside Site) kept = kept
  run_by order (Outside Sink) kept = kept
  run_by order Memory kept = kept
  run_by order Visits kept = kept
  run_by order (Pattern text) kept = tt

  pub patterns_by_stop : (work : Work) (stop : Stop) → Did work (Err stop) → PatternsBy work stop
  patterns_by_stop (Run order) stop (not_made obeyed p) = untouched_by (Run order) stop p.judged.patterns_are
  patterns_by_stop (Run order) stop (made may p) = run_by order stop p.patterns_are
  patterns_by_stop (Judge policy) stop p = untouched_by (Judge policy) stop p.judged.patterns_are
  patterns_by_stop (Search policy) stop p = untouched_by (Search policy) stop p.searched.patterns_are
  patterns_by_stop (Show text) stop p = untouched_by (Show text) stop (put_patterns text stop p)

  pub patterns_at_end : (work : Work) (end : End) → Did work (Ok end) → Untouched pats pats'
  patterns_at_end (Run order) end (not_made obeyed p) = p.judged.patterns_are
  patterns_at_end (Run order) end (made may p) = p.patterns_are
  patterns_at_end (Judge policy) end p = p.judged.patterns_are
  patterns_at_end (Search policy) end p = p.searched.patterns_are
  patterns_at_end (Show text) end p = p.patterns_are

  pub untouched_without_run : (work : Work) (result : Result End Stop) → Did work result → ¬ RunsPolicy work → Untouched site site'
  untouched_without_run (Run order) result p no_run = absurd (no_run tt)
  untouched_without_run (Judge policy) result p no_run = p.site_is
  untouched_without_run (Search policy) result p no_run = p.site_is
  untouched_without_run (Show text) result p no_run = p.site_is

  verdict_calm : (verdict : Option Verdict) (end : End) → TellsVerdict verdict end out out' → out'.faults ≡ out.faults
  verdict_calm None end told = absurd told
  verdict_calm (Some verdict) end told = ap (λ (s : Shown (List ℕ)). s.faults) told.1

  search_calm : (setting : Setting) (course : Course) (end : End) → TellsSearch setting course end out out' → out'.faults ≡ out.faults
  search_calm setting (too_large h) end told = absurd told
  search_calm setting (goes h) end told = ap (λ (s : Shown (List ℕ)). s.faults) told.3

  -- work that came to its end put all that it puts
  pub work_calm : (work : Work) (end : End) → Did work (Ok end) → out'.faults ≡ out.faults
  work_calm (Run order) end (not_made obeyed p) = verdict_calm (analysis_of (setting_in order.policy)) end p.judged.told
  work_calm (Run order) end (made may p) = p.calm
  work_calm (Judge policy) end p = verdict_calm (analysis_of (setting_in policy)) end p.judged.told
  work_calm (Search policy) end p = search_calm (setting_in policy) (run (setting_in policy) open_walk) end p.searched.told
  work_calm (Show text) end p = ap (λ (s : Shown (List ℕ)). s.faults) p.puts.put.1

  shown_not : (n : ℕ) (text : List ℕ) (end : End) → OnlyPut text site site' out out' pats pats' (Ok end) → status_of end ≡ n → 0 ≡ n
  shown_not n text end p is = sym (ap status_of p.puts.put.0) ∙ is

  pub failed_runs : (work : Work) (end : End) → Did work (Ok end) → status_of end ≡ 2 → RunsPolicy work
  failed_runs (Run order) end p two = tt
  failed_runs (Judge policy) end p two = absurd (verdict_not_failed _ end out out' p.judged.told two)
  failed_runs (Search policy) end p two = absurd (search_not_failed (setting_in policy) (run (setting_in policy) open_walk) end out out' p.searched.told two)
  failed_runs (Show text) end p two = absurd (omega (arith, shown_not 2 text end p two))

  -- what tells a conflict obeys its analysis, and touches nothing on the site
  pub obeys_conflict : (work : Work) (end : End) → Did work (Ok end) → status_of end ≡ 3 → Obeys work × Untouched site site'
  obeys_conflict (Run order) end (not_made obeyed p) three = (obeyed.conflict.0, p.site_is)
  obeys_conflict (Run order) end (made may p) three = absurd (no_conflict end p.ends three)
  obeys_conflict (Judge policy) end p three = (tt, p.site_is)
  obeys_conflict (Search policy) end p three = (tt, p.site_is)
  obeys_conflict (Show text) end p three = absurd (omega (arith, shown_not 3 text end p three))
