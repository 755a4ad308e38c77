-- What a whole call leaves.
use Rattle.std.proofs.Common.{◌≡◌, ◌≢◌, ◌<◌, ◌≤◌, ◌⊎◌, inl, inr, ℕ, Bool, true, List, Some, None, Option, Result, Ok, Err, IfSome, refl, sym, ap, subst, ◌∙◌, arith, append-nil}
use Rattle.cfa_base.specs.lemmas.Options.{some_weaker, each_some, some_at, one_some}
use Rattle.cfa_base.specs.declared.limits.TheConstants.{LAST_MOMENT}
use Rattle.cfa_base.specs.Shown.{Shown, followed, Follows, Untouched, HasFailed}
use Rattle.cfa_base.specs.Patterns.{refuses}
use Rattle.cfa_words.specs.declared.words.Request.{Request}
use Rattle.cfa_words.specs.declared.words.Request.TheVariants as request
use Rattle.cfa_words.specs.Words.{asked}
use Rattle.cfa_outside.specs.declared.worlds.World.{World}
use Rattle.cfa_outside.specs.Inputs.{Library}
use Rattle.cfa_outside.specs.Sinks.{adds_bytes}
use Rattle.cfa_outside.specs.Sites.{Told}
use Rattle.cfa_output.specs.declared.ends.Object.TheVariants.{Inputs, Site, Sink}
use Rattle.cfa_output.specs.declared.ends.Stop.{Stop}
use Rattle.cfa_output.specs.declared.ends.Stop.TheVariants.{Outside, Memory, Visits, Pattern}
use Rattle.cfa_output.specs.declared.ends.Failure.{Failure}
use Rattle.cfa_output.specs.declared.ends.Failure.TheVariants.{Refused, Stopped}
use Rattle.cfa_output.specs.Lines.{words_line, moment_line, outside_line, memory_line, visits_line, pattern_line, stop_line}
use Rattle.cfa_output.specs.Puts.{PutsShort, puts_then}
use Rattle.cfa_sources.specs.Sources.{Texts}
use Rattle.cfa_states.specs.Views.{Setting}
use Rattle.cfa_states.specs.Passes.{run}
use Rattle.cfa_states.specs.Tellers.{open_walk}
use Rattle.cfa_conflict.specs.Analyses.{analysis_of}
use Rattle.cfa_agent.specs.Actuations.{Mark}
use Rattle.cfa_agent.specs.Marks.{marks_of}
use Rattle.cfa_agent.specs.Runs.{lines_of}
use Rattle.cfa_agent.specs.Ran.{added, IfBothTold, started, StopsRun, RunBuilds, refuses_none, refuses_one, text_of_lines}
use Rattle.cfa_main.specs.declared.ends.End.{End}
use Rattle.cfa_main.specs.declared.ends.End.TheVariants.{Ended, PromiseFailed, InConflict}
use Rattle.cfa_main.specs.declared.work.Work.{Work}
use Rattle.cfa_main.specs.declared.work.Work.TheVariants.{Run, Judge, Search, Show}
use Rattle.cfa_main.specs.Calls as calls
use Rattle.cfa_main.specs.declared.work.PolicyInContext.{PolicyInContext}
use Rattle.cfa_main.specs.declared.work.PolicyRun.{PolicyRun}
use Rattle.cfa_main.specs.Calls.{AnalysesTooMany, DoesTask, IsAnalysedIn, IsBuiltFor, NeedsManyVisits, ObeysAnalysis, runs, judges, searches, Does, RefusesRequest, TakesRequest, AsksTask, AsksUnaccepted, IsUnaccepted, TakenIsNotRefused, ran}
use Rattle.cfa_main.specs.Done.{Done, IsDone, IsPut, Stands, Puts, HasFault, FallsShort, all_lines, refused_with, status_of}
use Rattle.cfa_main.specs.Ends.{IsEnd, IsStop, IsNotDone, IsRun, MakesRun, IsToPut, of_refusal, of_work, of_reading, of_memory, of_pattern, of_visits, IsAnalysed, IsObeying, AsksRun, AsksNoRun, AsksAnalysis, AsksToObey, AsksTaken, AsksRefused, RefusesCall, of_words, of_moment, of_request, PutsRefusal, IsUnread, ReadsInTurn, PutsLast, StopsReading, StopsAtSite, RunBuilt, RefusesBefore, RefusesInRun, RefusesText, before_work, in_run, StopsAtPattern, stops_before, stops_in_run, StopsAtVisits, by_analysis, by_run}
use Rattle.cfa_main.specs.Stages.{RunPerformed, RunsPolicy, Obeys, setting_in, task_of, IsAsked, OnlyRefused, Prepared, OneSetting, MayRun, IsObeyed, OnlyJudged, OnlySearched, OnlyPut, PolicyRan, not_made, made, Performed, PutsEnd, PutsStop, status_of_stop, Called, not_prepared, ended, stopped_at_work}
use Rattle.cfa_agent.specs.lemmas.Hosts.{adds_none}
use Rattle.cfa_main.proofs.SearchLemmas.{search_done, search_put, search_text_done}
use Rattle.cfa_main.proofs.Told.{untouched_both, both_weaker, both, along, fault_along, fault_before}
use Rattle.cfa_main.proofs.WorkLemmas.{no_conflict, judged_by, judges_told, judges_line, line_judged, judged_done, judged_put, does_made, does_judged, made_accepted, cut_off_by, obeys_strict, text_done, text_put, IsNoSink, IsOfSite, work_stop, never_shown, untouched_at_stop, runs_by_site, RunUnput, patterns_by_stop, patterns_at_end, untouched_without_run, failed_runs, obeys_conflict}

-- ---- statuses

low : (n : ℕ) → IsEnd n → n ≤ 3
low n (inl e) = omega (arith, e)
low n (inr (inl e)) = omega (arith, e)
low n (inr (inr (inl e))) = omega (arith, e)
low n (inr (inr (inr e))) = omega (arith, e)

high : (n : ℕ) → IsStop n → 4 ≤ n
high n (inl e) = omega (arith, e)
high n (inr (inl e)) = omega (arith, e)
high n (inr (inr e)) = omega (arith, e)

pub no_end : (n : ℕ) → IsStop n → IsEnd n → ⊥
no_end n s e = omega (arith, high n s, low n e)

is_end : (end : End) (n : ℕ) → n ≡ status_of end → IsEnd n
is_end Ended n e = inl e
is_end PromiseFailed n e = inr (inr (inl e))
is_end InConflict n e = inr (inr (inr e))

not_one : (end : End) (n : ℕ) → n ≡ status_of end → n ≡ 1 → ⊥
not_one Ended n e f = omega (arith, e, f)
not_one PromiseFailed n e f = omega (arith, e, f)
not_one InConflict n e f = omega (arith, e, f)

-- the status of a stop
pub stop_is : (stop : Stop) (out out' : Shown (List ℕ)) (n : ℕ) → PutsStop (stop_line stop) (status_of_stop stop) out out' n → IsStop n
stop_is (Outside Inputs) out out' n (inl h) = inl h.0
stop_is (Outside Inputs) out out' n (inr h) = inl h.0
stop_is (Outside Site) out out' n (inl h) = inl h.0
stop_is (Outside Site) out out' n (inr h) = inl h.0
stop_is (Outside Sink) out out' n h = inl h.0
stop_is Memory out out' n (inl h) = inr (inl h.0)
stop_is Memory out out' n (inr h) = inl h.0
stop_is Visits out out' n (inl h) = inr (inr h.0)
stop_is Visits out out' n (inr h) = inl h.0
stop_is (Pattern text) out out' n (inl h) = inr (inr h.0)
stop_is (Pattern text) out out' n (inr h) = inl h.0

-- ---- refusals

does_refused : (words : List (List ℕ)) (moment : ℕ) (told : Option Library) (lib : Library) (line : List ℕ) (w : World) (marks : List Mark) → told ≡ Some lib → RefusesCall words moment told line → Does words moment lib.texts w marks (refused_with line)
does_refused words moment told lib _ w marks is (of_words none) = calls.words_refused none
does_refused words moment told lib _ w marks is (of_moment asks late) = calls.moment_refused asks late
does_refused words moment told lib _ w marks is (of_request {request = r} {line = l} asks in_time refuses) =
    calls.request_refused asks in_time (some_at told lib (λ l2. RefusesRequest l2.texts r l) is refuses)

refused_done : (line : List ℕ) (t : Told) (out out' : Shown (List ℕ)) (n : ℕ) → n ≡ 1 → Follows (adds_bytes line) out out' → IsDone (refused_with line) t t out out' n
refused_done line t out out' n is put = record {
  logged = sym (adds_none t);
  put = put ∙ ap (λ bs. followed (adds_bytes bs) out) (sym (append-nil line));
  status_is = is;
}

refused_put : (line : List ℕ) (out out' : Shown (List ℕ)) (n : ℕ) → n ≡ 1 → Follows (adds_bytes line) out out' → IsPut (refused_with line) out out' n
refused_put line out out' n is put = record {
  no_entry = refl;
  put = put ∙ ap (λ bs. followed (adds_bytes bs) out) (sym (append-nil line));
  status_is = is;
}

-- ---- work

pub taken_at : (told : Option Library) (lib : Library) (moment : ℕ) (request : Request) (work : Work) → told ≡ Some lib → IfSome told (λ l. TakesRequest l.texts moment request (task_of work)) → TakesRequest lib.texts moment request (task_of work)
taken_at told lib moment request work is h = some_at told lib (λ l. TakesRequest l.texts moment request (task_of work)) is h

no_run : (words : List (List ℕ)) (moment : ℕ) (told : Option Library) (work : Work) → IsAsked words moment told work → AsksNoRun words → ¬ RunsPolicy work
no_run words moment told work a idle is_run = idle (a.request, a.asked_is, a.is_work.runs is_run)

asks_run : (words : List (List ℕ)) (moment : ℕ) (told : Option Library) (work : Work) → IsAsked words moment told work → RunsPolicy work → AsksRun words
asks_run words moment told work a is_run = (a.request, a.asked_is, a.is_work.runs is_run)

asked_task : (words : List (List ℕ)) (moment : ℕ) (told : Option Library) (work : Work) (a : IsAsked words moment told work) (lib : Library) → TakesRequest lib.texts moment a.request (task_of work) → AsksTask words moment lib.texts (task_of work)
asked_task words moment told work a lib taken = record { request = a.request; asked_is = a.asked_is; takes = taken }

-- what is asked for is run strictly, or it isn't
one_strictness : (texts : Texts) (moment : ℕ) (request : Request) (s t : Setting) (l k m n : Bool) → TakesRequest texts moment request (runs s l m) → TakesRequest texts moment request (runs t k n) → m ≡ n
one_strictness texts moment (request.Run policy options) s t l k m n r q = r.strict_is ∙ sym q.strict_is
one_strictness texts moment (request.Show policy) s t l k m n r q = absurd r
one_strictness texts moment (request.Check policy classes) s t l k m n r q = absurd r
one_strictness texts moment (request.Audit journal) s t l k m n r q = absurd r
one_strictness texts moment (request.Edits policy classes) s t l k m n r q = absurd r
one_strictness texts moment (request.History journal) s t l k m n r q = absurd r

run_analysed : (request : Request) → IsRun request → IsAnalysed request
run_analysed (request.Run policy options) is = tt
run_analysed (request.Show policy) is = absurd is
run_analysed (request.Check policy classes) is = tt
run_analysed (request.Audit journal) is = absurd is
run_analysed (request.Edits policy classes) is = absurd is
run_analysed (request.History journal) is = absurd is

obeying_analysed : (request : Request) → IsObeying request → IsAnalysed request
obeying_analysed (request.Run policy options) is = tt
obeying_analysed (request.Show policy) is = absurd is
obeying_analysed (request.Check policy classes) is = tt
obeying_analysed (request.Audit journal) is = absurd is
obeying_analysed (request.Edits policy classes) is = tt
obeying_analysed (request.History journal) is = absurd is

asks_to_obey : (words : List (List ℕ)) (moment : ℕ) (told : Option Library) (work : Work) → IsAsked words moment told work → Obeys work → AsksToObey words
asks_to_obey words moment told work a obeys = (a.request, a.asked_is, a.is_work.obeys obeys)

module _ (words : List (List ℕ)) (moment : ℕ) (lib : Library) (request : Request) (asks : asked words ≡ Some request) (in_time : moment ≤ LAST_MOMENT)
    (site site' : Shown Told) (out out' : Shown (List ℕ)) (pats pats' : Shown (List (List ℕ))) where
  abbrev StandsHere : ℕ → Type 0
  StandsHere n = IfBothTold (λ before after. Stands (Does words moment lib.texts before.world (marks_of (added before after))) before after out out' n) site site'

  run_stands : (setting : Setting) (locks strict : Bool) (end : End) (n : ℕ) → n ≡ status_of end → PolicyRan setting moment locks strict site site' out out' pats pats' (Ok end) →
      TakesRequest lib.texts moment request (runs setting locks strict) → StandsHere n
  run_stands setting locks strict end n is (made may p) taken = both _ _ _ site site' (λ before after whole d. (
    ran setting (started moment locks before after) (analysis_of setting),
    calls.work_done (runs setting locks strict) asks in_time taken (does_made strict setting locks moment before.world (marks_of (added before after)) _ may (whole, refl)),
    record { logged = d.logged; put = d.put; status_is = is ∙ d.status_is },
  )) p.whole p.done
  run_stands setting locks strict end n is (not_made obeyed p) taken = untouched_both _ site site' p.site_is (λ t. (
    judged_by (analysis_of setting),
    calls.work_done (runs setting locks strict) asks in_time taken (does_judged strict setting locks moment t.world (marks_of (added t t)) obeyed.conflict.0 obeyed.conflict.1),
    judged_done (analysis_of setting) t out out' end n is p.judged.told,
  ))

  -- work that was done is what its call does
  work_stands : (work : Work) (end : End) (n : ℕ) → n ≡ status_of end → Performed work moment site site' out out' pats pats' (Ok end) → TakesRequest lib.texts moment request (task_of work) → StandsHere n
  work_stands (Run order) end n is p taken = run_stands (setting_in order.policy) order.locks order.strict end n is p taken
  work_stands (Judge policy) end n is p taken = untouched_both _ site site' p.site_is (λ t. (
    judged_by (analysis_of (setting_in policy)),
    calls.work_done (judges (setting_in policy)) asks in_time taken (judges_told (analysis_of (setting_in policy)) end out out' p.judged.told),
    judged_done (analysis_of (setting_in policy)) t out out' end n is p.judged.told,
  ))
  work_stands (Search policy) end n is p taken = untouched_both _ site site' p.site_is (λ t.
      let does = search_done (setting_in policy) (run (setting_in policy) open_walk) t out out' end n is p.searched.told in
      (does.0, calls.work_done (searches (setting_in policy)) asks in_time taken does.1, does.2))
  work_stands (Show text) end n is p taken = untouched_both _ site site' p.site_is (λ t. (
    calls.shown text,
    calls.work_done (task_of (Show text)) asks in_time taken refl,
    text_done text t out out' end n is p.puts,
  ))

  run_puts : (setting : Setting) (locks strict : Bool) (end : End) (n : ℕ) → n ≡ status_of end → PolicyRan setting moment locks strict site site' out out' pats pats' (Ok end) →
      TakesRequest lib.texts moment request (runs setting locks strict) → status_of end ≡ 3 → (w : World) (marks : List Mark) → Puts (Does words moment lib.texts w marks) out out' n
  run_puts setting locks strict end n is (made may p) taken three w marks = absurd (no_conflict end p.ends three)
  run_puts setting locks strict end n is (not_made obeyed p) taken three w marks = (
    judged_by (analysis_of setting),
    calls.work_done (runs setting locks strict) asks in_time taken (does_judged strict setting locks moment w marks obeyed.conflict.0 obeyed.conflict.1),
    judged_put (analysis_of setting) out out' end n is p.judged.told,
  )

  -- so is work that is no run, or ends with a conflict, whatever the site tells
  work_puts : (work : Work) (end : End) (n : ℕ) → n ≡ status_of end → Performed work moment site site' out out' pats pats' (Ok end) → TakesRequest lib.texts moment request (task_of work) → (RunsPolicy work → status_of end ≡ 3) →
      (w : World) (marks : List Mark) → Puts (Does words moment lib.texts w marks) out out' n
  work_puts (Run order) end n is p taken three w marks = run_puts (setting_in order.policy) order.locks order.strict end n is p taken (three tt) w marks
  work_puts (Judge policy) end n is p taken three w marks = (
    judged_by (analysis_of (setting_in policy)),
    calls.work_done (judges (setting_in policy)) asks in_time taken (judges_told (analysis_of (setting_in policy)) end out out' p.judged.told),
    judged_put (analysis_of (setting_in policy)) out out' end n is p.judged.told,
  )
  work_puts (Search policy) end n is p taken three w marks =
      let does = search_put (setting_in policy) (run (setting_in policy) open_walk) out out' end n is p.searched.told in
      (does.0, calls.work_done (searches (setting_in policy)) asks in_time taken does.1, does.2)
  work_puts (Show text) end n is p taken three w marks = (calls.shown text, calls.work_done (task_of (Show text)) asks in_time taken refl, text_put text out out' end n is p.puts)

-- ---- the call

module _ (words : List (List ℕ)) (moment : ℕ) (inputs inputs' : Shown Library) (site site' : Shown Told) (out out' : Shown (List ℕ)) (pats pats' : Shown (List (List ℕ))) (status : ℕ) where
  abbrev CalledHere : Type 0
  CalledHere = Called words moment inputs inputs' site site' out out' pats pats' status

  pub exact : CalledHere → IsEnd status → IfSome inputs.told (λ lib. IfBothTold (λ before after.
      Stands (Does words moment lib.texts before.world (marks_of (added before after))) before after out out' status) site site')
  exact (not_prepared {failure = Refused line} p un (inl (is, put))) end = each_some inputs.told _ (λ lib told. untouched_both _ site site' un (λ t.
      (refused_with line, does_refused words moment inputs.told lib line t.world (marks_of (added t t)) told p.refused, refused_done line t out out' status is put)))
  exact (not_prepared {failure = Refused line} p un (inr (is, short))) end = absurd (no_end status (inl is) end)
  exact (not_prepared {failure = Stopped stop} p un puts) end = absurd (no_end status (stop_is stop out out' status puts) end)
  exact (stopped_at_work stop mid p performed puts) end = absurd (no_end status (stop_is stop mid out' status puts) end)
  exact (ended {work = work} by p performed is) end = some_weaker inputs.told _ _ (λ lib told taken.
      work_stands words moment lib p.work.request p.work.asked_is p.work.in_time site site' out out' pats pats' work by status is performed taken) p.work.is_work.taken

  pub without_site : CalledHere → AsksNoRun words → IsEnd status → IfSome inputs.told (λ lib. (w : World) (marks : List Mark) → Puts (Does words moment lib.texts w marks) out out' status)
  without_site (not_prepared {failure = Refused line} p un (inl (is, put))) idle end = each_some inputs.told _ (λ lib told w marks.
      (refused_with line, does_refused words moment inputs.told lib line w marks told p.refused, refused_put line out out' status is put))
  without_site (not_prepared {failure = Refused line} p un (inr (is, short))) idle end = absurd (no_end status (inl is) end)
  without_site (not_prepared {failure = Stopped stop} p un puts) idle end = absurd (no_end status (stop_is stop out out' status puts) end)
  without_site (stopped_at_work stop mid p performed puts) idle end = absurd (no_end status (stop_is stop mid out' status puts) end)
  without_site (ended {work = work} by p performed is) idle end = some_weaker inputs.told _ _ (λ lib told taken.
      work_puts words moment lib p.work.request p.work.asked_is p.work.in_time site site' out out' pats pats' work by status is performed taken (λ is_run. absurd (no_run words moment inputs.told work p.work idle is_run))) p.work.is_work.taken

  pub site_untouched : CalledHere → AsksNoRun words → Untouched site site'
  site_untouched (not_prepared {failure = Refused line} p un puts) idle = un
  site_untouched (not_prepared {failure = Stopped stop} p un puts) idle = un
  site_untouched (ended {work = work} by p performed is) idle = untouched_without_run moment site site' out out' pats pats' work (Ok by) performed (no_run words moment inputs.told work p.work idle)
  site_untouched (stopped_at_work {work = work} stop mid p performed puts) idle = untouched_without_run moment site site' out mid pats pats' work (Err stop) performed (no_run words moment inputs.told work p.work idle)

  pub range : CalledHere → IsEnd status ⊎ IsStop status
  range (not_prepared {failure = Refused line} p un (inl (is, put))) = inl (inr (inl is))
  range (not_prepared {failure = Refused line} p un (inr (is, short))) = inr (inl is)
  range (not_prepared {failure = Stopped stop} p un puts) = inr (stop_is stop out out' status puts)
  range (ended by p performed is) = inl (is_end by status is)
  range (stopped_at_work stop mid p performed puts) = inr (stop_is stop mid out' status puts)

  one_is_refused : status ≡ 1 → IsStop status → ⊥
  one_is_refused one stop = no_end status stop (inr (inl one))

  pub puts_refusal : CalledHere → status ≡ 1 → PutsRefusal words moment inputs.told out out'
  puts_refusal (not_prepared {failure = Refused line} p un (inl (is, put))) one = (line, p.refused, put)
  puts_refusal (not_prepared {failure = Refused line} p un (inr (is, short))) one = absurd (one_is_refused one (inl is))
  puts_refusal (not_prepared {failure = Stopped stop} p un puts) one = absurd (one_is_refused one (stop_is stop out out' status puts))
  puts_refusal (ended by p performed is) one = absurd (not_one by status is one)
  puts_refusal (stopped_at_work stop mid p performed puts) one = absurd (one_is_refused one (stop_is stop mid out' status puts))

  pub refused_untouched : CalledHere → status ≡ 1 → Untouched site site'
  refused_untouched (not_prepared {failure = Refused line} p un puts) one = un
  refused_untouched (not_prepared {failure = Stopped stop} p un puts) one = un
  refused_untouched (ended by p performed is) one = absurd (not_one by status is one)
  refused_untouched (stopped_at_work stop mid p performed puts) one = absurd (one_is_refused one (stop_is stop mid out' status puts))

  unread_stop : (line : List ℕ) (stop : Stop) → OnlyRefused line (Err (Stopped stop)) → PutsStop (stop_line stop) (status_of_stop stop) out out' status → Untouched inputs inputs' → IsUnread line inputs inputs' out out' status
  unread_stop line (Outside object) idle puts un = absurd idle
  unread_stop line Visits idle puts un = absurd idle
  unread_stop line (Pattern text) idle puts un = absurd idle
  unread_stop line Memory told (inl (is, put)) un = record { is_refusal = inr (inr is); put = λ one. absurd (omega (arith, is, one)); unread = un }
  unread_stop line Memory told (inr (is, short)) un = record { is_refusal = inr (inl is); put = λ one. absurd (omega (arith, is, one)); unread = un }

  unread_line : (line told : List ℕ) → told ≡ line → PutsEnd told 1 out out' status → Untouched inputs inputs' → IsUnread line inputs inputs' out out' status
  unread_line line told same (inl (is, put)) un = record { is_refusal = inl is; put = λ one. subst (λ l. Follows (adds_bytes l) out out') same put; unread = un }
  unread_line line told same (inr (is, short)) un = record { is_refusal = inr (inl is); put = λ one. absurd (omega (arith, is, one)); unread = un }

  unread : (line : List ℕ) → ((kept : Shown (List (List ℕ))) (result : Result Work Failure) → Prepared words moment inputs inputs' pats kept result → OnlyRefused line result × Untouched inputs inputs') → CalledHere → IsUnread line inputs inputs' out out' status × Untouched site site'
  unread line only (not_prepared {failure = Refused told} p un puts) = (unread_line line told (only pats' (Err (Refused told)) p).0 puts (only pats' (Err (Refused told)) p).1, un)
  unread line only (not_prepared {failure = Stopped stop} p un puts) = (unread_stop line stop (only pats' (Err (Stopped stop)) p).0 puts (only pats' (Err (Stopped stop)) p).1, un)
  unread line only (ended {work = work} by p performed is) = absurd (only pats (Ok work) p).0
  unread line only (stopped_at_work {work = work} stop mid p performed puts) = absurd (only pats (Ok work) p).0

  pub words_refused : CalledHere → asked words ≡ None → IsUnread words_line inputs inputs' out out' status × Untouched site site'
  words_refused called none = unread words_line (λ kept result p. p.words_refused none) called

  pub moment_refused : CalledHere → asked words ≢ None → LAST_MOMENT < moment → IsUnread moment_line inputs inputs' out out' status × Untouched site site'
  moment_refused called some late = unread moment_line (λ kept result p. p.moment_refused some late) called

  not_done : IsStop status → IsNotDone status
  not_done (inl is) = inl (inr (inl is))
  not_done (inr (inl is)) = inl (inr (inr is))
  not_done (inr (inr is)) = inr is

  taken_refused : TakenIsNotRefused → (work : Work) → IsAsked words moment inputs.told work → (lib : Library) → inputs.told ≡ Some lib → AsksRefused words lib.texts → ⊥
  taken_refused never work a lib told r =
      let same : r.0 ≡ a.request = one_some (r.1) a.asked_is in
      never lib.texts moment a.request (task_of work) r.2.0 (taken_at inputs.told lib moment a.request work told a.is_work.taken) (subst (λ (q : Request). RefusesRequest lib.texts q r.2.0) same r.2.1)

  pub request_refused : TakenIsNotRefused → CalledHere → IfSome inputs.told (λ lib. AsksRefused words lib.texts → IsNotDone status × Untouched site site')
  request_refused never (not_prepared {failure = Refused line} p un (inl (is, put))) = each_some inputs.told _ (λ lib told r. (inl (inl is), un))
  request_refused never (not_prepared {failure = Refused line} p un (inr (is, short))) = each_some inputs.told _ (λ lib told r. (inl (inr (inl is)), un))
  request_refused never (not_prepared {failure = Stopped stop} p un puts) = each_some inputs.told _ (λ lib told r. (not_done (stop_is stop out out' status puts), un))
  request_refused never (ended {work = work} by p performed is) = each_some inputs.told _ (λ lib told r. absurd (taken_refused never work p.work lib told r))
  request_refused never (stopped_at_work {work = work} stop mid p performed puts) = each_some inputs.told _ (λ lib told r. absurd (taken_refused never work p.work lib told r))

  pub failed : CalledHere → status ≡ 2 → AsksRun words
  failed (not_prepared {failure = Refused line} p un (inl (is, put))) two = absurd (omega (arith, is, two))
  failed (not_prepared {failure = Refused line} p un (inr (is, short))) two = absurd (omega (arith, is, two))
  failed (not_prepared {failure = Stopped stop} p un puts) two = absurd (no_end status (stop_is stop out out' status puts) (inr (inr (inl two))))
  failed (ended {work = work} by p performed is) two = asks_run words moment inputs.told work p.work (failed_runs moment site site' out out' pats pats' work by performed (sym is ∙ two))
  failed (stopped_at_work stop mid p performed puts) two = absurd (no_end status (stop_is stop mid out' status puts) (inr (inr (inl two))))

  three_is_end : status ≡ 3 → IsEnd status
  three_is_end three = inr (inr (inr three))

  pub conflict : CalledHere → status ≡ 3 → AsksToObey words × Untouched site site'
  conflict (not_prepared {failure = Refused line} p un (inl (is, put))) three = absurd (omega (arith, is, three))
  conflict (not_prepared {failure = Refused line} p un (inr (is, short))) three = absurd (omega (arith, is, three))
  conflict (not_prepared {failure = Stopped stop} p un puts) three = absurd (no_end status (stop_is stop out out' status puts) (three_is_end three))
  conflict (stopped_at_work stop mid p performed puts) three = absurd (no_end status (stop_is stop mid out' status puts) (three_is_end three))
  conflict (ended {work = work} by p performed is) three =
      let found : Obeys work × Untouched site site' = obeys_conflict moment site site' out out' pats pats' work by performed (sym is ∙ three) in
      (asks_to_obey words moment inputs.told work p.work found.0, found.1)

  pub conflict_put : CalledHere → status ≡ 3 → IfSome inputs.told (λ lib. (w : World) (marks : List Mark) → Puts (Does words moment lib.texts w marks) out out' status)
  conflict_put (not_prepared {failure = Refused line} p un (inl (is, put))) three = absurd (omega (arith, is, three))
  conflict_put (not_prepared {failure = Refused line} p un (inr (is, short))) three = absurd (omega (arith, is, three))
  conflict_put (not_prepared {failure = Stopped stop} p un puts) three = absurd (no_end status (stop_is stop out out' status puts) (three_is_end three))
  conflict_put (stopped_at_work stop mid p performed puts) three = absurd (no_end status (stop_is stop mid out' status puts) (three_is_end three))
  conflict_put (ended {work = work} by p performed is) three = some_weaker inputs.told _ _ (λ lib told taken.
      work_puts words moment lib p.work.request p.work.asked_is p.work.in_time site site' out out' pats pats' work by status is performed taken (λ _. sym is ∙ three)) p.work.is_work.taken

  -- ---- a strict run of a policy that isn't accepted

  -- no run was made
  unaccepted_not_made : OneSetting → (order : PolicyRun) (a : IsAsked words moment inputs.told (Run order)) → MayRun order.strict (analysis_of (setting_in order.policy)) →
      (lib : Library) → TakesRequest lib.texts moment a.request (task_of (Run order)) → AsksUnaccepted words moment lib.texts → ⊥
  unaccepted_not_made one order a may lib taken u =
      let here : TakesRequest lib.texts moment u.asks.request (task_of (Run order)) = subst (λ (q : Request). TakesRequest lib.texts moment q (task_of (Run order))) (one_some a.asked_is u.asks.asked_is) taken in
      let strict : order.strict ≡ true = one_strictness lib.texts moment u.asks.request (setting_in order.policy) u.setting order.locks u.has_locks order.strict true here u.asks.takes in
      let same : setting_in order.policy ≡ u.setting = one lib.texts moment u.asks.request (setting_in order.policy) u.setting order.locks u.has_locks order.strict true here u.asks.takes in
      made_accepted order.strict (analysis_of (setting_in order.policy)) strict may (subst (λ (s : Setting). IsUnaccepted (analysis_of s)) (sym same) u.unaccepted)

  untouched_unaccepted : OneSetting → (work : Work) (mid : Shown (List ℕ)) (result : Result End Stop) → IsAsked words moment inputs.told work → Performed work moment site site' out mid pats pats' result →
      (lib : Library) → inputs.told ≡ Some lib → AsksUnaccepted words moment lib.texts → Untouched site site'
  untouched_unaccepted one (Run order) mid result a (made may q) lib told u = absurd (unaccepted_not_made one order a may lib (taken_at inputs.told lib moment a.request (Run order) told a.is_work.taken) u)
  untouched_unaccepted one (Run order) mid result a (not_made obeyed q) lib told u = q.site_is
  untouched_unaccepted one (Judge policy) mid result a q lib told u = q.site_is
  untouched_unaccepted one (Search policy) mid result a q lib told u = q.site_is
  untouched_unaccepted one (Show text) mid result a q lib told u = q.site_is

  pub unaccepted : OneSetting → CalledHere → IfSome inputs.told (λ lib. AsksUnaccepted words moment lib.texts → Untouched site site')
  unaccepted one (not_prepared p un puts) = each_some inputs.told _ (λ lib told u. un)
  unaccepted one (ended {work = work} by p performed is) = each_some inputs.told _ (λ lib told u. untouched_unaccepted one work out' (Ok by) p.work performed lib told u)
  unaccepted one (stopped_at_work {work = work} stop mid p performed puts) = each_some inputs.told _ (λ lib told u. untouched_unaccepted one work mid (Err stop) p.work performed lib told u)

  -- ---- by an object of the outside

  abbrev StopsOutside : Type 0
  StopsOutside = HasFault out out' ⊎ (StopsReading words inputs inputs' site site' out out' ⊎ StopsAtSite words site site' out')

  stopped_reading : (stop : Stop) → Prepared words moment inputs inputs' pats pats' (Err (Stopped stop)) → Untouched site site' → PutsStop (stop_line stop) (status_of_stop stop) out out' status → status ≡ 4 → StopsOutside
  stopped_reading (Outside Inputs) p un (inl (is, put)) four = inr (inl (record { failed = p.inputs_are; untouched = un; put = put }))
  stopped_reading (Outside Inputs) p un (inr (is, short)) four = inl short.failed.rose
  stopped_reading (Outside Site) p un puts four = absurd p.inputs_are
  stopped_reading (Outside Sink) p un puts four = absurd p.inputs_are
  stopped_reading Memory p un (inl (is, put)) four = absurd (omega (arith, is, four))
  stopped_reading Memory p un (inr (is, short)) four = inl short.failed.rose
  stopped_reading Visits p un puts four = absurd p.inputs_are
  stopped_reading (Pattern text) p un (inl (is, put)) four = absurd (omega (arith, is, four))
  stopped_reading (Pattern text) p un (inr (is, short)) four = inl short.failed.rose

  stopped_working : (stop : Stop) (mid : Shown (List ℕ)) → StopsRun site site' out mid stop → (IsOfSite stop → AsksRun words) → PutsStop (stop_line stop) (status_of_stop stop) mid out' status → status ≡ 4 → StopsOutside
  stopped_working (Outside Inputs) mid idle asks puts four = absurd idle
  stopped_working (Outside Site) mid (rose, same) asks (inl (is, put)) four = inr (inr (record { asks_run = asks tt; rose = rose; put = (mid, put) }))
  stopped_working (Outside Site) mid (rose, same) asks (inr (is, short)) four = inl (fault_along out mid out' same short.failed.rose)
  stopped_working (Outside Sink) mid fault asks puts four = inl (fault_before out mid out' fault (ap (λ (s : Shown (List ℕ)). s.faults) puts.1))
  stopped_working Memory mid same asks (inl (is, put)) four = absurd (omega (arith, is, four))
  stopped_working Memory mid same asks (inr (is, short)) four = inl (fault_along out mid out' same short.failed.rose)
  stopped_working Visits mid same asks (inl (is, put)) four = absurd (omega (arith, is, four))
  stopped_working Visits mid same asks (inr (is, short)) four = inl (fault_along out mid out' same short.failed.rose)
  stopped_working (Pattern text) mid same asks (inl (is, put)) four = absurd (omega (arith, is, four))
  stopped_working (Pattern text) mid same asks (inr (is, short)) four = inl (fault_along out mid out' same short.failed.rose)

  -- what is stopped by the site is a run
  asks_by_site : (work : Work) (stop : Stop) (mid : Shown (List ℕ)) → Prepared words moment inputs inputs' pats pats (Ok work) → Performed work moment site site' out mid pats pats' (Err stop) → IsOfSite stop → AsksRun words
  asks_by_site work stop mid p performed of_site = asks_run words moment inputs.told work p.work (runs_by_site moment site site' out mid pats pats' work stop performed of_site)

  pub outside : CalledHere → status ≡ 4 → StopsOutside
  outside (not_prepared {failure = Refused line} p un (inl (is, put))) four = absurd (omega (arith, is, four))
  outside (not_prepared {failure = Refused line} p un (inr (is, short))) four = inl short.failed.rose
  outside (not_prepared {failure = Stopped stop} p un puts) four = stopped_reading stop p un puts four
  outside (ended by p performed is) four = absurd (no_end status (inl four) (is_end by status is))
  outside (stopped_at_work {work = work} stop mid p performed puts) four =
      stopped_working stop mid (work_stop moment site site' out mid pats pats' work stop performed) (asks_by_site work stop mid p performed) puts four

  abbrev ReadsHere : Type 0
  ReadsHere = ReadsInTurn words inputs inputs' status

  read_by : (stop : Stop) → Prepared words moment inputs inputs' pats pats' (Err (Stopped stop)) → PutsStop (stop_line stop) (status_of_stop stop) out out' status → ReadsHere
  read_by (Outside Inputs) p (inl (is, put)) = inr (inr (is, p.inputs_are))
  read_by (Outside Inputs) p (inr (is, short)) = inr (inr (is, p.inputs_are))
  read_by (Outside Site) p puts = absurd p.inputs_are
  read_by (Outside Sink) p puts = absurd p.inputs_are
  read_by Memory p (inl (is, put)) = inr (inl (inr is, p.inputs_are))
  read_by Memory p (inr (is, short)) = inr (inl (inl is, p.inputs_are))
  read_by Visits p puts = absurd p.inputs_are
  read_by (Pattern text) p puts = inl p.inputs_are

  pub names : CalledHere → ReadsHere
  names (not_prepared {failure = Refused line} p un puts) = inl p.inputs_are
  names (not_prepared {failure = Stopped stop} p un puts) = read_by stop p puts
  names (ended by p performed is) = inl p.inputs_are
  names (stopped_at_work stop mid p performed puts) = inl p.inputs_are

  -- a reading that failed, or may have, stopped the call
  whole : ReadsHere → IsEnd status → Untouched inputs inputs'
  whole (inl un) end = un
  whole (inr (inl (inl four, left))) end = absurd (no_end status (inl four) end)
  whole (inr (inl (inr five, left))) end = absurd (no_end status (inr (inl five)) end)
  whole (inr (inr (four, failed))) end = absurd (no_end status (inl four) end)

  pub read_whole : CalledHere → IsEnd status → Untouched inputs inputs'
  read_whole called end = whole (names called) end

  -- ---- by want of memory

  memory_put : (stop : Stop) (mid : Shown (List ℕ)) → PutsStop (stop_line stop) (status_of_stop stop) mid out' status → status ≡ 5 → Follows (adds_bytes memory_line) mid out'
  memory_put (Outside Inputs) mid (inl (is, put)) five = absurd (omega (arith, is, five))
  memory_put (Outside Inputs) mid (inr (is, short)) five = absurd (omega (arith, is, five))
  memory_put (Outside Site) mid (inl (is, put)) five = absurd (omega (arith, is, five))
  memory_put (Outside Site) mid (inr (is, short)) five = absurd (omega (arith, is, five))
  memory_put (Outside Sink) mid (is, un) five = absurd (omega (arith, is, five))
  memory_put Memory mid (inl (is, put)) five = put
  memory_put Memory mid (inr (is, short)) five = absurd (omega (arith, is, five))
  memory_put Visits mid (inl (is, put)) five = absurd (omega (arith, is, five))
  memory_put Visits mid (inr (is, short)) five = absurd (omega (arith, is, five))
  memory_put (Pattern text) mid (inl (is, put)) five = absurd (omega (arith, is, five))
  memory_put (Pattern text) mid (inr (is, short)) five = absurd (omega (arith, is, five))

  five_is_no_sink : (stop : Stop) (mid : Shown (List ℕ)) → PutsStop (stop_line stop) (status_of_stop stop) mid out' status → status ≡ 5 → IsNoSink stop
  five_is_no_sink (Outside Inputs) mid puts five = tt
  five_is_no_sink (Outside Site) mid puts five = tt
  five_is_no_sink (Outside Sink) mid (is, un) five = absurd (omega (arith, is, five))
  five_is_no_sink Memory mid puts five = tt
  five_is_no_sink Visits mid puts five = tt
  five_is_no_sink (Pattern text) mid puts five = tt

  pub memory : CalledHere → status ≡ 5 → AsksNoRun words → Follows (adds_bytes memory_line) out out'
  memory (not_prepared {failure = Refused line} p un (inl (is, put))) five idle = absurd (omega (arith, is, five))
  memory (not_prepared {failure = Refused line} p un (inr (is, short))) five idle = absurd (omega (arith, is, five))
  memory (not_prepared {failure = Stopped stop} p un puts) five idle = memory_put stop out puts five
  memory (ended by p performed is) five idle = absurd (no_end status (inr (inl five)) (is_end by status is))
  memory (stopped_at_work {work = work} stop mid p performed puts) five idle = along memory_line out mid out'
      (untouched_at_stop moment site site' out mid pats pats' work stop performed (no_run words moment inputs.told work p.work idle) (five_is_no_sink stop mid puts five))
      (memory_put stop mid puts five)

  pub memory_told : CalledHere → status ≡ 5 → PutsLast memory_line out'
  memory_told (not_prepared {failure = Refused line} p un (inl (is, put))) five = absurd (omega (arith, is, five))
  memory_told (not_prepared {failure = Refused line} p un (inr (is, short))) five = absurd (omega (arith, is, five))
  memory_told (not_prepared {failure = Stopped stop} p un puts) five = (out, memory_put stop out puts five)
  memory_told (ended by p performed is) five = absurd (no_end status (inr (inl five)) (is_end by status is))
  memory_told (stopped_at_work stop mid p performed puts) five = (mid, memory_put stop mid puts five)

  -- ---- by a limit

  abbrev StopsAtLimit : Type 0
  StopsAtLimit =
      StopsAtPattern words moment inputs.told site site' out out' pats pats' ⊎
      StopsAtVisits words moment inputs.told site site' out out' pats pats'

  refused_reading : (text : List ℕ) → Prepared words moment inputs inputs' pats pats' (Err (Stopped (Pattern text))) → Untouched site site' → RefusesBefore words moment inputs.told site site' pats pats'
  refused_reading text p un = record { text = text; builds = inl p.patterns_are.0; refused = p.patterns_are.1; untouched = un }

  limit_of_reading : (stop : Stop) → Prepared words moment inputs inputs' pats pats' (Err (Stopped stop)) → Untouched site site' → PutsStop (stop_line stop) (status_of_stop stop) out out' status → status ≡ 6 → StopsAtLimit
  limit_of_reading (Outside Inputs) p un (inl (is, put)) six = absurd (omega (arith, is, six))
  limit_of_reading (Outside Inputs) p un (inr (is, short)) six = absurd (omega (arith, is, six))
  limit_of_reading (Outside Site) p un puts six = absurd p.inputs_are
  limit_of_reading (Outside Sink) p un puts six = absurd p.inputs_are
  limit_of_reading Memory p un (inl (is, put)) six = absurd (omega (arith, is, six))
  limit_of_reading Memory p un (inr (is, short)) six = absurd (omega (arith, is, six))
  limit_of_reading Visits p un puts six = absurd p.inputs_are
  limit_of_reading (Pattern text) p un (inl (is, put)) six = inl (stops_before (refused_reading text p un) put)
  limit_of_reading (Pattern text) p un (inr (is, short)) six = absurd (omega (arith, is, six))

  abbrev StopsHere : Work → Stop → Shown (List ℕ) → Type 0
  StopsHere work stop mid = Performed work moment site site' out mid pats pats' (Err stop)

  -- the words ask for what is done, and in time
  taken_run : (order : PolicyRun) (a : IsAsked words moment inputs.told (Run order)) (lib : Library) → TakesRequest lib.texts moment a.request (task_of (Run order)) → AsksTaken words moment lib.texts
  taken_run order a lib taken = (a.in_time, (task_of (Run order), asked_task words moment inputs.told (Run order) a lib taken))

  makes_run : OneSetting → (order : PolicyRun) → IsAsked words moment inputs.told (Run order) → MayRun order.strict (analysis_of (setting_in order.policy)) → MakesRun words moment inputs.told
  makes_run one order a may = (
    asks_run words moment inputs.told (Run order) a tt,
    some_weaker inputs.told _ _ (λ lib told taken. (
      asks_run words moment inputs.told (Run order) a tt,
      taken_run order a lib taken,
      unaccepted_not_made one order a may lib taken,
    )) a.is_work.taken,
  )

  -- ---- work that makes no run

  abbrev ToPut : List ℕ → Type 0
  ToPut = IsToPut words moment inputs inputs' site site' pats pats'

  -- what its stop left of the sink, and the cause of a limit
  abbrev TellsShort : Shown (List ℕ) → Stop → Type 0
  TellsShort mid (Outside Inputs) = ⊥
  TellsShort mid (Outside Site) = ⊥
  TellsShort mid (Outside Sink) = FallsShort ToPut out mid
  TellsShort mid Memory = Untouched out mid
  TellsShort mid Visits = AsksToObey words × IfSome inputs.told (λ lib. AnalysesTooMany words moment lib.texts) × Untouched out mid
  TellsShort mid (Pattern text) = RefusesBefore words moment inputs.told site site' pats pats' × Untouched out mid

  -- the words ask for work that does this
  to_put : (work : Work) → IsAsked words moment inputs.told work → (done : Done) → ((w : World) (marks : List Mark) → DoesTask (task_of work) moment w marks done) → (text : List ℕ) → text ≡ all_lines done.steps → ToPut text
  to_put work a done does text is = of_work (some_weaker inputs.told _ _ (λ lib told taken w marks. (
    done,
    calls.work_done (task_of work) a.asked_is a.in_time taken (does w marks),
    is,
  )) a.is_work.taken)

  too_many_of : (work : Work) → IsAsked words moment inputs.told work → (setting : Setting) → ObeysAnalysis (task_of work) setting → NeedsManyVisits (task_of work) setting → IfSome inputs.told (λ lib. AnalysesTooMany words moment lib.texts)
  too_many_of work a setting obeys many = some_weaker inputs.told _ _ (λ lib told taken. record {
    task = task_of work;
    setting = setting;
    asks = asked_task words moment inputs.told work a lib taken;
    in_time = a.in_time;
    obeys = obeys;
    too_large = many;
  }) a.is_work.taken

  refused_of : (work : Work) (text : List ℕ) → IsAsked words moment inputs.told work → AsksAnalysis words → (setting : Setting) → IsAnalysedIn (task_of work) setting → IsBuiltFor (task_of work) setting text →
      HasFailed (refuses text) pats pats' → Untouched site site' → RefusesBefore words moment inputs.told site site' pats pats'
  refused_of work text a asks setting analysed built refused un = record {
    text = text;
    builds = inr (
      asks,
      some_weaker inputs.told _ _ (λ lib told taken. record {
        task = task_of work;
        setting = setting;
        asks = asked_task words moment inputs.told work a lib taken;
        analysed = analysed;
        built = built;
      }) a.is_work.taken,
    );
    refused = refused;
    untouched = un;
  }

  not_made_short : (order : PolicyRun) (stop : Stop) (mid : Shown (List ℕ)) → IsAsked words moment inputs.told (Run order) → IsObeyed order.strict (analysis_of (setting_in order.policy)) (Err stop) →
      OnlyJudged (setting_in order.policy) site site' out mid pats pats' (Err stop) → TellsShort mid stop
  not_made_short order (Outside Inputs) mid a obeyed q = absurd q.judged.stopped
  not_made_short order (Outside Site) mid a obeyed q = absurd q.judged.stopped
  not_made_short order (Outside Sink) mid a obeyed q =
      let verdict = analysis_of (setting_in order.policy) in
      let short = q.judged.stopped in
      let conflict = obeyed.short refl in
      (short.0, to_put (Run order) a (judged_by verdict) (λ w marks. does_judged order.strict (setting_in order.policy) order.locks moment w marks conflict.0 conflict.1) short.0 (line_judged verdict short.0 short.1), short.2)
  not_made_short order Memory mid a obeyed q = q.judged.stopped
  not_made_short order Visits mid a obeyed q = (
    asks_to_obey words moment inputs.told (Run order) a (obeyed.too_large refl),
    too_many_of (Run order) a (setting_in order.policy) (obeys_strict order.strict (setting_in order.policy) order.locks (obeyed.too_large refl)) (q.judged.too_large refl),
    q.judged.stopped,
  )
  not_made_short order (Pattern text) mid a obeyed q = (
    refused_of (Run order) text a (a.request, a.asked_is, run_analysed a.request (a.is_work.runs tt)) (setting_in order.policy) refl q.judged.built q.judged.patterns_are q.site_is,
    q.judged.stopped,
  )

  judged_short : (policy : PolicyInContext) (stop : Stop) (mid : Shown (List ℕ)) → IsAsked words moment inputs.told (Judge policy) →
      OnlyJudged (setting_in policy) site site' out mid pats pats' (Err stop) → TellsShort mid stop
  judged_short policy (Outside Inputs) mid a q = absurd q.judged.stopped
  judged_short policy (Outside Site) mid a q = absurd q.judged.stopped
  judged_short policy (Outside Sink) mid a q =
      let verdict = analysis_of (setting_in policy) in
      let short = q.judged.stopped in
      (short.0, to_put (Judge policy) a (judged_by verdict) (λ w marks. judges_line verdict short.0 short.1) short.0 (line_judged verdict short.0 short.1), short.2)
  judged_short policy Memory mid a q = q.judged.stopped
  judged_short policy Visits mid a q = (
    asks_to_obey words moment inputs.told (Judge policy) a tt,
    too_many_of (Judge policy) a (setting_in policy) refl (q.judged.too_large refl),
    q.judged.stopped,
  )
  judged_short policy (Pattern text) mid a q = (
    refused_of (Judge policy) text a (a.request, a.asked_is, obeying_analysed a.request (a.is_work.obeys tt)) (setting_in policy) refl q.judged.built q.judged.patterns_are q.site_is,
    q.judged.stopped,
  )

  searched_short : (policy : PolicyInContext) (stop : Stop) (mid : Shown (List ℕ)) → IsAsked words moment inputs.told (Search policy) →
      OnlySearched (setting_in policy) site site' out mid pats pats' (Err stop) → TellsShort mid stop
  searched_short policy (Outside Inputs) mid a q = absurd q.searched.stopped
  searched_short policy (Outside Site) mid a q = absurd q.searched.stopped
  searched_short policy (Outside Sink) mid a q =
      let short = q.searched.stopped in
      let does = search_text_done (setting_in policy) (run (setting_in policy) open_walk) short.0 short.1 in
      (short.0, to_put (Search policy) a does.0 (λ w marks. does.1) short.0 does.2, short.2)
  searched_short policy Memory mid a q = q.searched.stopped
  searched_short policy Visits mid a q = (
    asks_to_obey words moment inputs.told (Search policy) a tt,
    too_many_of (Search policy) a (setting_in policy) refl (q.searched.too_large refl),
    q.searched.stopped,
  )
  searched_short policy (Pattern text) mid a q = (
    refused_of (Search policy) text a (a.request, a.asked_is, obeying_analysed a.request (a.is_work.obeys tt)) (setting_in policy) refl q.searched.built q.searched.patterns_are q.site_is,
    q.searched.stopped,
  )

  shown_short : (text : List ℕ) (stop : Stop) (mid : Shown (List ℕ)) → IsAsked words moment inputs.told (Show text) → OnlyPut text site site' out mid pats pats' (Err stop) → TellsShort mid stop
  shown_short text stop mid a q = subst (TellsShort mid) (sym q.puts.sink_failed.0) (text, to_put (Show text) a (calls.shown text) (λ w marks. refl) text (sym (append-nil text)), q.puts.sink_failed.1)

  -- where no run is made
  work_short : OneSetting → (work : Work) (stop : Stop) (mid : Shown (List ℕ)) → IsAsked words moment inputs.told work → StopsHere work stop mid → MakesRun words moment inputs.told ⊎ TellsShort mid stop
  work_short one (Run order) stop mid a (made may q) = inl (makes_run one order a may)
  work_short one (Run order) stop mid a (not_made obeyed q) = inr (not_made_short order stop mid a obeyed q)
  work_short one (Judge policy) stop mid a q = inr (judged_short policy stop mid a q)
  work_short one (Search policy) stop mid a q = inr (searched_short policy stop mid a q)
  work_short one (Show text) stop mid a q = inr (shown_short text stop mid a q)

  -- ---- a put that fails where no run is made

  abbrev PutsInPart : Type 0
  PutsInPart = MakesRun words moment inputs.told ⊎ (StopsReading words inputs inputs' site site' out out' ⊎ FallsShort ToPut out out')

  -- the line of a stop, before which nothing was put
  line_short : (line : List ℕ) (mid : Shown (List ℕ)) → ToPut line → Untouched out mid → PutsShort line mid out' → FallsShort ToPut out out'
  line_short line mid is un short = (line, is, subst (λ (s : Shown (List ℕ)). PutsShort line s out') un short)

  short_at_work : (stop : Stop) (mid : Shown (List ℕ)) → TellsShort mid stop → PutsStop (stop_line stop) (status_of_stop stop) mid out' status → status ≡ 4 → FallsShort ToPut out out'
  short_at_work (Outside Inputs) mid tells puts four = absurd tells
  short_at_work (Outside Site) mid tells puts four = absurd tells
  short_at_work (Outside Sink) mid tells (is, un) four = subst (FallsShort ToPut out) (sym un) tells
  short_at_work Memory mid tells (inl (is, put)) four = absurd (omega (arith, is, four))
  short_at_work Memory mid tells (inr (is, short)) four = line_short memory_line mid of_memory tells short
  short_at_work Visits mid tells (inl (is, put)) four = absurd (omega (arith, is, four))
  short_at_work Visits mid tells (inr (is, short)) four = line_short visits_line mid (of_visits tells.0 tells.1) tells.2 short
  short_at_work (Pattern text) mid tells (inl (is, put)) four = absurd (omega (arith, is, four))
  short_at_work (Pattern text) mid tells (inr (is, short)) four = line_short pattern_line mid (of_pattern tells.0) tells.1 short

  short_reading : (stop : Stop) → Prepared words moment inputs inputs' pats pats' (Err (Stopped stop)) → Untouched site site' → PutsStop (stop_line stop) (status_of_stop stop) out out' status → status ≡ 4 → PutsInPart
  short_reading (Outside Inputs) p un (inl (is, put)) four = inr (inl (record { failed = p.inputs_are; untouched = un; put = put }))
  short_reading (Outside Inputs) p un (inr (is, short)) four = inr (inr (outside_line, of_reading p.inputs_are, short))
  short_reading (Outside Site) p un puts four = absurd p.inputs_are
  short_reading (Outside Sink) p un puts four = absurd p.inputs_are
  short_reading Memory p un (inl (is, put)) four = absurd (omega (arith, is, four))
  short_reading Memory p un (inr (is, short)) four = inr (inr (memory_line, of_memory, short))
  short_reading Visits p un puts four = absurd p.inputs_are
  short_reading (Pattern text) p un (inl (is, put)) four = absurd (omega (arith, is, four))
  short_reading (Pattern text) p un (inr (is, short)) four = inr (inr (pattern_line, of_pattern (refused_reading text p un), short))

  short_working : (stop : Stop) (mid : Shown (List ℕ)) → MakesRun words moment inputs.told ⊎ TellsShort mid stop → PutsStop (stop_line stop) (status_of_stop stop) mid out' status → status ≡ 4 → PutsInPart
  short_working stop mid (inl makes) puts four = inl makes
  short_working stop mid (inr tells) puts four = inr (inr (short_at_work stop mid tells puts four))

  pub put_short : OneSetting → CalledHere → status ≡ 4 → PutsInPart
  put_short one (not_prepared {failure = Refused line} p un (inl (is, put))) four = absurd (omega (arith, is, four))
  put_short one (not_prepared {failure = Refused line} p un (inr (is, short))) four = inr (inr (line, of_refusal p.refused, short))
  put_short one (not_prepared {failure = Stopped stop} p un puts) four = short_reading stop p un puts four
  put_short one (ended by p performed is) four = absurd (no_end status (inl four) (is_end by status is))
  put_short one (stopped_at_work {work = work} stop mid p performed puts) four = short_working stop mid (work_short one work stop mid p.work performed) puts four

  -- ---- by a limit, of work that makes no run or of a run

  by_told : (mid : Shown (List ℕ)) → TellsShort mid Visits → Untouched site site' → Untouched pats pats' → Follows (adds_bytes visits_line) mid out' → StopsAtVisits words moment inputs.told site site' out out' pats pats'
  by_told mid tells un kept put = by_analysis tells.0 tells.1 un kept (along visits_line out mid out' tells.2 put)

  limit_of_visits : OneSetting → (work : Work) (mid : Shown (List ℕ)) → Prepared words moment inputs inputs' pats pats (Ok work) → StopsHere work Visits mid → Follows (adds_bytes visits_line) mid out' →
      StopsAtVisits words moment inputs.told site site' out out' pats pats'
  limit_of_visits one (Run order) mid p (made may q) put = by_run (makes_run one order p.work may)
      (some_weaker inputs.told _ _ (λ lib told taken. both _ _ _ site site' (λ before after cut limit.
      let start = started moment order.locks before after in
      record {
        needs = record {
          setting = setting_in order.policy;
          has_locks = order.locks;
          is_strict = order.strict;
          asks = asked_task words moment inputs.told (Run order) p.work lib taken;
          in_time = p.work.in_time;
          cut_off = cut_off_by order.strict (setting_in order.policy) start (analysis_of (setting_in order.policy)) may cut;
        };
        site_is = limit.site_is;
        out_is = puts_then (text_of_lines (lines_of (setting_in order.policy) start)) visits_line out mid out' limit.out_is put;
      }) (q.too_large refl) (q.limit refl)) p.work.is_work.taken)
      q.patterns_are (mid, put)
  limit_of_visits one (Run order) mid p (not_made obeyed q) put = by_told mid (not_made_short order Visits mid p.work obeyed q) q.site_is q.judged.patterns_are put
  limit_of_visits one (Judge policy) mid p q put = by_told mid (judged_short policy Visits mid p.work q) q.site_is q.judged.patterns_are put
  limit_of_visits one (Search policy) mid p q put = by_told mid (searched_short policy Visits mid p.work q) q.site_is q.searched.patterns_are put
  limit_of_visits one (Show text) mid p q put = absurd (never_shown moment site site' out mid pats pats' text Visits q tt)

  -- the text is one that the run builds
  builds_in_run : (order : PolicyRun) (text : List ℕ) → IsAsked words moment inputs.told (Run order) →
      RunBuilds (setting_in order.policy) moment order.locks site site' (Some text) → RunBuilt words moment inputs.told site site' text
  builds_in_run order text a built = (
    asks_run words moment inputs.told (Run order) a tt,
    some_weaker inputs.told _ _ (λ lib told taken. (
      taken_run order a lib taken,
      both_weaker _ _ site site' (λ before after built. record {
        setting = setting_in order.policy;
        has_locks = order.locks;
        is_strict = order.strict;
        asks = asked_task words moment inputs.told (Run order) a lib taken;
        built = built;
      }) built,
    )) a.is_work.taken,
  )

  built_by_run : (order : PolicyRun) (text : List ℕ) (mid : Shown (List ℕ)) → IsAsked words moment inputs.told (Run order) →
      RunPerformed (setting_in order.policy) moment order.locks site site' out mid pats pats' (Err (Pattern text)) → RunBuilt words moment inputs.told site site' text
  built_by_run order text mid a q = builds_in_run order text a q.built

  -- before a run, with nothing put, or in it
  abbrev RefusedAtWork : Shown (List ℕ) → Type 0
  RefusedAtWork mid =
      (RefusesBefore words moment inputs.told site site' pats pats' × Untouched out mid) ⊎ RefusesInRun words moment inputs.told site site' pats pats'

  refused_working : (work : Work) (text : List ℕ) (mid : Shown (List ℕ)) → Prepared words moment inputs inputs' pats pats (Ok work) → StopsHere work (Pattern text) mid → RefusedAtWork mid
  refused_working (Run order) text mid p (made may q) = inr (record { text = text; builds = built_by_run order text mid p.work q; refused = q.patterns_are })
  refused_working (Run order) text mid p (not_made obeyed q) = inl (not_made_short order (Pattern text) mid p.work obeyed q)
  refused_working (Judge policy) text mid p q = inl (judged_short policy (Pattern text) mid p.work q)
  refused_working (Search policy) text mid p q = inl (searched_short policy (Pattern text) mid p.work q)
  refused_working (Show shown) text mid p q = absurd (never_shown moment site site' out mid pats pats' shown (Pattern text) q tt)

  limit_of_pattern : (mid : Shown (List ℕ)) → RefusedAtWork mid → Follows (adds_bytes pattern_line) mid out' → StopsAtPattern words moment inputs.told site site' out out' pats pats'
  limit_of_pattern mid (inl (refused, un)) put = stops_before refused (along pattern_line out mid out' un put)
  limit_of_pattern mid (inr refused) put = stops_in_run refused (mid, put)

  limit_of_work : OneSetting → (work : Work) (stop : Stop) (mid : Shown (List ℕ)) → Prepared words moment inputs inputs' pats pats (Ok work) → StopsHere work stop mid → PutsStop (stop_line stop) (status_of_stop stop) mid out' status → status ≡ 6 → StopsAtLimit
  limit_of_work one work (Outside Inputs) mid p performed (inl (is, put)) six = absurd (omega (arith, is, six))
  limit_of_work one work (Outside Inputs) mid p performed (inr (is, short)) six = absurd (omega (arith, is, six))
  limit_of_work one work (Outside Site) mid p performed (inl (is, put)) six = absurd (omega (arith, is, six))
  limit_of_work one work (Outside Site) mid p performed (inr (is, short)) six = absurd (omega (arith, is, six))
  limit_of_work one work (Outside Sink) mid p performed (is, un) six = absurd (omega (arith, is, six))
  limit_of_work one work Memory mid p performed (inl (is, put)) six = absurd (omega (arith, is, six))
  limit_of_work one work Memory mid p performed (inr (is, short)) six = absurd (omega (arith, is, six))
  limit_of_work one work Visits mid p performed (inl (is, put)) six = inr (limit_of_visits one work mid p performed put)
  limit_of_work one work Visits mid p performed (inr (is, short)) six = absurd (omega (arith, is, six))
  limit_of_work one work (Pattern text) mid p performed (inl (is, put)) six = inl (limit_of_pattern mid (refused_working work text mid p performed) put)
  limit_of_work one work (Pattern text) mid p performed (inr (is, short)) six = absurd (omega (arith, is, six))

  pub pattern_or_visits : OneSetting → CalledHere → status ≡ 6 → StopsAtLimit
  pattern_or_visits one (not_prepared {failure = Refused line} p un (inl (is, put))) six = absurd (omega (arith, is, six))
  pattern_or_visits one (not_prepared {failure = Refused line} p un (inr (is, short))) six = absurd (omega (arith, is, six))
  pattern_or_visits one (not_prepared {failure = Stopped stop} p un puts) six = limit_of_reading stop p un puts six
  pattern_or_visits one (ended by p performed is) six = absurd (no_end status (inr (inr six)) (is_end by status is))
  pattern_or_visits one (stopped_at_work {work = work} stop mid p performed puts) six = limit_of_work one work stop mid p performed puts six

  abbrev KeepsPatterns : Type 0
  KeepsPatterns = Untouched pats pats' ⊎ ((status ≡ 4) × HasFault out out' × RefusesText words moment inputs.told site site' pats pats')

  kept_reading : (stop : Stop) → Prepared words moment inputs inputs' pats pats' (Err (Stopped stop)) → Untouched site site' → PutsStop (stop_line stop) (status_of_stop stop) out out' status → status ≢ 6 → KeepsPatterns
  kept_reading (Outside object) p un puts idle = inl p.patterns_are
  kept_reading Memory p un puts idle = inl p.patterns_are
  kept_reading Visits p un puts idle = inl p.patterns_are
  kept_reading (Pattern text) p un (inl (is, put)) idle = absurd (idle is)
  kept_reading (Pattern text) p un (inr (is, short)) idle = inr (is, short.failed.rose, before_work (refused_reading text p un))

  refuses_text : (mid : Shown (List ℕ)) → RefusedAtWork mid → RefusesText words moment inputs.told site site' pats pats'
  refuses_text mid (inl (refused, un)) = before_work refused
  refuses_text mid (inr refused) = in_run refused

  -- a line of a run couldn't be put, so nothing is put behind it
  unput : (work : Work) (mid : Shown (List ℕ)) → Prepared words moment inputs inputs' pats pats (Ok work) → Performed work moment site site' out mid pats pats' (Err (Outside Sink)) →
      PutsStop (stop_line (Outside Sink)) (status_of_stop (Outside Sink)) mid out' status → RunUnput moment site site' out mid pats pats' work → KeepsPatterns
  unput (Run order) mid p performed puts (refuses_none kept) = inl kept
  unput (Run order) mid p performed puts (refuses_one text built refused) = inr (
    puts.0,
    subst (λ (o : Shown (List ℕ)). HasFault out o) (sym puts.1) (work_stop moment site site' out mid pats pats' (Run order) (Outside Sink) performed),
    in_run (record { text = text; builds = builds_in_run order text p.work built; refused = refused }),
  )
  unput (Judge policy) mid p performed puts kept = inl kept
  unput (Search policy) mid p performed puts kept = inl kept
  unput (Show text) mid p performed puts kept = inl kept

  kept_working : (work : Work) (stop : Stop) (mid : Shown (List ℕ)) → Prepared words moment inputs inputs' pats pats (Ok work) → Performed work moment site site' out mid pats pats' (Err stop) → PutsStop (stop_line stop) (status_of_stop stop) mid out' status → status ≢ 6 → KeepsPatterns
  kept_working work (Outside Inputs) mid p performed puts idle = inl (patterns_by_stop moment site site' out mid pats pats' work (Outside Inputs) performed)
  kept_working work (Outside Site) mid p performed puts idle = inl (patterns_by_stop moment site site' out mid pats pats' work (Outside Site) performed)
  kept_working work (Outside Sink) mid p performed puts idle = unput work mid p performed puts (patterns_by_stop moment site site' out mid pats pats' work (Outside Sink) performed)
  kept_working work Memory mid p performed puts idle = inl (patterns_by_stop moment site site' out mid pats pats' work Memory performed)
  kept_working work Visits mid p performed puts idle = inl (patterns_by_stop moment site site' out mid pats pats' work Visits performed)
  kept_working work (Pattern text) mid p performed (inl (is, put)) idle = absurd (idle is)
  kept_working work (Pattern text) mid p performed (inr (is, short)) idle = inr (
    is,
    fault_along out mid out' (work_stop moment site site' out mid pats pats' work (Pattern text) performed) short.failed.rose,
    refuses_text mid (refused_working work text mid p performed),
  )

  pub patterns_kept : CalledHere → status ≢ 6 → KeepsPatterns
  patterns_kept (not_prepared {failure = Refused line} p un puts) idle = inl p.patterns_are
  patterns_kept (not_prepared {failure = Stopped stop} p un puts) idle = kept_reading stop p un puts idle
  patterns_kept (ended {work = work} by p performed is) idle = inl (patterns_at_end moment site site' out out' pats pats' work by performed)
  patterns_kept (stopped_at_work {work = work} stop mid p performed puts) idle = kept_working work stop mid p performed puts idle
