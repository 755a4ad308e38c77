-- What the last line of a run tells of the world that it left, and what a call does that nothing hinders.
use Rattle.std.proofs.Common.{◌≡◌, ◌⊎◌, inl, inr, ℕ, Bool, List, Some, None, Option, Ok, IfSome, refl, subst, arith}
use Rattle.cfa_base.specs.lemmas.Options.{some_weaker, each_some, some_at, one_some}
use Rattle.cfa_base.specs.Shown.{Shown, Follows}
use Rattle.cfa_words.specs.declared.words.Request.{Request}
use Rattle.cfa_words.specs.declared.words.Request.TheVariants as request
use Rattle.cfa_outside.specs.Inputs.{Library}
use Rattle.cfa_outside.specs.Sinks.{adds_bytes}
use Rattle.cfa_outside.specs.Sites.{Told}
use Rattle.cfa_output.specs.declared.ends.Failure.TheVariants.{Refused, Stopped}
use Rattle.cfa_output.specs.declared.items.End.TheVariants.{Yes}
use Rattle.cfa_output.specs.Lines.{settled_line}
use Rattle.cfa_sources.specs.Sources.{Texts}
use Rattle.cfa_states.specs.Views.{Setting}
use Rattle.cfa_conflict.specs.declared.verdicts.Verdict.{Verdict}
use Rattle.cfa_conflict.specs.declared.verdicts.Verdict.TheVariants.{Accepted, Conflict as InConflictBy}
use Rattle.cfa_conflict.specs.Conflicts.{code_of}
use Rattle.cfa_conflict.specs.Analyses.{analysis_of, ConflictsMeet}
use Rattle.cfa_agent.specs.Runs.{tally_of}
use Rattle.cfa_agent.specs.Ran.{started, IfBothTold, text_of}
use Rattle.cfa_convergence.specs.Settled.{Settles}
use Rattle.cfa_main.specs.declared.ends.End.{End}
use Rattle.cfa_main.specs.declared.work.Work.TheVariants.{Run, Judge, Search, Show}
use Rattle.cfa_main.specs.Calls.{runs, judges, searches, shows, TakesRequest, RefusesRequest, TakenIsNotRefused, RunsIn, ran, settled_by}
use Rattle.cfa_main.specs.Done.{IsDone, HasFault, status_of}
use Rattle.cfa_main.specs.Ends.{IsEnd, IsStop, AsksTaken, RefusesCall, of_words, of_moment, of_request, StopsReading, StopsAtSite, StopsAtPattern, stops_before, stops_in_run, StopsAtVisits, by_analysis, by_run, EndsWith, IsSettledBy, IsUnhindered, IsDoneOrMemory}
use Rattle.cfa_main.specs.Stages.{setting_in, task_of, OneSetting, TellsVerdict, IsInConflict, RunPerformed, PolicyRan, not_made, made, Called, not_prepared, ended, stopped_at_work}
use Rattle.cfa_main.proofs.CallLemmas as calls
use Rattle.cfa_main.proofs.CallLemmas.{no_end, stop_is}
use Rattle.cfa_main.proofs.EndLemmas.{put_behind, settled_by_line, moment_ends_otherwise, conflict_ends_otherwise}
use Rattle.cfa_main.proofs.PrepareLemmas.{none_or_some}
use Rattle.cfa_main.proofs.Told.{both, both_weaker, each_both}

-- what is run is neither judged nor searched nor shown
run_not_judged : (texts : Texts) (moment : ℕ) (request : Request) (s t : Setting) (l m : Bool) → TakesRequest texts moment request (runs s l m) → TakesRequest texts moment request (judges t) → ⊥
run_not_judged texts moment (request.Run policy options) s t l m r j = j
run_not_judged texts moment (request.Show policy) s t l m r j = r
run_not_judged texts moment (request.Check policy classes) s t l m r j = r
run_not_judged texts moment (request.Audit journal) s t l m r j = r
run_not_judged texts moment (request.Edits policy classes) s t l m r j = r
run_not_judged texts moment (request.History journal) s t l m r j = r

run_not_searched : (texts : Texts) (moment : ℕ) (request : Request) (s t : Setting) (l m : Bool) → TakesRequest texts moment request (runs s l m) → TakesRequest texts moment request (searches t) → ⊥
run_not_searched texts moment (request.Run policy options) s t l m r j = j
run_not_searched texts moment (request.Show policy) s t l m r j = r
run_not_searched texts moment (request.Check policy classes) s t l m r j = r
run_not_searched texts moment (request.Audit journal) s t l m r j = r
run_not_searched texts moment (request.Edits policy classes) s t l m r j = r
run_not_searched texts moment (request.History journal) s t l m r j = r

run_not_shown : (texts : Texts) (moment : ℕ) (request : Request) (s : Setting) (text : List ℕ) (l m : Bool) → TakesRequest texts moment request (runs s l m) → TakesRequest texts moment request (shows text) → ⊥
run_not_shown texts moment (request.Run policy options) s text l m r j = j
run_not_shown texts moment (request.Show policy) s text l m r j = r
run_not_shown texts moment (request.Check policy classes) s text l m r j = r
run_not_shown texts moment (request.Audit journal) s text l m r j = r
run_not_shown texts moment (request.Edits policy classes) s text l m r j = r
run_not_shown texts moment (request.History journal) s text l m r j = r

module _ (words : List (List ℕ)) (moment : ℕ) (inputs inputs' : Shown Library) (site site' : Shown Told) (out out' : Shown (List ℕ)) (pats pats' : Shown (List (List ℕ))) (status : ℕ) where
  abbrev CalledHere : Type 0
  CalledHere = Called words moment inputs inputs' site site' out out' pats pats' status

  -- ---- settled

  -- a call that was refused ran nothing, and ended with another line
  refused_not_run : TakenIsNotRefused → (line bytes : List ℕ) (lib : Library) (setting : Setting) → RefusesCall words moment inputs.told line → Follows (adds_bytes line) out out' →
      out'.told ≡ Some bytes → EndsWith (settled_line Yes) bytes → inputs.told ≡ Some lib → RunsIn words moment lib.texts setting → ⊥
  refused_not_run never _ bytes lib setting (of_words none) put told ends lib_told r = none_or_some none r.asks.asked_is
  refused_not_run never _ bytes lib setting (of_moment asks late) put told ends lib_told r =
      let before = put_behind _ bytes out out' put told in
      moment_ends_otherwise bytes ends before.0 before.1
  refused_not_run never _ bytes lib setting (of_request {request = q} {line = line} asks in_time refuses) put told ends lib_told r =
      never lib.texts moment r.asks.request (runs setting r.has_locks r.is_strict) line r.asks.takes
      (subst (λ (x : Request). RefusesRequest lib.texts x line) (one_some asks r.asks.asked_is) (some_at inputs.told lib (λ l. RefusesRequest l.texts q line) lib_told refuses))

  -- a run that was made
  made_settles : (setting : Setting) (locks : Bool) (end : End) (bytes : List ℕ) → RunPerformed setting moment locks site site' out out' pats pats' (Ok end) →
      out'.told ≡ Some bytes → EndsWith (settled_line Yes) bytes → IfBothTold (λ before after. Settles setting after.world) site site'
  made_settles setting locks end bytes p told ends = both _ _ _ site site' (λ before after d settles. settles (yes before after d)) p.done p.settles where
    yes : (before after : Told) → IsDone (ran setting (started moment locks before after) (analysis_of setting)) before after out out' (status_of end) →
        settled_by locks (tally_of setting (started moment locks before after)).failed (analysis_of setting) ≡ Yes
    yes before after d =
        let behind = put_behind _ bytes out out' d.put told in
        settled_by_line bytes ends behind.0 (text_of setting (started moment locks before after)) _ behind.1

  conflict_untold : ConflictsMeet → (setting : Setting) (verdict : Option Verdict) (end : End) (bytes : List ℕ) → analysis_of setting ≡ verdict → IsInConflict verdict → TellsVerdict verdict end out out' →
      out'.told ≡ Some bytes → EndsWith (settled_line Yes) bytes → ⊥
  conflict_untold meet setting None end bytes is conflict tells told ends = conflict
  conflict_untold meet setting (Some (Accepted live)) end bytes is conflict tells told ends = conflict
  conflict_untold meet setting (Some (InConflictBy c)) end bytes is conflict tells told ends =
      let behind = put_behind _ bytes out out' tells.1 told in
      conflict_ends_otherwise bytes ends behind.0 (code_of c.cause) c.first c.second c.resource (meet setting c is) behind.1

  run_settles : ConflictsMeet → (setting : Setting) (locks strict : Bool) (end : End) (bytes : List ℕ) → PolicyRan setting moment locks strict site site' out out' pats pats' (Ok end) →
      out'.told ≡ Some bytes → EndsWith (settled_line Yes) bytes → IfBothTold (λ before after. Settles setting after.world) site site'
  run_settles meet setting locks strict end bytes (made may p) told ends = made_settles setting locks end bytes p told ends
  run_settles meet setting locks strict end bytes (not_made obeyed p) told ends = absurd (conflict_untold meet setting (analysis_of setting) end bytes refl obeyed.conflict.1 p.judged.told told ends)

  pub settled : TakenIsNotRefused → OneSetting → ConflictsMeet → CalledHere → IsEnd status → IfSome out'.told (λ bytes. EndsWith (settled_line Yes) bytes →
      IfSome inputs.told (λ lib. IfBothTold (λ before after. IsSettledBy words moment lib.texts after.world) site site'))
  settled never one meet (not_prepared {failure = Refused line} p un (inl (is, put))) end = each_some out'.told _ (λ bytes told ends. each_some inputs.told _ (λ lib lib_told.
      each_both _ site site' (λ before after setting r. absurd (refused_not_run never line bytes lib setting p.refused put told ends lib_told r))))
  settled never one meet (not_prepared {failure = Refused line} p un (inr (is, short))) end = absurd (no_end status (inl is) end)
  settled never one meet (not_prepared {failure = Stopped stop} p un puts) end = absurd (no_end status (stop_is stop out out' status puts) end)
  settled never one meet (stopped_at_work stop mid p performed puts) end = absurd (no_end status (stop_is stop mid out' status puts) end)
  settled never one meet (ended {work = Run order} by p performed is) end = each_some out'.told _ (λ bytes told ends. some_weaker inputs.told _ _ (λ lib lib_told taken.
      both_weaker _ _ site site' (λ before after settles setting r. subst (λ (x : Setting). Settles x after.world)
      (one lib.texts moment r.asks.request (setting_in order.policy) setting order.locks r.has_locks order.strict r.is_strict
      (subst (λ (q : Request). TakesRequest lib.texts moment q (task_of (Run order))) (one_some p.work.asked_is r.asks.asked_is) taken) r.asks.takes)
      settles)
      (run_settles meet (setting_in order.policy) order.locks order.strict by bytes performed told ends)) p.work.is_work.taken)
  settled never one meet (ended {work = Judge policy} by p performed is) end = each_some out'.told _ (λ bytes told ends. some_weaker inputs.told _ _ (λ lib lib_told taken.
      each_both _ site site' (λ before after setting r. absurd (run_not_judged lib.texts moment r.asks.request setting (setting_in policy) r.has_locks r.is_strict r.asks.takes
      (subst (λ (q : Request). TakesRequest lib.texts moment q (task_of (Judge policy))) (one_some p.work.asked_is r.asks.asked_is) taken)))) p.work.is_work.taken)
  settled never one meet (ended {work = Search policy} by p performed is) end = each_some out'.told _ (λ bytes told ends. some_weaker inputs.told _ _ (λ lib lib_told taken.
      each_both _ site site' (λ before after setting r. absurd (run_not_searched lib.texts moment r.asks.request setting (setting_in policy) r.has_locks r.is_strict r.asks.takes
      (subst (λ (q : Request). TakesRequest lib.texts moment q (task_of (Search policy))) (one_some p.work.asked_is r.asks.asked_is) taken)))) p.work.is_work.taken)
  settled never one meet (ended {work = Show text} by p performed is) end = each_some out'.told _ (λ bytes told ends. some_weaker inputs.told _ _ (λ lib lib_told taken.
      each_both _ site site' (λ before after setting r. absurd (run_not_shown lib.texts moment r.asks.request setting text r.has_locks r.is_strict r.asks.takes
      (subst (λ (q : Request). TakesRequest lib.texts moment q (task_of (Show text))) (one_some p.work.asked_is r.asks.asked_is) taken)))) p.work.is_work.taken)

  -- ---- completeness

  module _ (never : TakenIsNotRefused) (one : OneSetting) (lib : Library) (lib_told : inputs.told ≡ Some lib) (asks : AsksTaken words moment lib.texts)
      (free : IsUnhindered words moment lib.texts inputs inputs' site site' out out' pats pats') where
    not_refused : (line : List ℕ) → RefusesCall words moment inputs.told line → ⊥
    not_refused _ (of_words none) = none_or_some none asks.1.1.asked_is
    not_refused _ (of_moment some late) = omega (arith, late, asks.0)
    not_refused _ (of_request {request = q} {line = line} some in_time refuses) = never lib.texts moment asks.1.1.request asks.1.0 line asks.1.1.takes
        (subst (λ (x : Request). RefusesRequest lib.texts x line) (one_some some asks.1.1.asked_is) (some_at inputs.told lib (λ l. RefusesRequest l.texts q line) lib_told refuses))

    not_outside : HasFault out out' ⊎ (StopsReading words inputs inputs' site site' out out' ⊎ StopsAtSite words site site' out') → ⊥
    not_outside (inl fault) = free.sink_stands fault
    not_outside (inr (inl reading)) = free.inputs_stand reading.failed.failed.rose
    not_outside (inr (inr at_site)) = free.site_stands at_site.rose

    no_pattern : StopsAtPattern words moment inputs.told site site' out out' pats pats' → ⊥
    no_pattern (stops_before before put) = free.builder_stands before.refused.rose
    no_pattern (stops_in_run inside put) = free.builder_stands inside.refused.rose

    not_too_many : StopsAtVisits words moment inputs.told site site' out out' pats pats' → ⊥
    not_too_many (by_analysis obeys many un kept put) = free.analysis_ends (some_at inputs.told lib _ lib_told many)
    not_too_many (by_run makes many kept put) = free.run_ends (some_at inputs.told lib _ lib_told makes.1) (both_weaker _ _ site site' (λ before after cut. cut.needs) (some_at inputs.told lib _ lib_told many))

    done_or_memory : CalledHere → IsEnd status ⊎ IsStop status → IsDoneOrMemory status
    done_or_memory called (inl (inl none)) = inl none
    done_or_memory called (inl (inr (inl one))) =
        let puts = calls.puts_refusal words moment inputs inputs' site site' out out' pats pats' status called one in
        absurd (not_refused puts.0 puts.1)
    done_or_memory called (inl (inr (inr (inl two)))) = inr (inl two)
    done_or_memory called (inl (inr (inr (inr three)))) = inr (inr (inl three))
    done_or_memory called (inr (inl four)) = absurd (not_outside (calls.outside words moment inputs inputs' site site' out out' pats pats' status called four))
    done_or_memory called (inr (inr (inl five))) = inr (inr (inr five))
    done_or_memory called (inr (inr (inr six))) = absurd (no_limit (calls.pattern_or_visits words moment inputs inputs' site site' out out' pats pats' status one called six)) where
      no_limit : StopsAtPattern words moment inputs.told site site' out out' pats pats' ⊎ StopsAtVisits words moment inputs.told site site' out out' pats pats' → ⊥
      no_limit (inl pattern) = no_pattern pattern
      no_limit (inr visits) = not_too_many visits

  pub complete : TakenIsNotRefused → OneSetting → CalledHere → IfSome inputs.told (λ lib. AsksTaken words moment lib.texts →
      IsUnhindered words moment lib.texts inputs inputs' site site' out out' pats pats' → IsDoneOrMemory status)
  complete never one called = each_some inputs.told _ (λ lib told asks free.
      done_or_memory never one lib told asks free called (calls.range words moment inputs inputs' site site' out out' pats pats' status called))
