-- What a whole run came to.
use Rattle.std.proofs.Common.{◌≡◌, ℕ, ◌≤◌, Bool, false, List, [], ◌++◌, length, drop, Some, Result, Ok, Err, refl, sym, ap, subst, ◌∙◌, arith, append-nil}
use Rattle.std.proofs.Math.Seq.{drop-append_seam}
use Rattle.cfa_base.specs.lemmas.Options.{each_some, one_some}
use Rattle.cfa_base.specs.Causes.{Rose}
use Rattle.cfa_base.specs.lemmas.Causes.{rose_later}
use Rattle.cfa_base.specs.Patterns.{refuses}
use Rattle.cfa_base.specs.Shown.{Shown, Follows, HasFailed}
use Rattle.cfa_outside.specs.declared.sites.Entry.{Entry}
use Rattle.cfa_outside.specs.Sites.{Told, adds}
use Rattle.cfa_outside.specs.Sinks.{adds_bytes}
use Rattle.cfa_output.specs.Puts.{puts_then}
use Rattle.cfa_output.specs.declared.ends.Object.TheVariants.{Inputs, Site, Sink}
use Rattle.cfa_output.specs.declared.ends.Stop.{Stop}
use Rattle.cfa_output.specs.declared.ends.Stop.TheVariants.{Outside, Memory, Visits, Pattern}
use Rattle.cfa_frames.specs.Frames.{Stack, beginning, rest}
use Rattle.cfa_frames.specs.Growing.{AnswerAlike}
use Rattle.cfa_frames.specs.Moves.{Meets, Next, need_of, over}
use Rattle.cfa_frames.specs.Steps.{step}
use Rattle.cfa_machine.specs.Reaching.{done_of}
use Rattle.cfa_machine.specs.Stacks.{Stands, seen_stack}
use Rattle.cfa_machine.specs.declared.machines.Machine.{Machine}
use Rattle.cfa_states.specs.Builds.{BuiltOn}
use Rattle.cfa_states.specs.History.{History, Event}
use Rattle.cfa_states.specs.Levels.{FaultsAre, IsTooLarge, Stops, PatternsAre}
use Rattle.cfa_states.specs.Passes.{Course, goes, too_large, run}
use Rattle.cfa_states.specs.Tellers.{Teller}
use Rattle.cfa_states.specs.Views.{Setting}
use Rattle.cfa_walk.specs.Turns.{StepDone}
use Rattle.cfa_agent.specs.declared.progress.Running.{Running}
use Rattle.cfa_agent.specs.Actuations.{mark_of}
use Rattle.cfa_agent.specs.Bracketed.{AllBracketed}
use Rattle.cfa_agent.specs.Ending.{StopsPut}
use Rattle.cfa_agent.specs.Marks.{marks_of}
use Rattle.cfa_agent.specs.Putting.{IsPut, RunsOn, StepPut, all_put, put_failed, with_taken}
use Rattle.cfa_agent.specs.Ran.{added, started, counts_of, IsWhole, LimitAs, RunsAs, IfBothTold, StopsRun, Refuses, RunBuilds, RunRefuses, RefusesUnput, refuses_none, refuses_one, text_of_lines, text_too_big}
use Rattle.cfa_agent.specs.declared.running.Tally.{Tally}
use Rattle.cfa_agent.specs.Runs.{Counts, Start, real, run_of, log_of, lines_of, tally_of, history_of, last_line, lines_in, log_in, tally_in}
use Rattle.cfa_agent.specs.Standing.{Given, Standing, IsBehind, Agrees, teller_of, IsFirst, Rests, since, IsWholeLog, log_of_events, lines_of_events}
use Rattle.cfa_agent.specs.lemmas.Hosts.{adds_none}
use Rattle.cfa_agent.proofs.BracketedLogs.{rests_none, rests_bracketed}
use Rattle.cfa_agent.proofs.MarkLemmas.{whole_none}
use Rattle.cfa_agent.proofs.RunSteps.{agrees_taken, agrees_untaken, text_of_both}
use Rattle.cfa_agent.proofs.WholeRuns.{lines_alone, log_alone, steps_alike}

abbrev given_by : (moment : ℕ) → (locks : Bool) → (before after : Told) → Given
given_by moment locks before after = record { start = started moment locks before after; base = []; had_record = false; log = before.log; lines = []; taken = [] }

-- a run agrees with the marks of all that it added
agrees_with_all : (moment : ℕ) (locks : Bool) (w : Standing) (before after : Told) → w.1.0.told ≡ Some after → Agrees w (given_by moment locks before after)
agrees_with_all moment locks w before after is t told on k le =
    let g : Given = given_by moment locks before after in
    ap (λ (t : Told). mark_of (marks_of (since g t)) k) (one_some is told)

-- a run that begins has done nothing
begins_behind : (moment : ℕ) (locks : Bool) (r : Running) (site : Shown Told) (before after : Told) → IsFirst moment locks r → site.told ≡ Some before →
    IsBehind (r, (site, [])) (given_by moment locks before after) []
begins_behind moment locks r site before after first is = let P : ℕ → Type 0 = λ n. IsWholeLog n [] in record {
  events = [];
  is = refl;
  came = record {
    moment_is = first.moment_is;
    locks_are = first.locks_are;
    number_is = first.number_is;
    has_record_is = first.has_record_is;
    recorded_is = first.has_record_is;
    counts_are = first.counts_are;
    whole = subst P (sym first.number_is) whole_none;
    rests = subst (Rests false before.world []) (sym first.has_record_is) (rests_none false before.world);
    told_is = is ∙ ap Some (sym (adds_none before));
    lines_are = refl;
  };
}

-- ---- the laws of moves

abbrev Begins : Setting → Type 0
Begins s = (t : Teller) → rest s t (beginning s) [] ≡ run s t

abbrev EndsOver : Setting → Type 0
EndsOver s = (t : Teller) (st : Stack) (h : History) → need_of st ≡ over → rest s t st h ≡ goes h

abbrev RestAlike : Setting → Type 0
RestAlike s = (t u : Teller) (st : Stack) (h : History) → AnswerAlike h t u → rest s t st h ≡ rest s u st h

abbrev LeftByStep : Setting → Type 0
LeftByStep s = (t : Teller) (st : Stack) (h : History) → Meets s t (step s t st h) (rest s t st h)

module _ (setting : Setting) (begins : Begins setting) (ends : EndsOver setting) (alike : RestAlike setting)
    (moment : ℕ) (locks : Bool) (first : Running) (is_first : IsFirst moment locks first)
    (m : Machine) (stands : Stands setting m []) (is_beginning : seen_stack m ≡ beginning setting) where
  -- what is left at the beginning is the run
  run_left : (s : Start) (before after : Told) → s ≡ started moment locks before after →
      rest setting (teller_of (given_by moment locks before after)) (seen_stack m) [] ≡ run setting (real (started moment locks before after))
  run_left s before after is =
      let start : Start = started moment locks before after in
      let t : Teller = teller_of (given_by moment locks before after) in
      ap (λ (st : Stack). rest setting t st []) is_beginning ∙ (alike t (real start) (beginning setting) [] (steps_alike start) ∙ begins (real start))

  -- ---- a run that ended

  -- what is known of it: its history, the log and lines of this, and its counts
  record Ended (before after : Told) (r : Running) (put : List (List ℕ)) : Type 0 where
    history : History
    ran : run setting (real (started moment locks before after)) ≡ goes history
    told_is : after ≡ adds (log_in (started moment locks before after) history) before
    lines_are : put ≡ lines_in (started moment locks before after) history
    counts_are : counts_of r.tally ≡ tally_in history
    rests : Rests false before.world (log_in (started moment locks before after) history) r.has_record

  ended_by : (r : Running) (m' : Machine) (site site' : Shown Told) (out out' : Shown (List ℕ)) (pats pats' : Shown (List (List ℕ))) (before after : Told) →
      site.told ≡ Some before → site'.told ≡ Some after → need_of (seen_stack m') ≡ over → (runs : RunsOn first r m m' site site' out out' pats pats') → Ended before after r runs.put
  ended_by r m' site site' out out' pats pats' before after is is' nothing runs =
      let start : Start = started moment locks before after in
      let g : Given = given_by moment locks before after in
      let gone = (runs.gone setting g [] (agrees_with_all moment locks (r, (site', [])) before after is')).1 stands (begins_behind moment locks first site before after is_first is) in
      let behind : IsBehind (r, (site', [])) (with_taken runs.put g) gone.0 = gone.1.1.0 in
      let whole : gone.0 ≡ behind.events = behind.is ∙ append-nil behind.events in
      let log : log_of_events g behind.events ≡ log_in start gone.0 = log_alone start behind.events ∙ ap (log_in start) (sym whole) in
      let lines : lines_of_events g behind.events ≡ lines_in start gone.0 = lines_alone start behind.events ∙ ap (lines_in start) (sym whole) in
      let R : List Entry → Type 0 = λ log. Rests false before.world log r.has_record in
      record {
        history = gone.0;
        ran = sym (run_left start before after refl) ∙ (sym gone.1.1.1 ∙ ends (teller_of g) (seen_stack m') gone.0 nothing);
        told_is = one_some is' behind.came.told_is ∙ ap (λ (log : List Entry). adds log before) log;
        lines_are = sym (append-nil runs.put) ∙ (behind.came.lines_are ∙ lines);
        counts_are = behind.came.counts_are;
        rests = subst R log behind.came.rests;
      }

  runs_as : (r : Running) (before after : Told) (out out1 out' : Shown (List ℕ)) (put : List (List ℕ)) → Ended before after r put →
      Follows (adds_bytes (text_of_lines put)) out out1 → Follows (adds_bytes (last_line (counts_of r.tally))) out1 out' →
      RunsAs setting (started moment locks before after) before after out out' r.tally
  unfolding run_of log_of lines_of tally_of
  runs_as r before after out out1 out' put ended lines total =
      let start : Start = started moment locks before after in
      let is : run setting (real start) ≡ goes ended.history = ended.ran in
      let same : history_of (run setting (real start)) ≡ ended.history = ap history_of is in
      let W : Course → Type 0 = λ course. IsWhole course in
      let T : List (List ℕ) → Type 0 = λ put. Follows (adds_bytes (text_of_lines put)) out out1 in
      let L : Counts → Type 0 = λ counts. Follows (adds_bytes (last_line counts)) out1 out' in
      record {
        is_whole = subst W (sym is) tt;
        site_is = ended.told_is ∙ ap (λ (h : History). adds (log_in start h) before) (sym same);
        out_is =
            puts_then (text_of_lines (lines_in start (history_of (run setting (real start))))) (last_line (tally_in (history_of (run setting (real start))))) out out1 out'
            (subst T (ended.lines_are ∙ ap (lines_in start) (sym same)) lines) (subst L (ended.counts_are ∙ ap tally_in (sym same)) total);
        tally_is = ended.counts_are ∙ ap tally_in (sym same);
      }

  pub run_ran : (r : Running) (m' : Machine) (site site' : Shown Told) (out out1 out' : Shown (List ℕ)) (pats pats' : Shown (List (List ℕ))) → need_of (seen_stack m') ≡ over →
      RunsOn first r m m' site site' out out1 pats pats' → Follows (adds_bytes (last_line (counts_of r.tally))) out1 out' →
      IfBothTold (λ before after. RunsAs setting (started moment locks before after) before after out out' r.tally) site site'
  run_ran r m' site site' out out1 out' pats pats' nothing runs total =
      each_some site.told _ (λ before is. each_some site'.told _ (λ after is'.
      runs_as r before after out out1 out' runs.put (ended_by r m' site site' out out1 pats pats' before after is is' nothing runs) runs.out_is total))

  -- ---- what its journal tells

  bracketed_as : (r : Running) (before after : Told) (put : List (List ℕ)) → Ended before after r put → AllBracketed before.world (added before after)
  bracketed_as r before after put ended =
      let log : List Entry = log_in (started moment locks before after) ended.history in
      subst (AllBracketed before.world) (sym (ap (λ (t : Told). drop (length before.log) t.log) ended.told_is ∙ drop-append_seam before.log log))
      (rests_bracketed before.world log r.has_record ended.rests)

  pub run_bracketed : (r : Running) (m' : Machine) (site site' : Shown Told) (out out1 : Shown (List ℕ)) (pats pats' : Shown (List (List ℕ))) → need_of (seen_stack m') ≡ over →
      RunsOn first r m m' site site' out out1 pats pats' → IfBothTold (λ before after. AllBracketed before.world (added before after)) site site'
  run_bracketed r m' site site' out out1 pats pats' nothing runs =
      each_some site.told _ (λ before is. each_some site'.told _ (λ after is'.
      bracketed_as r before after runs.put (ended_by r m' site site' out out1 pats pats' before after is is' nothing runs)))

  -- ---- a run that was stopped in a step

  module _ (r1 r' : Running) (m1 m' : Machine) (site site1 site' : Shown Told) (out out1 out' : Shown (List ℕ)) (pats pats1 pats' : Shown (List (List ℕ)))
      (runs : RunsOn first r1 m m1 site site1 out out1 pats pats1) where
    -- by too many visits
    large_by : (told : List (List ℕ)) (before after : Told) → site.told ≡ Some before → site'.told ≡ Some after →
        StepDone teller_of Agrees IsBehind (r1, (site1, [])) (r', (site', told)) m1 m' (Err Visits) → IsTooLarge (run setting (real (started moment locks before after)))
    large_by told before after is is' done =
        let g : Given = given_by moment locks before after in
        let agreed = agrees_taken (r', (site', told)) g runs.put (agrees_with_all moment locks (r', (site', told)) before after is') in
        let was = runs.gone setting g [] (agrees_untaken (r1, (site1, [])) g runs.put (done setting (with_taken runs.put g) [] agreed).0) in
        let mid = was.1 stands (begins_behind moment locks first site before after is_first is) in
        let past = (done setting (with_taken runs.put g) mid.0 agreed).1 mid.1.0 mid.1.1.0 in
        subst (λ (c : Course). IsTooLarge c) (mid.1.1.1 ∙ run_left (started moment locks before after) before after refl) past.0

    -- all before that was done, and told
    record Past (told : List (List ℕ)) (before after : Told) : Type 0 where
      history : History
      ran : run setting (real (started moment locks before after)) ≡ too_large history
      told_is : after ≡ adds (log_in (started moment locks before after) history) before
      lines_are : runs.put ++ told ≡ lines_in (started moment locks before after) history

    past_by : LeftByStep setting → (told : List (List ℕ)) (before after : Told) → site.told ≡ Some before → site'.told ≡ Some after →
        StepDone teller_of Agrees IsBehind (r1, (site1, [])) (r', (site', told)) m1 m' (Err Visits) → Past told before after
    past_by left told before after is is' done =
        let start : Start = started moment locks before after in
        let g : Given = given_by moment locks before after in
        let t : Teller = teller_of g in
        let agreed = agrees_taken (r', (site', told)) g runs.put (agrees_with_all moment locks (r', (site', told)) before after is') in
        let was = runs.gone setting g [] (agrees_untaken (r1, (site1, [])) g runs.put (done setting (with_taken runs.put g) [] agreed).0) in
        let mid = was.1 stands (begins_behind moment locks first site before after is_first is) in
        let past = (done setting (with_taken runs.put g) mid.0 agreed).1 mid.1.0 mid.1.1.0 in
        let k : History = past.1.0 in
        let behind : IsBehind (r', (site', told)) (with_taken runs.put g) k = past.1.1.0 in
        let whole : k ≡ behind.events = behind.is ∙ append-nil behind.events in
        let log : log_of_events g behind.events ≡ log_in start k = log_alone start behind.events ∙ ap (log_in start) (sym whole) in
        let lines : lines_of_events g behind.events ≡ lines_in start k = lines_alone start behind.events ∙ ap (lines_in start) (sym whole) in
        let M : Next → Type 0 = λ x. Meets setting t x (rest setting t (seen_stack m1) mid.0) in
        record {
          history = k;
          ran = sym (run_left start before after refl) ∙ (sym mid.1.1.1 ∙ sym (subst M past.1.1.1 (left t (seen_stack m1) mid.0)));
          told_is = one_some is' behind.came.told_is ∙ ap (λ (log : List Entry). adds log before) log;
          lines_are = behind.came.lines_are ∙ lines;
        }

    limit_as : (told : List (List ℕ)) (before after : Told) → Past told before after → Follows (adds_bytes (text_of_lines told)) out1 out' →
        LimitAs setting (started moment locks before after) before after out out'
    unfolding run_of log_of lines_of
    limit_as told before after past put =
        let start : Start = started moment locks before after in
        let same : history_of (run setting (real start)) ≡ past.history = ap history_of past.ran in
        let F : List ℕ → Type 0 = λ text. Follows (adds_bytes text) out out' in
        record {
          site_is = past.told_is ∙ ap (λ (h : History). adds (log_in start h) before) (sym same);
          out_is =
              subst F (sym (text_of_both runs.put told) ∙ ap text_of_lines (past.lines_are ∙ ap (lines_in start) (sym same)))
              (puts_then (text_of_lines runs.put) (text_of_lines told) out out1 out' runs.out_is put);
        }

    -- by a text that was refused for its size
    built_by : (text : List ℕ) (told : List (List ℕ)) (before after : Told) → site.told ≡ Some before → site'.told ≡ Some after →
        StepDone teller_of Agrees IsBehind (r1, (site1, [])) (r', (site', told)) m1 m' (Err (Pattern text)) → BuiltOn setting (run setting (real (started moment locks before after))) text
    built_by text told before after is is' done =
        let g : Given = given_by moment locks before after in
        let agreed = agrees_taken (r', (site', told)) g runs.put (agrees_with_all moment locks (r', (site', told)) before after is') in
        let was = runs.gone setting g [] (agrees_untaken (r1, (site1, [])) g runs.put (done setting (with_taken runs.put g) [] agreed).0) in
        let mid = was.1 stands (begins_behind moment locks first site before after is_first is) in
        let built = (done setting (with_taken runs.put g) mid.0 agreed).1 mid.1.0 mid.1.1.0 in
        subst (λ (c : Course). BuiltOn setting c text) (mid.1.1.1 ∙ run_left (started moment locks before after) before after refl) built

    abbrev Large : Type 0
    Large = IfBothTold (λ before after. IsTooLarge (run_of setting (started moment locks before after))) site site'

    abbrev Builds : List ℕ → Type 0
    Builds text = RunBuilds setting moment locks site site' (Some text)

    large_of : (before after : Told) → IsTooLarge (run setting (real (started moment locks before after))) → IsTooLarge (run_of setting (started moment locks before after))
    unfolding run_of
    large_of before after large = large

    built_of : (text : List ℕ) (before after : Told) → BuiltOn setting (run setting (real (started moment locks before after))) text →
        BuiltOn setting (run_of setting (started moment locks before after)) text
    unfolding run_of
    built_of text before after built = built

    step_large : (told : List (List ℕ)) (stepped : Result Bool Stop) → stepped ≡ Err Visits → StepDone teller_of Agrees IsBehind (r1, (site1, [])) (r', (site', told)) m1 m' stepped → Large
    step_large told stepped is done =
        let D : Result Bool Stop → Type 0 = λ x. StepDone teller_of Agrees IsBehind (r1, (site1, [])) (r', (site', told)) m1 m' x in
        each_some site.told _ (λ before was. each_some site'.told _ (λ after now. large_of before after (large_by told before after was now (subst D is done))))

    abbrev Limit : Type 0
    Limit = IfBothTold (λ before after. LimitAs setting (started moment locks before after) before after out out') site site'

    step_limit : LeftByStep setting → (told : List (List ℕ)) (stepped : Result Bool Stop) → stepped ≡ Err Visits →
        StepDone teller_of Agrees IsBehind (r1, (site1, [])) (r', (site', told)) m1 m' stepped → Follows (adds_bytes (text_of_lines told)) out1 out' → Limit
    step_limit left told stepped is done put =
        let D : Result Bool Stop → Type 0 = λ x. StepDone teller_of Agrees IsBehind (r1, (site1, [])) (r', (site', told)) m1 m' x in
        each_some site.told _ (λ before was. each_some site'.told _ (λ after now.
        limit_as told before after (past_by left told before after was now (subst D is done)) put))

    step_built : (text : List ℕ) (told : List (List ℕ)) (stepped : Result Bool Stop) → stepped ≡ Err (Pattern text) →
        StepDone teller_of Agrees IsBehind (r1, (site1, [])) (r', (site', told)) m1 m' stepped → Builds text
    step_built text told stepped is done =
        let D : Result Bool Stop → Type 0 = λ x. StepDone teller_of Agrees IsBehind (r1, (site1, [])) (r', (site', told)) m1 m' x in
        each_some site.told _ (λ before was. each_some site'.told _ (λ after now. built_of text before after (built_by text told before after was now (subst D is done))))

    pub run_large : (stop : Stop) → stop ≡ Visits → StepPut r1 r' m1 m' site1 site' out1 out' pats1 pats' (Err stop) → Large
    run_large stop is step = by step.put where
      by : IsPut step.told step.stepped out1 out' (Err stop) → Large
      by (all_put same put) = step_large step.told step.stepped (sym same ∙ ap Err is) step.done
      by (put_failed same failed) = absurd (cc)

    pub run_limit : LeftByStep setting → (stop : Stop) → stop ≡ Visits → StepPut r1 r' m1 m' site1 site' out1 out' pats1 pats' (Err stop) → Limit
    run_limit left stop is step = by step.put where
      by : IsPut step.told step.stepped out1 out' (Err stop) → Limit
      by (all_put same put) = step_limit left step.told step.stepped (sym same ∙ ap Err is) step.done put
      by (put_failed same failed) = absurd (cc)

    pub run_built : (stop : Stop) → StepPut r1 r' m1 m' site1 site' out1 out' pats1 pats' (Err stop) → RunBuilds setting moment locks site site' (text_too_big (Err stop))
    run_built (Outside object) step = tt
    run_built Memory step = tt
    run_built Visits step = tt
    run_built (Pattern text) step = by step.put where
      by : IsPut step.told step.stepped out1 out' (Err (Pattern text)) → Builds text
      by (all_put same put) = step_built text step.told step.stepped (sym same) step.done
      by (put_failed same failed) = absurd (cc)

    -- ---- counts of faults

    not_rose : Rose 0 0 → ⊥
    not_rose rose = absurd (omega (arith, rose))

    sink_stands : (told : List (List ℕ)) → Follows (adds_bytes (text_of_lines told)) out1 out' → out'.faults ≡ out.faults
    sink_stands told put = ap (λ (o : Shown (List ℕ)). o.faults) put ∙ ap (λ (o : Shown (List ℕ)). o.faults) runs.out_is

    put_stops : (told : List (List ℕ)) (stop : Stop) → FaultsAre (site1.faults, 0) (site'.faults, 0) (Err stop) → Follows (adds_bytes (text_of_lines told)) out1 out' → StopsRun site site' out out' stop
    put_stops told (Outside Inputs) faults put = faults
    put_stops told (Outside Site) faults put = (rose_later site.faults site1.faults site'.faults runs.faults_are faults.0, sink_stands told put)
    put_stops told (Outside Sink) faults put = absurd (not_rose faults)
    put_stops told Memory faults put = sink_stands told put
    put_stops told Visits faults put = sink_stands told put
    put_stops told (Pattern text) faults put = sink_stands told put

    pub run_stops : (stop : Stop) → StepPut r1 r' m1 m' site1 site' out1 out' pats1 pats' (Err stop) → StopsRun site site' out out' stop
    run_stops stop step = by step.put where
      by : IsPut step.told step.stepped out1 out' (Err stop) → StopsRun site site' out out' stop
      by (all_put same put) =
          let F : Result Bool Stop → Type 0 = λ x. FaultsAre (site1.faults, 0) (site'.faults, 0) (done_of x) in
          put_stops step.told stop (subst F (sym same) step.faults) put
      by (put_failed same failed) =
          let is : stop ≡ Outside Sink = cc in
          let P : Stop → Type 0 = λ stop. StopsRun site site' out out' stop in
          let R : ℕ → Type 0 = λ n. Rose n out'.faults in
          subst P (sym is) (subst R (ap (λ (o : Shown (List ℕ)). o.faults) runs.out_is) failed.failed.rose)

    -- ---- the builder of patterns

    stop_refuses : (stop : Stop) → PatternsAre (Err stop) pats1 pats' → pats1 ≡ pats → RunRefuses {X = Tally} Builds (Err stop) pats pats'
    stop_refuses (Outside Inputs) are same = are ∙ same
    stop_refuses (Outside Site) are same = are ∙ same
    stop_refuses (Outside Sink) are same = refuses_none (are ∙ same)
    stop_refuses Memory are same = are ∙ same
    stop_refuses Visits are same = are ∙ same
    stop_refuses (Pattern text) are same = subst (λ (p : Shown (List (List ℕ))). HasFailed (refuses text) p pats') same are

    unput : (told : List (List ℕ)) (stepped : Result Bool Stop) → StepDone teller_of Agrees IsBehind (r1, (site1, [])) (r', (site', told)) m1 m' stepped →
        PatternsAre (done_of stepped) pats1 pats' → RefusesUnput Builds pats pats'
    unput told (Ok is_more) done are = refuses_none (are ∙ runs.patterns_are)
    unput told (Err (Outside object)) done are = refuses_none (are ∙ runs.patterns_are)
    unput told (Err Memory) done are = refuses_none (are ∙ runs.patterns_are)
    unput told (Err Visits) done are = refuses_none (are ∙ runs.patterns_are)
    unput told (Err (Pattern text)) done are =
        refuses_one text (step_built text told (Err (Pattern text)) refl done) (subst (λ (p : Shown (List (List ℕ))). HasFailed (refuses text) p pats') runs.patterns_are are)

    pub run_refuses : (stop : Stop) → StepPut r1 r' m1 m' site1 site' out1 out' pats1 pats' (Err stop) → RunRefuses {X = Tally} Builds (Err stop) pats pats'
    run_refuses stop step = by step.put where
      by : IsPut step.told step.stepped out1 out' (Err stop) → RunRefuses {X = Tally} Builds (Err stop) pats pats'
      by (all_put same put) =
          let P : Result Bool Stop → Type 0 = λ x. PatternsAre (done_of x) pats1 pats' in
          stop_refuses stop (subst P (sym same) step.patterns) runs.patterns_are
      by (put_failed same failed) =
          let is : stop ≡ Outside Sink = cc in
          let P : Stop → Type 0 = λ stop. RunRefuses {X = Tally} Builds (Err stop) pats pats' in
          subst P (sym is) (unput step.told step.stepped step.done step.patterns)

-- ---- the line of the total

pub total_stops : (site site' : Shown Told) (out out1 out' : Shown (List ℕ)) (stop : Stop) → out1.faults ≡ out.faults → StopsPut out1 out' stop → StopsRun site site' out out' stop
total_stops site site' out out1 out' (Outside Inputs) same h = h
total_stops site site' out out1 out' (Outside Site) same h = absurd h
total_stops site site' out out1 out' (Outside Sink) same h = let P : ℕ → Type 0 = λ count. Rose count out'.faults in subst P same h
total_stops site site' out out1 out' Memory same h = h ∙ same
total_stops site site' out out1 out' Visits same h = absurd h
total_stops site site' out out1 out' (Pattern text) same h = absurd h

pub total_builds : (setting : Setting) (moment : ℕ) (locks : Bool) (site site' : Shown Told) (out1 out' : Shown (List ℕ)) (stop : Stop) → StopsPut out1 out' stop →
    RunBuilds setting moment locks site site' (text_too_big (Err stop))
total_builds setting moment locks site site' out1 out' (Outside object) h = tt
total_builds setting moment locks site site' out1 out' Memory h = tt
total_builds setting moment locks site site' out1 out' Visits h = tt
total_builds setting moment locks site site' out1 out' (Pattern text) h = absurd h

pub total_refuses : (B : List ℕ → Type 0) (out1 out' : Shown (List ℕ)) (stop : Stop) (pats pats' : Shown (List (List ℕ))) → StopsPut out1 out' stop → pats' ≡ pats →
    RunRefuses {X = Tally} B (Err stop) pats pats'
total_refuses B out1 out' (Outside Inputs) pats pats' h same = same
total_refuses B out1 out' (Outside Site) pats pats' h same = same
total_refuses B out1 out' (Outside Sink) pats pats' h same = refuses_none same
total_refuses B out1 out' Memory pats pats' h same = same
total_refuses B out1 out' Visits pats pats' h same = same
total_refuses B out1 out' (Pattern text) pats pats' h same = absurd h
