-- A run made step by step, the lines of each put behind it.
use Rattle.std.proofs.Common.{◌≡◌, ℕ, ◌≤◌, Bool, true, false, Vec, Global, List, [], ◌∷◌, ◌++◌, Some, Result, Ok, Err, refl, sym, ap, subst, ◌∙◌, arith, append-nil, append_assoc}
use Rattle.std.proofs.lemmas.Grind.{flat_map-append}
use Rattle.cfa_base.specs.declared.texts.Name.{Name}
use Rattle.cfa_base.specs.Shown.{Shown, Follows, followed}
use Rattle.cfa_outside.specs.Sites.{Told}
use Rattle.cfa_outside.specs.Sinks.{adds_bytes}
use Rattle.cfa_output.specs.Puts.{PutsShort, puts_nothing, puts_then}
use Rattle.cfa_output.specs.declared.ends.Object.TheVariants.{Sink}
use Rattle.cfa_output.specs.declared.ends.Stop.{Stop}
use Rattle.cfa_output.specs.declared.ends.Stop.TheVariants.{Outside, Memory, Visits, Pattern}
use Rattle.cfa_frames.specs.Moves.{need_of, over}
use Rattle.cfa_machine.specs.Reaching.{done_of}
use Rattle.cfa_machine.specs.Stacks.{Holds, Stands, seen_stack}
use Rattle.cfa_machine.specs.declared.machines.Machine.{Machine}
use Rattle.cfa_states.specs.History.{History}
use Rattle.cfa_states.specs.Levels.{FaultsAre, PatternsAre}
use Rattle.cfa_states.specs.Views.{Setting}
use Rattle.cfa_states.specs.lemmas.Later.{at_most}
use Rattle.cfa_walk.specs.Turns.{EndsStep, HasGone, IsLeft, StepDone}
use Rattle.cfa_agent.specs.declared.progress.Running.{Running}
use Rattle.cfa_agent.specs.Putting.{IsPut, RunEnds, RunsOn, StepPut, all_put, comes_to_end, falls_short, put_failed, with_taken}
use Rattle.cfa_agent.specs.Ran.{text_of_lines}
use Rattle.cfa_agent.specs.Standing.{Agrees, Given, GoesOn, IsBehind, Standing, teller_of}

-- ---- lines that are taken

goes_taken : (n : ℕ) (g : Given) (t : Told) (put : List (List ℕ)) → GoesOn n g t → GoesOn n (with_taken put g) t
goes_taken n g t put on = record { longer = on.longer; whole = on.whole }

goes_untaken : (n : ℕ) (g : Given) (t : Told) (put : List (List ℕ)) → GoesOn n (with_taken put g) t → GoesOn n g t
goes_untaken n g t put on = record { longer = on.longer; whole = on.whole }

pub agrees_taken : (w : Standing) (g : Given) (put : List (List ℕ)) → Agrees w g → Agrees w (with_taken put g)
agrees_taken w g put agreed t is on = agreed t is (goes_untaken w.0.number g t put on)

pub agrees_untaken : (w : Standing) (g : Given) (put : List (List ℕ)) → Agrees w (with_taken put g) → Agrees w g
agrees_untaken w g put agreed t is on = agreed t is (goes_taken w.0.number g t put on)

behind_as : (r : Running) (site : Shown Told) (told told' put put' : List (List ℕ)) (g : Given) (h : History) → (g.taken ++ put') ++ told' ≡ (g.taken ++ put) ++ told →
    IsBehind (r, (site, told)) (with_taken put g) h → IsBehind (r, (site, told')) (with_taken put' g) h
behind_as r site told told' put put' g h same behind = record {
  events = behind.events;
  is = behind.is;
  came = record {
    moment_is = behind.came.moment_is;
    locks_are = behind.came.locks_are;
    number_is = behind.came.number_is;
    has_record_is = behind.came.has_record_is;
    recorded_is = behind.came.recorded_is;
    counts_are = behind.came.counts_are;
    whole = behind.came.whole;
    rests = behind.came.rests;
    told_is = behind.came.told_is;
    lines_are = same ∙ behind.came.lines_are;
  };
}

behind_none : (w : Standing) (g : Given) (h : History) → IsBehind w g h → IsBehind w (with_taken [] g) h
behind_none w g h behind = record {
  events = behind.events;
  is = behind.is;
  came = record {
    moment_is = behind.came.moment_is;
    locks_are = behind.came.locks_are;
    number_is = behind.came.number_is;
    has_record_is = behind.came.has_record_is;
    recorded_is = behind.came.recorded_is;
    counts_are = behind.came.counts_are;
    whole = behind.came.whole;
    rests = behind.came.rests;
    told_is = behind.came.told_is;
    lines_are = ap (λ (l : List (List ℕ)). l ++ w.1.1) (append-nil g.taken) ∙ behind.came.lines_are;
  };
}

-- ---- step by step

-- who tells has a site and lines, of which this is what they show
module _ {S : Type 0} (shown : S → Shown Told) where
  abbrev pub standing_of : Running × (S × Vec Name Global) → Standing
  standing_of w = (w.0, (shown w.1.0, w.1.1.items))

  pub step_as : (w w' : Running × (S × Vec Name Global)) (m m' : Machine) (stepped : Result Bool Stop) →
      StepDone teller_of (λ (w : Running × (S × Vec Name Global)) g. Agrees (standing_of w) g) (λ (w : Running × (S × Vec Name Global)) g h. IsBehind (standing_of w) g h) w w' m m' stepped →
      StepDone teller_of Agrees IsBehind (standing_of w) (standing_of w') m m' stepped
  step_as w w' m m' (Ok is_more) done = done
  step_as w w' m m' (Err (Outside object)) done = done
  step_as w w' m m' (Err Memory) done = done
  step_as w w' m m' (Err Visits) done = done
  step_as w w' m m' (Err (Pattern text)) done = done

-- a step that begins with no line
pub step_put : (r r' : Running) (m m' : Machine) (site site' : Shown Told) (out out' : Shown (List ℕ)) (pats pats' : Shown (List (List ℕ))) (stepped result : Result Bool Stop)
    (lines told : List (List ℕ)) → lines ≡ [] → StepDone teller_of Agrees IsBehind (r, (site, lines)) (r', (site', told)) m m' stepped →
    FaultsAre (site.faults, 0) (site'.faults, 0) (done_of stepped) → PatternsAre (done_of stepped) pats pats' → IsPut told stepped out out' result →
    StepPut r r' m m' site site' out out' pats pats' result
step_put r r' m m' site site' out out' pats pats' stepped result lines told none done faults patterns put =
    let D : List (List ℕ) → Type 0 = λ lines. StepDone teller_of Agrees IsBehind (r, (site, lines)) (r', (site', told)) m m' stepped in
    record { told = told; stepped = stepped; done = subst D none done; faults = faults; patterns = patterns; put = put }

pub put_short : (told lines : List (List ℕ)) (out out' : Shown (List ℕ)) (stepped result : Result Bool Stop) → lines ≡ told → result ≡ Err (Outside Sink) →
    PutsShort (text_of_lines lines) out out' → IsPut told stepped out out' result
put_short told lines out out' stepped result same is short =
    let S : List (List ℕ) → Type 0 = λ lines. PutsShort (text_of_lines lines) out out' in
    put_failed is (subst S same short)

pub put_whole : (told lines : List (List ℕ)) (out out' : Shown (List ℕ)) (stepped : Result Bool Stop) → lines ≡ told →
    Follows (adds_bytes (text_of_lines lines)) out out' → IsPut told stepped out out' stepped
put_whole told lines out out' stepped same put =
    let F : List (List ℕ) → Type 0 = λ lines. Follows (adds_bytes (text_of_lines lines)) out out' in
    all_put refl (subst F same put)

pub runs_none : (first : Running) (m : Machine) (site : Shown Told) (out : Shown (List ℕ)) (pats : Shown (List (List ℕ))) → Holds m → (s : Setting) × ((h : History) × Stands s m h) →
    RunsOn first first m m site site out out pats pats
runs_none first m site out pats holds stands = record {
  holds = holds;
  stands = stands;
  put = [];
  gone = λ s g h agreed. (agreed, λ stands stays. (h, (stands, (behind_none (first, (site, [])) g h stays, refl))));
  out_is = puts_nothing out;
  faults_are = omega arith;
  patterns_are = refl;
}

pub text_of_both : (put told : List (List ℕ)) → text_of_lines (put ++ told) ≡ text_of_lines put ++ text_of_lines told
text_of_both put told = flat_map-append (λ line. line) put told

module _ (first r r' : Running) (m m1 m' : Machine) (site site1 site' : Shown Told) (out out1 out' : Shown (List ℕ)) (pats pats1 pats' : Shown (List (List ℕ)))
    (before : RunsOn first r m m1 site site1 out out1 pats pats1) where
  -- what every given run says of the step that comes next, and of what stood before it
  pub gone_more : (is_more : Bool) (told : List (List ℕ)) → HasGone teller_of Agrees IsBehind (EndsStep is_more) (r, (site1, [])) (r', (site', told)) m1 m' →
      (s : Setting) (g : Given) (h : History) → Agrees (r', (site', [])) g →
      Agrees (first, (site, [])) g × (Stands s m h → IsBehind (first, (site, [])) g h →
      (k : History) × (Stands s m' k × (IsBehind (r', (site', [])) (with_taken (before.put ++ told) g) k × IsLeft s (teller_of g) (seen_stack m) h (seen_stack m') k)))
  gone_more is_more told step s g h agreed =
      let g2 : Given = with_taken before.put g in
      let agreed2 : Agrees (r', (site', told)) g2 = agrees_taken (r', (site', told)) g before.put agreed in
      let was = before.gone s g h (agrees_untaken (r, (site1, [])) g before.put (step s g2 h agreed2).0) in (
        was.0,
        λ stands stays.
            let mid = was.1 stands stays in
            let end = (step s g2 mid.0 agreed2).1 mid.1.0 mid.1.1.0 in
            let same : (g.taken ++ (before.put ++ told)) ++ [] ≡ (g.taken ++ before.put) ++ told =
            append-nil (g.taken ++ (before.put ++ told)) ∙ sym (append_assoc g.taken before.put told) in
            (end.0, (end.1.0, (behind_as r' site' told [] before.put (before.put ++ told) g end.0 same end.1.1.0, end.1.1.1.0.0 ∙ mid.1.1.1))),
      )

  more_by : (is_more : Bool) (told : List (List ℕ)) → HasGone teller_of Agrees IsBehind (EndsStep is_more) (r, (site1, [])) (r', (site', told)) m1 m' →
      FaultsAre (site1.faults, 0) (site'.faults, 0) (Ok tt) → PatternsAre (Ok tt) pats1 pats' → Follows (adds_bytes (text_of_lines told)) out1 out' →
      Holds m' → (s : Setting) × ((h : History) × Stands s m' h) → RunsOn first r' m m' site site' out out' pats pats'
  more_by is_more told step faults patterns put holds stands = record {
    holds = holds;
    stands = stands;
    put = before.put ++ told;
    gone = gone_more is_more told step;
    out_is =
        puts_then (text_of_lines before.put) (text_of_lines told) out out1 out' before.out_is put
        ∙ ap (λ text. followed (adds_bytes text) out) (sym (text_of_both before.put told));
    faults_are = at_most site.faults site1.faults site'.faults before.faults_are faults.0;
    patterns_are = patterns ∙ before.patterns_are;
  }

  by_put : (is_more : Bool) (told : List (List ℕ)) (stepped : Result Bool Stop) → StepDone teller_of Agrees IsBehind (r, (site1, [])) (r', (site', told)) m1 m' stepped →
      FaultsAre (site1.faults, 0) (site'.faults, 0) (done_of stepped) → PatternsAre (done_of stepped) pats1 pats' → IsPut told stepped out1 out' (Ok is_more) →
      Holds m' → (s : Setting) × ((h : History) × Stands s m' h) → RunsOn first r' m m' site site' out out' pats pats'
  by_put is_more told stepped done faults patterns (all_put is put) holds stands =
      let D : Result Bool Stop → Type 0 = λ x. StepDone teller_of Agrees IsBehind (r, (site1, [])) (r', (site', told)) m1 m' x in
      let F : Result Bool Stop → Type 0 = λ x. FaultsAre (site1.faults, 0) (site'.faults, 0) (done_of x) in
      let P : Result Bool Stop → Type 0 = λ x. PatternsAre (done_of x) pats1 pats' in
      more_by is_more told (subst D (sym is) done) (subst F (sym is) faults) (subst P (sym is) patterns) put holds stands
  by_put is_more told stepped done faults patterns (put_failed is failed) holds stands = absurd (cc)

  pub runs_more : (is_more : Bool) → StepPut r r' m1 m' site1 site' out1 out' pats1 pats' (Ok is_more) → Holds m' → (s : Setting) × ((h : History) × Stands s m' h) →
      RunsOn first r' m m' site site' out out' pats pats'
  runs_more is_more step holds stands = by_put is_more step.told step.stepped step.done step.faults step.patterns step.put holds stands

-- ---- how it ended

pub whole_run : (first r' : Running) (m m' : Machine) (site site' : Shown Told) (out out' : Shown (List ℕ)) (pats pats' : Shown (List (List ℕ))) (done : Unit {0}) →
    RunEnds first r' m m' site site' out out' pats pats' (Ok done) → (need_of (seen_stack m') ≡ over) × RunsOn first r' m m' site site' out out' pats pats'
whole_run first r' m m' site site' out out' pats pats' done (comes_to_end is nothing runs) = (nothing, runs)
whole_run first r' m m' site site' out out' pats pats' done (falls_short stop is r1 m1 site1 out1 pats1 runs step) = absurd (cc)

-- the run went on to a step, which was stopped
pub record ShortRun (first r' : Running) (m m' : Machine) (site site' : Shown Told) (out out' : Shown (List ℕ)) (pats pats' : Shown (List (List ℕ))) (stop : Stop) : Type 0 where
  pub running : Running
  pub machine : Machine
  pub site_there : Shown Told
  pub out_there : Shown (List ℕ)
  pub pats_there : Shown (List (List ℕ))
  pub runs : RunsOn first running m machine site site_there out out_there pats pats_there
  pub step : StepPut running r' machine m' site_there site' out_there out' pats_there pats' (Err stop)

pub short_run : (first r' : Running) (m m' : Machine) (site site' : Shown Told) (out out' : Shown (List ℕ)) (pats pats' : Shown (List (List ℕ))) (stop : Stop) →
    RunEnds first r' m m' site site' out out' pats pats' (Err stop) → ShortRun first r' m m' site site' out out' pats pats' stop
short_run first r' m m' site site' out out' pats pats' stop (comes_to_end is nothing runs) = absurd (cc)
short_run first r' m m' site site' out out' pats pats' stop (falls_short stop1 is r1 m1 site1 out1 pats1 runs step) =
    let same : stop1 ≡ stop = cc in
    let P : Stop → Type 0 = λ stop. StepPut r1 r' m1 m' site1 site' out1 out' pats1 pats' (Err stop) in
    record { running = r1; machine = m1; site_there = site1; out_there = out1; pats_there = pats1; runs = runs; step = subst P same step }
