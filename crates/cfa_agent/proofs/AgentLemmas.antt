-- Steps of an agent, on whatever site it is handed.
use Rattle.std.proofs.Common.{◌≡◌, ℕ, ◌≤◌, ◌-◌, Bool, true, false, ◌||◌, List, [], ◌++◌, length, take, Some, Result, Ok, Err, IfOk, OnOk, ◌<◌, refl, sym, ap, subst, ◌∙◌, arith, append-nil, inr}
use Rattle.std.proofs.Math.Bool.{or-false}
use Rattle.std.proofs.lemmas.List.Elements.{All-nil}
use Rattle.cfa_base.specs.lemmas.Options.{each_some, one_some}
use Rattle.cfa_base.specs.Causes.{Rose}
use Rattle.cfa_base.specs.Patterns.{refuses}
use Rattle.cfa_base.specs.Shown.{Shown, HasFailed}
use Rattle.cfa_outside.specs.Sites.{Told, adds}
use Rattle.cfa_output.specs.declared.ends.Object.TheVariants.{Inputs, Site, Sink}
use Rattle.cfa_output.specs.declared.ends.Stop.{Stop}
use Rattle.cfa_output.specs.declared.ends.Stop.TheVariants.{Outside, Memory, Visits, Pattern}
use Rattle.cfa_frames.specs.Frames.{Stack, rest}
use Rattle.cfa_frames.specs.Moves.{Next, goes_on, is_too_large, need_of, nothing, over}
use Rattle.cfa_frames.specs.Steps.{step}
use Rattle.cfa_machine.specs.Reaching.{done_of}
use Rattle.cfa_machine.specs.Stacks.{Holds, Stands, seen_stack}
use Rattle.cfa_machine.specs.declared.machines.Machine.{Machine}
use Rattle.cfa_states.specs.Builds.{BuiltOn}
use Rattle.cfa_states.specs.History.{History, Event}
use Rattle.cfa_states.specs.Levels.{FaultsAre, PatternsAre}
use Rattle.cfa_states.specs.Tellers.{Teller}
use Rattle.cfa_states.specs.Views.{Setting}
use Rattle.cfa_walk.specs.Turns.{StepDone, machine_weight}
use Rattle.cfa_agent.specs.declared.agents.Progress.{Progress}
use Rattle.cfa_agent.specs.declared.agents.Progress.TheVariants.{Going, Ended, Stopped}
use Rattle.cfa_agent.specs.declared.agents.Stepped.{Stepped}
use Rattle.cfa_agent.specs.declared.agents.Stepped.TheVariants as answers
use Rattle.cfa_agent.specs.declared.progress.Running.{Running}
use Rattle.cfa_agent.specs.declared.running.Tally.{Tally}
use Rattle.cfa_agent.specs.Actuations.{Mark, mark_of}
use Rattle.cfa_agent.specs.Agents.{Adds, Answers, Arrives, BuildsThere, IsAgain, IsAt, IsLeftBy, IsMidway, IsMore, IsSound, RunningIs, StepAs, StepCounts, StepFrom, StepRefuses, StopAs, StoppedAt, history_at, next_by, weight_left}
use Rattle.cfa_agent.specs.Marks.{marks_of}
use Rattle.cfa_agent.specs.Ran.{IfBothTold, counts_of, started}
use Rattle.cfa_agent.specs.Runs.{Start, tally_in}
use Rattle.cfa_agent.specs.Standing.{Agrees, Given, IsBehind, IsWholeLog, Rests, Standing, since, teller_of}
use Rattle.cfa_agent.specs.Stepping.{events_since, lines_since, log_since, recorded_in, stepper}
use Rattle.cfa_agent.specs.lemmas.Hosts.{adds_none}
use Rattle.cfa_agent.proofs.Behind.{events_are}
use Rattle.cfa_agent.proofs.BracketedLogs.{rests_none}
use Rattle.cfa_agent.proofs.MarkLemmas.{whole_none}

-- what holds of two holds of what they are
two_as : {A B : Type 0} (F : A → B → Type 0) (a a' : A) (b b' : B) → a' ≡ a → b' ≡ b → F a b → F a' b'
two_as F a a' b b' first second f = subst (λ b. F a' b) (sym second) (subst (λ a. F a b) (sym first) f)

-- where a step begins, on a site
abbrev given_at : (moment : ℕ) → (locks : Bool) → (before after : Told) → (h : History) → (lines : List (List ℕ)) → Given
given_at moment locks before after h lines =
    record { start = started moment locks before after; base = h; had_record = recorded_in h; log = before.log; lines = lines; taken = [] }

-- a step agrees with the marks of all that it added
agrees_there : (moment : ℕ) (locks : Bool) (w : Standing) (before after : Told) (h : History) (lines : List (List ℕ)) → w.1.0.told ≡ Some after →
    Agrees w (given_at moment locks before after h lines)
agrees_there moment locks w before after h lines is t told on k le =
    let g : Given = given_at moment locks before after h lines in
    ap (λ (t : Told). mark_of (marks_of (since g t)) k) (one_some is told)

whole_any : (n : ℕ) → IsWholeLog n []
whole_any n = record { gives = whole_none.gives; within = All-nil (λ (m : Mark). m.instance ≤ n) }

stands_there : (moment : ℕ) (locks : Bool) (r : Running) (site : Shown Told) (lines : List (List ℕ)) (before after : Told) (h : History) → RunningIs moment locks r h →
    site.told ≡ Some before → IsBehind (r, (site, lines)) (given_at moment locks before after h lines) h
stands_there moment locks r site lines before after h is told = record {
  events = [];
  is = refl;
  came = record {
    moment_is = is.moment_is;
    locks_are = is.locks_are;
    number_is = is.number_is;
    has_record_is = is.recorded_is ∙ sym (or-false (recorded_in h));
    recorded_is = is.recorded_is;
    counts_are = is.counts_are;
    whole = whole_any r.number;
    rests = subst (Rests (recorded_in h) before.world []) (sym is.recorded_is) (rests_none (recorded_in h) before.world);
    told_is = told ∙ ap Some (sym (adds_none before));
    lines_are = sym (append-nil lines);
  };
}

module _ (moment : ℕ) (locks : Bool) (r' : Running) (site' : Shown Told) (lines lines' : List (List ℕ)) (before after : Told) (h k : History) (is : site'.told ≡ Some after)
    (behind : IsBehind (r', (site', lines')) (given_at moment locks before after h lines) k) where
  running_there : RunningIs moment locks r' k
  running_there = record {
    moment_is = behind.came.moment_is;
    locks_are = behind.came.locks_are;
    number_is = behind.came.number_is;
    recorded_is = behind.came.recorded_is;
    counts_are = behind.came.counts_are;
  }

  added_there : Adds (started moment locks before after) h k before after lines lines'
  added_there =
      let start : Start = started moment locks before after in
      let same : behind.events ≡ events_since h k = sym (events_are (r', (site', lines')) (given_at moment locks before after h lines) k behind) in
      record {
        log_is = one_some is behind.came.told_is ∙ ap (λ (events : List Event). adds (log_since start h (recorded_in h) events) before) same;
        lines_are = behind.came.lines_are ∙ ap (λ (events : List Event). lines ++ lines_since start h (recorded_in h) events) same;
      }

-- it stands where the definition's step leads
module _ (s : Setting) (moment : ℕ) (locks : Bool) (before after : Told) (x : Next) (lines lines' : List (List ℕ)) where
  abbrev start : Start
  start = started moment locks before after

  arrives_at : (p' : Progress) (y : Next) → next_by s start x ≡ y → IsAt s moment locks p' y → Adds start (history_at x) (history_at y) before after lines lines' →
      Arrives s moment locks start x lines lines' before after p'
  arrives_at p' y is at added =
      let P : Next → Type 0 = λ y. IsAt s moment locks p' y in
      let Q : Next → Type 0 = λ y. Adds start (history_at x) (history_at y) before after lines lines' in
      record { is_at = subst P (sym is) at; adds = subst Q (sym is) added }

module _ (m m' : Machine) (r r' : Running) (site site' : Shown Told) (lines lines' : List (List ℕ)) (s : Setting) (moment : ℕ) (locks : Bool) (before after : Told)
    (was : site.told ≡ Some before) (now : site'.told ≡ Some after) (st : Stack) (h : History)
    (stands : Stands s m h) (stack : seen_stack m ≡ st) (running : RunningIs moment locks r h) where
  abbrev begins : Start
  begins = started moment locks before after

  abbrev g : Given
  g = given_at moment locks before after h lines

  agreed : Agrees (r', (site', lines')) g
  agreed = agrees_there moment locks (r', (site', lines')) before after h lines now

  behind : IsBehind (r, (site, lines)) g h
  behind = stands_there moment locks r site lines before after h running was

  step_is : (y : Next) → step s (teller_of g) (seen_stack m) h ≡ y → next_by s begins (goes_on st h) ≡ y
  step_is y is = ap (λ (st : Stack). step s (teller_of g) st h) (sym stack) ∙ is

  more_from : StepDone teller_of Agrees IsBehind (r, (site, lines)) (r', (site', lines')) m m' (Ok true) →
      StepFrom s moment locks begins (goes_on st h) lines lines' before after (Going m' r') answers.More
  more_from done =
      let end = (done s g h agreed).1 stands behind in
      let k : History = end.0 in
      let is : next_by s begins (goes_on st h) ≡ goes_on (seen_stack m') k = step_is (goes_on (seen_stack m') k) end.1.1.1.0.1 in (
        arrives_at s moment locks before after (goes_on st h) lines lines' (Going m' r') (goes_on (seen_stack m') k) is
            (end.1.0, (refl, running_there moment locks r' site' lines lines' before after h k now end.1.1.0))
            (added_there moment locks r' site' lines lines' before after h k now end.1.1.0),
        subst IsMidway (sym is) end.1.1.1.1,
      )

  ended_from : StepDone teller_of Agrees IsBehind (r, (site, lines)) (r', (site', lines')) m m' (Ok false) →
      StepFrom s moment locks begins (goes_on st h) lines lines' before after (Ended r'.tally) answers.Ended
  ended_from done =
      let end = (done s g h agreed).1 stands behind in
      let k : History = end.0 in
      arrives_at s moment locks before after (goes_on st h) lines lines' (Ended r'.tally) (goes_on (seen_stack m') k) (step_is (goes_on (seen_stack m') k) end.1.1.1.0.1)
      (end.1.1.1.1, end.1.1.0.came.counts_are)
      (added_there moment locks r' site' lines lines' before after h k now end.1.1.0)

  visits_from : StepDone teller_of Agrees IsBehind (r, (site, lines)) (r', (site', lines')) m m' (Err Visits) →
      Arrives s moment locks begins (goes_on st h) lines lines' before after (Stopped Visits r'.tally)
  visits_from done =
      let past = (done s g h agreed).1 stands behind in
      let k : History = past.1.0 in
      arrives_at s moment locks before after (goes_on st h) lines lines' (Stopped Visits r'.tally) (is_too_large k) (step_is (is_too_large k) past.1.1.1)
      past.1.1.0.came.counts_are
      (added_there moment locks r' site' lines lines' before after h k now past.1.1.0)

  built_from : (text : List ℕ) → StepDone teller_of Agrees IsBehind (r, (site, lines)) (r', (site', lines')) m m' (Err (Pattern text)) → BuildsThere s begins (goes_on st h) text
  built_from text done =
      subst (λ (c : Stack). BuiltOn s (rest s (teller_of g) c h) text) stack ((done s g h agreed).1 stands behind)

  stop_from : (stop kept : Stop) → IsAgain stop kept → StepDone teller_of Agrees IsBehind (r, (site, lines)) (r', (site', lines')) m m' (Err stop) →
      StopAs s moment locks begins (goes_on st h) lines lines' before after (Stopped kept r'.tally) stop
  stop_from (Outside object) kept again done = tt
  stop_from Memory kept again done = tt
  stop_from Visits kept again done =
      subst (λ (kept : Stop). Arrives s moment locks begins (goes_on st h) lines lines' before after (Stopped kept r'.tally)) (sym again) (visits_from done)
  stop_from (Pattern text) kept again done = built_from text done

  -- by how the step ended
  left_from : (stepped : Result Bool Stop) (p' : Progress) (answer : Stepped) → IsLeftBy m' r' stepped p' answer →
      StepDone teller_of Agrees IsBehind (r, (site, lines)) (r', (site', lines')) m m' stepped →
      StepFrom s moment locks begins (goes_on st h) lines lines' before after p' answer
  left_from (Ok true) p' answer is done =
      let F : Progress → Stepped → Type 0 = λ p answer. StepFrom s moment locks begins (goes_on st h) lines lines' before after p answer in
      two_as F (Going m' r') p' answers.More answer is.0 is.1 (more_from done)
  left_from (Ok false) p' answer is done =
      let F : Progress → Stepped → Type 0 = λ p answer. StepFrom s moment locks begins (goes_on st h) lines lines' before after p answer in
      two_as F (Ended r'.tally) p' answers.Ended answer is.0 is.1 (ended_from done)
  left_from (Err stop) p' answer is done =
      let F : Progress → Stepped → Type 0 = λ p answer. StepFrom s moment locks begins (goes_on st h) lines lines' before after p answer in
      two_as F (Stopped is.0 r'.tally) p' (answers.Stopped stop) answer is.1.1.0 is.1.1.1 (stop_from stop is.0 is.1.0 done)

pub stepped_as : (m m' : Machine) (r r' : Running) (site site' : Shown Told) (lines lines' : List (List ℕ)) (stepped : Result Bool Stop) (p' : Progress) (answer : Stepped) →
    IsLeftBy m' r' stepped p' answer → StepDone teller_of Agrees IsBehind (r, (site, lines)) (r', (site', lines')) m m' stepped →
    (s : Setting) (moment : ℕ) (locks : Bool) (x : Next) → IsAt s moment locks (Going m r) x →
    IfBothTold (λ before after. StepAs s moment locks x lines lines' before after p' answer) site site'
stepped_as m m' r r' site site' lines lines' stepped p' answer is done s moment locks (goes_on st h) at =
    each_some site.told _ (λ before was. each_some site'.told _ (λ after now.
    left_from m m' r r' site site' lines lines' s moment locks before after was now st h at.0 at.1.0 at.1.1 stepped p' answer is done))
stepped_as m m' r r' site site' lines lines' stepped p' answer is done s moment locks (is_too_large h) at = absurd at

pub sound_as : (m : Machine) (r : Running) (stepped : Result Bool Stop) (p : Progress) (answer : Stepped) → IsLeftBy m r stepped p answer →
    OnOk stepped (Holds m) → OnOk stepped ((s : Setting) × ((h : History) × Stands s m h)) → IsSound p
sound_as m r (Ok true) p answer is holds stands = subst IsSound (sym is.0) (holds, stands)
sound_as m r (Ok false) p answer is holds stands = subst IsSound (sym is.0) tt
sound_as m r (Err stop) p answer is holds stands = subst IsSound (sym is.1.1.0) tt

pub answers_as : (m : Machine) (r : Running) (stepped : Result Bool Stop) (p : Progress) (answer : Stepped) → IsLeftBy m r stepped p answer → Answers p answer
answers_as m r (Ok true) p answer is = two_as Answers (Going m r) p answers.More answer is.0 is.1 tt
answers_as m r (Ok false) p answer is = two_as Answers (Ended r.tally) p answers.Ended answer is.0 is.1 tt
answers_as m r (Err stop) p answer is = two_as Answers (Stopped is.0 r.tally) p (answers.Stopped stop) answer is.1.1.0 is.1.1.1 (inr is.1.0)

never_rose : Rose 0 0 → ⊥
never_rose rose = absurd (omega (arith, rose))

stop_counts : (site site' : Shown Told) (stop : Stop) → FaultsAre (site.faults, 0) (site'.faults, 0) (Err stop) → StepCounts (answers.Stopped stop) site site'
stop_counts site site' (Outside Inputs) faults = faults
stop_counts site site' (Outside Site) faults = faults.0
stop_counts site site' (Outside Sink) faults = absurd (never_rose faults)
stop_counts site site' Memory faults = tt
stop_counts site site' Visits faults = tt
stop_counts site site' (Pattern text) faults = tt

pub counts_as : (m : Machine) (r : Running) (site site' : Shown Told) (stepped : Result Bool Stop) (p : Progress) (answer : Stepped) → IsLeftBy m r stepped p answer →
    FaultsAre (site.faults, 0) (site'.faults, 0) (done_of stepped) → StepCounts answer site site'
counts_as m r site site' (Ok true) p answer is faults = subst (λ (a : Stepped). StepCounts a site site') (sym is.1) tt
counts_as m r site site' (Ok false) p answer is faults = subst (λ (a : Stepped). StepCounts a site site') (sym is.1) tt
counts_as m r site site' (Err stop) p answer is faults = subst (λ (a : Stepped). StepCounts a site site') (sym is.1.1.1) (stop_counts site site' stop faults)

stop_refuses : (pats pats' : Shown (List (List ℕ))) (stop : Stop) → PatternsAre (Err stop) pats pats' → StepRefuses (answers.Stopped stop) pats pats'
stop_refuses pats pats' (Outside object) are = are
stop_refuses pats pats' Memory are = are
stop_refuses pats pats' Visits are = are
stop_refuses pats pats' (Pattern text) are = are

pub refuses_as : (m : Machine) (r : Running) (pats pats' : Shown (List (List ℕ))) (stepped : Result Bool Stop) (p : Progress) (answer : Stepped) → IsLeftBy m r stepped p answer →
    PatternsAre (done_of stepped) pats pats' → StepRefuses answer pats pats'
refuses_as m r pats pats' (Ok true) p answer is are = subst (λ (a : Stepped). StepRefuses a pats pats') (sym is.1) are
refuses_as m r pats pats' (Ok false) p answer is are = subst (λ (a : Stepped). StepRefuses a pats pats') (sym is.1) are
refuses_as m r pats pats' (Err stop) p answer is are = subst (λ (a : Stepped). StepRefuses a pats pats') (sym is.1.1.1) (stop_refuses pats pats' stop are)

pub lighter_as : (m m' : Machine) (r : Running) (stepped : Result Bool Stop) (p : Progress) (answer : Stepped) → IsLeftBy m' r stepped p answer →
    IfOk stepped (λ is_more. is_more ≡ true → machine_weight m' < machine_weight m) → IsMore answer → weight_left p < machine_weight m
lighter_as m m' r (Ok true) p answer is lighter more = subst (λ (p : Progress). weight_left p < machine_weight m) (sym is.0) (lighter refl)
lighter_as m m' r (Ok false) p answer is lighter more = absurd (subst IsMore is.1 more)
lighter_as m m' r (Err stop) p answer is lighter more = absurd (subst IsMore is.1.1.1 more)

-- ---- what has ended

nothing_since : (h : History) → events_since h h ≡ []
nothing_since h = let none : length h - length h ≡ 0 = omega arith in ap (λ n. take n h) none

-- the law that nothing is left to do behind the end
abbrev pub StaysOver : Type 0
StaysOver = (s : Setting) (t : Teller) (st : Stack) (h : History) → need_of st ≡ over → step s t st h ≡ goes_on st h

adds_nothing : (start : Start) (h : History) (before after : Told) (lines : List (List ℕ)) → before ≡ after → Adds start h h before after lines lines
adds_nothing start h before after lines same = record {
  log_is =
      sym same ∙ sym (adds_none before)
      ∙ ap (λ (events : List Event). adds (log_since start h (recorded_in h) events) before) (sym (nothing_since h));
  lines_are = sym (append-nil lines) ∙ ap (λ (events : List Event). lines ++ lines_since start h (recorded_in h) events) (sym (nothing_since h));
}

rests_there : StaysOver → (s : Setting) (moment : ℕ) (locks : Bool) (before after : Told) (x : Next) (tally : Tally) (lines : List (List ℕ)) → before ≡ after →
    IsAt s moment locks (Ended tally) x → StepAs s moment locks x lines lines before after (Ended tally) answers.Ended
rests_there law s moment locks before after (goes_on st h) tally lines same at =
    let start : Start = started moment locks before after in
    arrives_at s moment locks before after (goes_on st h) lines lines (Ended tally) (goes_on st h) (law s (stepper start h (recorded_in h)) st h at.0)
    at
    (adds_nothing start h before after lines same)
rests_there law s moment locks before after (is_too_large h) tally lines same at = absurd at

pub ended_again : StaysOver → (s : Setting) (moment : ℕ) (locks : Bool) (x : Next) (tally : Tally) (lines : List (List ℕ)) (site : Shown Told) →
    IsAt s moment locks (Ended tally) x → IfBothTold (λ before after. StepAs s moment locks x lines lines before after (Ended tally) answers.Ended) site site
ended_again law s moment locks x tally lines site at =
    each_some site.told _ (λ before was. each_some site.told _ (λ after now.
    rests_there law s moment locks before after x tally lines (one_some was now) at))
