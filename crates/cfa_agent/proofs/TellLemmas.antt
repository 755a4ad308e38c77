-- What was told of visits and of how instances end.
use Rattle.std.proofs.Common.{◌≡◌, ℕ, suc, ◌+◌, ◌≤◌, Bool, true, false, ◌||◌, List, [], ◌∷◌, ◌++◌, Some, option_map, IfSome, Result, Ok, Err, IfOk, refl, sym, ap, subst, ◌∙◌, arith, append-nil, zero-add}
use Rattle.std.proofs.Math.Bool.{or-false}
use Rattle.cfa_base.specs.lemmas.Options.{some_at}
use Rattle.cfa_base.specs.Shown.{Shown, Follows, Untouched}
use Rattle.cfa_statuses.specs.declared.levels.Status.{Status}
use Rattle.cfa_outside.specs.declared.sites.Entry.{Entry}
use Rattle.cfa_outside.specs.Sites.{Told, adds}
use Rattle.cfa_output.specs.Lines.{report_line}
use Rattle.cfa_output.specs.declared.ends.Stop.{Stop}
use Rattle.cfa_resolve.specs.declared.instances.Instance.{Instance}
use Rattle.cfa_resolve.specs.declared.instances.Work.{Work}
use Rattle.cfa_resolve.specs.declared.instances.Work.TheVariants.{Call, Report}
use Rattle.cfa_vars.specs.declared.scoping.Datum.{Datum}
use Rattle.cfa_outcomes.specs.declared.outcomes.Outcome.{Outcome}
use Rattle.cfa_outcomes.specs.declared.outcomes.Outcome.TheVariants.{Kept}
use Rattle.cfa_states.specs.History.{History, Event, Listed, Told as told_event}
use Rattle.cfa_states.specs.declared.endings.Ending.TheVariants.{One}
use Rattle.cfa_states.specs.Levels.{HasVisited, HasTold, Later, outcomes_of, visited_by, EndedAs}
use Rattle.cfa_states.specs.Tellers.{worst_in, inner_path}
use Rattle.cfa_agent.specs.declared.progress.Running.{Running}
use Rattle.cfa_agent.specs.Ending.{tallied, heard, Hears}
use Rattle.cfa_agent.specs.Locking.{is_skipped, lock_entries}
use Rattle.cfa_agent.specs.Runs.{Start, counted, actuations_in, outcome_by_work, one_with_acts}
use Rattle.cfa_agent.specs.Standing.{Given, Standing, CameBy, IsBehind, Agrees, teller_of, first_told, log_of_events, world_of_events}
use Rattle.cfa_agent.specs.Stepping.{events_since, work_added, work_recorded, work_told}
use Rattle.cfa_agent.proofs.Agreeing.{lock_keeps, same_before}
use Rattle.cfa_agent.proofs.Behind.{EndsWith, behind_more, events_are, one_more_ended, one_more_skipped}
use Rattle.cfa_agent.proofs.BracketedLogs.{rests_lock}
use Rattle.cfa_agent.proofs.Records.{record_of_lock}

-- ---- visits

skipped_by : (w : Standing) (g : Given) (h : History) (instance : Instance) (skipped : Bool) →
    IfSome w.1.0.told (λ t. skipped ≡ is_skipped w.0.moment w.0.locks t.world instance) → IsBehind w g h →
    (teller_of g).skips h instance ≡ skipped
skipped_by w g h instance skipped answer behind =
    let now : Told = adds (log_of_events g behind.events) (first_told g) in
    ap (λ (events : List Event). is_skipped g.start.moment g.start.has_locks (world_of_events g events) instance) (events_are w g h behind)
    ∙ sym (some_at w.1.0.told now (λ t. skipped ≡ is_skipped w.0.moment w.0.locks t.world instance) behind.came.told_is answer
    ∙ ap (λ moment. is_skipped moment w.0.locks now.world instance) behind.came.moment_is
    ∙ ap (λ locks. is_skipped g.start.moment locks now.world instance) behind.came.locks_are)

came_skipped : (r : Running) (site : Shown Told) (lines : List (List ℕ)) (g : Given) (events : List Event) (h : History) (instance : Instance) (status : Status) →
    CameBy (r, (site, lines)) g events h → CameBy (heard true r, (site, lines)) g events (told_event instance [] ∷ (Listed instance status ∷ h))
came_skipped r site lines g events h instance status came = record {
  moment_is = came.moment_is;
  locks_are = came.locks_are;
  number_is = came.number_is;
  has_record_is = came.has_record_is;
  recorded_is = came.recorded_is;
  counts_are = one_more_skipped r.tally ∙ ap (λ counts. counted [] counts) came.counts_are;
  whole = came.whole;
  rests = came.rests;
  told_is = came.told_is;
  lines_are = came.lines_are;
}

came_entered : (r : Running) (site : Shown Told) (lines : List (List ℕ)) (g : Given) (events : List Event) (h : History) (instance : Instance) (status : Status) →
    CameBy (r, (site, lines)) g events h → CameBy (r, (site, lines)) g events (Listed instance status ∷ h)
came_entered r site lines g events h instance status came = came

behind_visit : (r : Running) (site : Shown Told) (lines : List (List ℕ)) (g : Given) (h : History) (instance : Instance) (status : Status) (skipped : Bool) →
    IsBehind (r, (site, lines)) g h → IsBehind (heard skipped r, (site, lines)) g (visited_by instance status skipped h)
behind_visit r site lines g h instance status true behind = record {
  events = told_event instance [] ∷ (Listed instance status ∷ behind.events);
  is = ap (λ (l : List Event). told_event instance [] ∷ (Listed instance status ∷ l)) behind.is;
  came = came_skipped r site lines g behind.events h instance status behind.came;
}
behind_visit r site lines g h instance status false behind = record {
  events = Listed instance status ∷ behind.events;
  is = ap (λ (l : List Event). Listed instance status ∷ l) behind.is;
  came = came_entered r site lines g behind.events h instance status behind.came;
}

agrees_visit : (r : Running) (site : Shown Told) (lines : List (List ℕ)) (g : Given) (skipped : Bool) → Agrees (heard skipped r, (site, lines)) g → Agrees (r, (site, lines)) g
agrees_visit r site lines g true agreed = agreed
agrees_visit r site lines g false agreed = agreed

visit_heard : (r : Running) (site : Shown Told) (lines : List (List ℕ)) (instance : Instance) (status : Status) (skipped : Bool) →
    IfSome site.told (λ t. skipped ≡ is_skipped r.moment r.locks t.world instance) →
    HasVisited teller_of Agrees IsBehind (r, (site, lines)) (heard skipped r, (site, lines)) instance status skipped
visit_heard r site lines instance status skipped answer g h agreed = (
  agrees_visit r site lines g skipped agreed,
  λ behind.
      (skipped_by (r, (site, lines)) g h instance skipped answer behind, behind_visit r site lines g h instance status skipped behind),
)

pub visit_told : (r r' : Running) (site site' : Shown Told) (lines : List (List ℕ)) (instance : Instance) (status : Status) (skipped : Bool) →
    IfSome site.told (λ t. skipped ≡ is_skipped r.moment r.locks t.world instance) → r' ≡ heard skipped r → Untouched site site' →
    HasVisited teller_of Agrees IsBehind (r, (site, lines)) (r', (site', lines)) instance status skipped
visit_told r r' site site' lines instance status skipped answer counted untouched =
    let P : Running → Type 0 = λ q. HasVisited teller_of Agrees IsBehind (r, (site, lines)) (q, (site', lines)) instance status skipped in
    let Q : Shown Told → Type 0 = λ s. HasVisited teller_of Agrees IsBehind (r, (site, lines)) (heard skipped r, (s, lines)) instance status skipped in
    subst P (sym counted) (subst Q (sym untouched) (visit_heard r site lines instance status skipped answer))

-- by what was answered
pub visit_result : (r r' : Running) (site site' : Shown Told) (lines : List (List ℕ)) (instance : Instance) (status : Status) (result : Result Bool Stop) →
    Hears r r' instance site site' result → IfOk result (HasVisited teller_of Agrees IsBehind (r, (site, lines)) (r', (site', lines)) instance status)
visit_result r r' site site' lines instance status (Ok skipped) hears = visit_told r r' site site' lines instance status skipped hears.answer hears.counted hears.untouched
visit_result r r' site site' lines instance status (Err stop) hears = tt

pub visit_later : (r r' : Running) (site site' : Shown Told) (n : ℕ) (instance : Instance) (result : Result Bool Stop) →
    Hears r r' instance site site' result → IfOk result (λ skipped. Later (site.faults, n) (site'.faults, n))
visit_later r r' site site' n instance (Ok skipped) hears =
    let P : ℕ → Type 0 = λ faults. site.faults ≤ faults in
    (subst P (sym (ap (λ (s : Shown Told). s.faults) hears.untouched)) (omega arith), refl)
visit_later r r' site site' n instance (Err stop) hears = tt

-- ---- instances without acts

told_more : (site site' : Shown Told) (t : Told) (entries : List Entry) → site.told ≡ Some t → Follows (adds entries) site site' → site'.told ≡ Some (adds entries t)
told_more site site' t entries is follows = ap (λ (s : Shown Told). s.told) follows ∙ ap (option_map (adds entries)) is

settled_agrees : (r : Running) (site site' : Shown Told) (lines lines' : List (List ℕ)) (instance : Instance) (outcome : Outcome) (g : Given) →
    Follows (adds (lock_entries r.moment r.locks instance)) site site' → Agrees (tallied outcome r, (site', lines')) g → Agrees (r, (site, lines)) g
settled_agrees r site site' lines lines' instance outcome g locked agreed t is on =
    let entries : List Entry = lock_entries r.moment r.locks instance in
    same_before r.number r.number g t entries (lock_keeps r.number r.moment instance r.locks) on
    (agreed (adds entries t) (told_more site site' t entries is locked))

-- the lock by what the run began with
pub same_lock : (w : Standing) (g : Given) (h : History) (instance : Instance) → IsBehind w g h → lock_entries g.start.moment g.start.has_locks instance ≡ lock_entries w.0.moment w.0.locks instance
same_lock w g h instance behind =
    ap (λ moment. lock_entries moment g.start.has_locks instance) (sym behind.came.moment_is)
    ∙ ap (λ locks. lock_entries w.0.moment locks instance) (sym behind.came.locks_are)

-- where the work needs no entries and is no acts
pub record IsPlain (instance : Instance) (told : List (List ℕ)) : Type 0 where
  pub none_written : (s : Start) (base : History) (had : Bool) (log : List Entry) (number : ℕ) → work_added s base had log number instance instance.work ≡ []
  pub none_counted : one_with_acts instance.work ≡ 0
  pub none_recorded : (outcome : Outcome) → work_recorded outcome instance.work ≡ false
  pub lines_told : (s : Start) (base : History) (had : Bool) (events : List Event) → work_told s base had events instance instance.work ≡ told

settled_behind : (r : Running) (site site' : Shown Told) (lines lines' : List (List ℕ)) (instance : Instance) (outcome : Outcome) (told : List (List ℕ)) (g : Given) (h : History) →
    IsPlain instance told → Follows (adds (lock_entries r.moment r.locks instance)) site site' → lines' ≡ lines ++ told →
    IsBehind (r, (site, lines)) g h → IsBehind (tallied outcome r, (site', lines')) g (told_event instance (outcome ∷ []) ∷ h)
settled_behind r site site' lines lines' instance outcome told g h plain locked put behind =
    let entries : List Entry = lock_entries r.moment r.locks instance in
    let log : List Entry = log_of_events g behind.events in
    let ends : EndsWith r (tallied outcome r) site' lines lines' (adds log (first_told g)) instance.work outcome entries told = record {
      moment_is = refl;
      locks_are = refl;
      number_is = sym (ap (λ n. n + r.number) plain.none_counted ∙ zero-add r.number);
      has_record_is = record_of_lock r.has_record r.moment r.locks instance;
      recorded_is = sym (ap (λ b. r.has_record || b) (plain.none_recorded outcome) ∙ or-false r.has_record);
      counts_are = one_more_ended outcome r.tally;
      told_is = told_more site site' (adds log (first_told g)) entries behind.came.told_is locked;
      lines_are = put;
    } in
    behind_more r (tallied outcome r) site site' lines lines' g h instance outcome entries told behind ends
    (ap (λ first. first ++ lock_entries g.start.moment g.start.has_locks instance) (plain.none_written g.start g.base g.had_record log (suc (actuations_in (behind.events ++ g.base))))
    ∙ same_lock (r, (site, lines)) g h instance behind)
    (plain.lines_told g.start g.base g.had_record behind.events)
    ((lock_keeps r.number r.moment instance r.locks).whole log behind.came.whole)
    (rests_lock g.had_record g.start.world log r.has_record r.moment r.locks instance behind.came.rests)

-- what a teller of the definition says of it
abbrev pub TellsPlainly : Instance → (called outcome : Outcome) → Type 0
TellsPlainly instance called outcome = (g : Given) (h : History) → EndedAs instance.work instance called h → outcomes_of (teller_of g) h instance instance.work ≡ outcome ∷ []

plain_told : (r : Running) (site site' : Shown Told) (lines lines' : List (List ℕ)) (instance : Instance) (called outcome : Outcome) (told : List (List ℕ)) →
    IsPlain instance told → TellsPlainly instance called outcome →
    Follows (adds (lock_entries r.moment r.locks instance)) site site' → lines' ≡ lines ++ told →
    HasTold teller_of Agrees IsBehind (r, (site, lines)) (tallied outcome r, (site', lines')) instance called (One outcome)
plain_told r site site' lines lines' instance called outcome told plain tells locked put g h agreed = (
  settled_agrees r site site' lines lines' instance outcome g locked agreed,
  λ behind ended.
      (tells g h ended, settled_behind r site site' lines lines' instance outcome told g h plain locked put behind),
)

plain_by : (instance : Instance) (work : Work) (told : List (List ℕ)) → instance.work ≡ work →
    ((s : Start) (base : History) (had : Bool) (log : List Entry) (number : ℕ) → work_added s base had log number instance work ≡ []) → one_with_acts work ≡ 0 →
    ((outcome : Outcome) → work_recorded outcome work ≡ false) →
    ((s : Start) (base : History) (had : Bool) (events : List Event) → work_told s base had events instance work ≡ told) → IsPlain instance told
plain_by instance work told is written counted recorded put = record {
  none_written = λ s base had log number. ap (work_added s base had log number instance) is ∙ written s base had log number;
  none_counted = ap one_with_acts is ∙ counted;
  none_recorded = λ outcome. ap (work_recorded outcome) is ∙ recorded outcome;
  lines_told = λ s base had events. ap (work_told s base had events instance) is ∙ put s base had events;
}

-- a report
pub report_told : (r r' : Running) (site site' : Shown Told) (lines lines' : List (List ℕ)) (instance : Instance) (called : Outcome) (content : List ℕ) →
    instance.work ≡ Report content → Follows (adds (lock_entries r.moment r.locks instance)) site site' → r' ≡ tallied Kept r → lines' ≡ lines ++ (report_line content ∷ []) →
    HasTold teller_of Agrees IsBehind (r, (site, lines)) (r', (site', lines')) instance called (One Kept)
report_told r r' site site' lines lines' instance called content is locked counted put =
    let P : Running → Type 0 = λ q. HasTold teller_of Agrees IsBehind (r, (site, lines)) (q, (site', lines')) instance called (One Kept) in
    subst P (sym counted) (plain_told r site site' lines lines' instance called Kept (report_line content ∷ [])
    (plain_by instance (Report content) (report_line content ∷ []) is (λ s base had log number. refl) refl (λ outcome. refl) (λ s base had events. refl))
    (λ g h ended. ap (outcomes_of (teller_of g) h instance) is) locked put)

-- a call
call_outcome : (instance : Instance) (called : Outcome) (name : List ℕ) (arguments : List Datum) → instance.work ≡ Call name arguments → TellsPlainly instance called called
call_outcome instance called name arguments is g h ended =
    let P : Work → Type 0 = λ work. EndedAs work instance called h in
    let same : called ≡ worst_in h (inner_path instance) = subst P is ended in
    ap (outcomes_of (teller_of g) h instance) is
    ∙ ap (λ work. outcome_by_work g.start (world_of_events g (events_since g.base h)) h instance work ∷ []) is
    ∙ ap (λ outcome. outcome ∷ []) (sym same)

pub call_told : (r r' : Running) (site site' : Shown Told) (lines : List (List ℕ)) (instance : Instance) (called : Outcome) (name : List ℕ) (arguments : List Datum) →
    instance.work ≡ Call name arguments → Follows (adds (lock_entries r.moment r.locks instance)) site site' → r' ≡ tallied called r →
    HasTold teller_of Agrees IsBehind (r, (site, lines)) (r', (site', lines)) instance called (One called)
call_told r r' site site' lines instance called name arguments is locked counted =
    let P : Running → Type 0 = λ q. HasTold teller_of Agrees IsBehind (r, (site, lines)) (q, (site', lines)) instance called (One called) in
    subst P (sym counted) (plain_told r site site' lines lines instance called called []
    (plain_by instance (Call name arguments) [] is (λ s base had log number. refl) refl (λ outcome. refl) (λ s base had events. refl))
    (call_outcome instance called name arguments is) locked (sym (append-nil lines)))
