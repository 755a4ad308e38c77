-- What was told of how instances with acts end.
use Rattle.std.proofs.Common.{◌≡◌, ℕ, suc, ◌+◌, ◌<◌, ◌≤◌, ◌^◌, ◌||◌, All, List, [], ◌∷◌, ◌++◌, length, Option, Some, option_map, IfSome, refl, sym, ap, subst, ◌∙◌, arith}
use Rattle.cfa_base.specs.declared.limits.TheConstants.{MOST_SOURCE_BYTES}
use Rattle.cfa_base.specs.declared.places.PromiseId.{PromiseId}
use Rattle.cfa_base.specs.lemmas.Options.{some_at}
use Rattle.cfa_journal.specs.Records.{IsId}
use Rattle.cfa_schema.specs.Laws.{IsCounted}
use Rattle.cfa_base.specs.Shown.{Shown, Follows}
use Rattle.cfa_outside.specs.declared.sites.Entry.{Entry}
use Rattle.cfa_outside.specs.declared.worlds.World.{World}
use Rattle.cfa_outside.specs.Sites.{Told, adds}
use Rattle.cfa_acts.specs.declared.acts.Act.{Act}
use Rattle.cfa_resolve.specs.declared.instances.Instance.{Instance}
use Rattle.cfa_resolve.specs.declared.instances.Work.TheVariants.{Acts}
use Rattle.cfa_outcomes.specs.declared.outcomes.Outcome.{Outcome}
use Rattle.cfa_states.specs.History.{History, Event, Told as told_event}
use Rattle.cfa_states.specs.declared.endings.Ending.TheVariants.{One}
use Rattle.cfa_states.specs.Levels.{HasTold, outcomes_of}
use Rattle.cfa_states.specs.Tellers.{actuated, acts_of}
use Rattle.cfa_agent.specs.declared.actuating.Actuation.{Actuation}
use Rattle.cfa_agent.specs.declared.progress.Running.{Running}
use Rattle.cfa_agent.specs.Actuating.{DoesActs, done_met, mark_met}
use Rattle.cfa_agent.specs.Actuations.{Mark, Done, done_by, done_on, mark_of, outcome_done, entries_of}
use Rattle.cfa_agent.specs.Ending.{outcome_ended, lines_ended, tallied, acted_on, outcome_counted, lines_by}
use Rattle.cfa_agent.specs.Journaled.{HasName, CanBeTold}
use Rattle.cfa_agent.specs.Locking.{lock_entries}
use Rattle.cfa_agent.specs.Runs.{Start, actuations_in, lines_done, outcome_by_work, one_with_acts, has_record}
use Rattle.cfa_agent.specs.Standing.{Given, IsBehind, Agrees, Rests, teller_of, first_told, log_of_events, world_of_events}
use Rattle.cfa_agent.specs.Stepping.{events_since, is_recorded, work_added, work_recorded, work_told}
use Rattle.cfa_agent.proofs.Agreeing.{KeepsMarks, acts_keep, same_before, met_next, on_first}
use Rattle.cfa_agent.proofs.Behind.{EndsWith, behind_more, events_are, one_more_ended}
use Rattle.cfa_agent.proofs.Logs.{adds_both}
use Rattle.cfa_agent.proofs.MarkLemmas.{CouldMeet, added}
use Rattle.cfa_agent.proofs.BracketedLogs.{rests_acts}
use Rattle.cfa_agent.proofs.Planned.{actuated_of_acts, done_named, met_could}
use Rattle.cfa_agent.proofs.Records.{record_of_added, outcome_is, lines_are}
use Rattle.cfa_agent.proofs.TellLemmas.{same_lock}

-- the id of a promise of a policy that was read fits a record
id_fits : (id : PromiseId) → IsCounted id → IsId id
id_fits id counted =
    let number : id.number ≤ MOST_SOURCE_BYTES = counted.number_fits in
    let line : id.line ≤ MOST_SOURCE_BYTES + 1 = counted.line_fits in
    (counted.bundle, ((counted.number, omega (arith, number)), (counted.line, omega (arith, line))))

-- what the acts of an instance do on a world, as the definition has it
done_is : (s : Start) (world : World) (h : History) (instance : Instance) (acts : List Act) (n : ℕ) (m : Option Mark) →
    instance.work ≡ Acts acts → n ≡ actuations_in h → mark_of s.marks (suc n) ≡ m →
    done_on s.marks (suc (actuations_in h)) instance world ≡ done_by (actuated acts world) m
unfolding done_on
done_is s world h instance acts n m is number marked =
    ap (λ k. done_by (actuated (acts_of instance.work) world) (mark_of s.marks (suc k))) (sym number)
    ∙ ap (λ work. done_by (actuated (acts_of work) world) (mark_of s.marks (suc n))) is
    ∙ ap (done_by (actuated acts world)) marked

-- an instance with acts that was actuated, its lock set and its line put
module _ (r : Running) (site site1 site' : Shown Told) (lines lines' : List (List ℕ)) (instance : Instance) (acts : List Act) (a : Actuation)
    (is : instance.work ≡ Acts acts)
    (done : IfSome site.told (λ t. DoesActs (λ world done. entries_of r.moment (suc r.number) instance world done r.has_record) (done_met (suc r.number) acts a t.world) site1 a t))
    (few : suc r.number ≤ 4294967295) (fit : a.changes ≤ 4294967295) (names : All HasName acts) (source : IsCounted instance.source)
    (locked : Follows (adds (lock_entries r.moment r.locks instance)) site1 site')
    (put : lines' ≡ lines ++ lines_ended instance.source a) where
  abbrev met : Option Mark
  met = mark_met (suc r.number) a

  abbrev done_there : World → Done
  done_there world = done_met (suc r.number) acts a world

  -- what it added to the log
  abbrev more : Told → List Entry
  more t = added r.moment (suc r.number) instance t.world (done_there t.world) r.has_record r.locks

  abbrev ended_run : Running
  ended_run = tallied (outcome_ended a) (acted_on a r)

  abbrev Does : Told → Type 0
  Does t = DoesActs (λ world done. entries_of r.moment (suc r.number) instance world done r.has_record) (done_there t.world) site1 a t

  does : (t : Told) → site.told ≡ Some t → Does t
  does t told = some_at site.told t Does told done

  told_acts : (t : Told) → site.told ≡ Some t → site'.told ≡ Some (adds (more t) t)
  told_acts t told =
      ap (λ (s : Shown Told). s.told) locked
      ∙ ap (option_map (adds (lock_entries r.moment r.locks instance))) (does t told).told
      ∙ ap Some (adds_both (entries_of r.moment (suc r.number) instance t.world (done_there t.world) r.has_record) (lock_entries r.moment r.locks instance) t)

  small : suc r.number < 2 ^ 64
  small = omega (arith, few)

  could : (t : Told) → site.told ≡ Some t → CouldMeet (suc r.number) (actuated acts t.world) met
  could t told = met_could (suc r.number) acts a t.world (does t told).changes

  keeps : (t : Told) → site.told ≡ Some t → KeepsMarks r.number (suc r.number) (more t)
  keeps t told = acts_keep r.number r.moment instance t.world r.has_record r.locks (actuated acts t.world) met small (actuated_of_acts acts t.world) (could t told)

  acts_agree : (g : Given) → Agrees (ended_run, (site', lines')) g → Agrees (r, (site, lines)) g
  acts_agree g agreed t told on =
      same_before r.number (suc r.number) g t (more t) (keeps t told) on (agreed (adds (more t) t) (told_acts t told))

  -- behind a history
  module _ (g : Given) (h : History) (agreed : Agrees (ended_run, (site', lines')) g) (behind : IsBehind (r, (site, lines)) g h) where
    abbrev log : List Entry
    log = log_of_events g behind.events

    abbrev now : Told
    now = adds log (first_told g)

    -- the world as it stands there
    abbrev there : World
    there = world_of_events g behind.events

    abbrev did : Done
    did = done_there there

    -- the history by its events since
    number_there : r.number ≡ actuations_in (behind.events ++ g.base)
    number_there = behind.came.number_is ∙ ap actuations_in behind.is

    marked : mark_of g.start.marks (suc r.number) ≡ met
    marked =
        met_next r.number r.moment g now instance now.world r.has_record r.locks (actuated acts now.world) met small (actuated_of_acts acts now.world) (could now behind.came.told_is)
        (on_first r.number g log behind.came.whole) (agreed (adds (more now) now) (told_acts now behind.came.told_is))

    did_is : (k : History) → r.number ≡ actuations_in k → done_on g.start.marks (suc (actuations_in k)) instance there ≡ did
    did_is k number = done_is g.start there k instance acts r.number met is number marked

    can : CanBeTold (suc r.number) instance did
    can =
        let counted : a.changes ≡ length did.changes = (does now behind.came.told_is).changes in
        let named = done_named acts there met names in
        record {
          number_fits = (omega arith, omega (arith, few));
          source_fits = id_fits instance.source source;
          changes_fit = omega (arith, counted, fit);
          named = named.0;
          begun_named = named.1;
        }

    ended_is : outcome_done did ≡ outcome_ended a
    ended_is =
        outcome_is did.changes did.failure
        ∙ ap (λ n. outcome_counted n did.failure) (sym (does now behind.came.told_is).changes)
        ∙ ap (outcome_counted a.changes) (sym (does now behind.came.told_is).failure)

    told_so : outcomes_of (teller_of g) h instance instance.work ≡ outcome_ended a ∷ []
    told_so =
        ap (outcomes_of (teller_of g) h instance) is
        ∙ ap (λ work. outcome_by_work g.start (world_of_events g (events_since g.base h)) h instance work ∷ []) is
        ∙ ap (λ (events : List Event). outcome_done (done_on g.start.marks (suc (actuations_in h)) instance (world_of_events g events)) ∷ []) (events_are (r, (site, lines)) g h behind)
        ∙ ap (λ done. outcome_done done ∷ []) (did_is h behind.came.number_is)
        ∙ ap (λ outcome. outcome ∷ []) ended_is

    lines_so : work_told g.start g.base g.had_record behind.events instance instance.work ≡ lines_ended instance.source a
    lines_so =
        ap (λ work. work_told g.start g.base g.had_record behind.events instance work) is
        ∙ ap (λ done. lines_done g.start instance done done.failure done.changes) (did_is (behind.events ++ g.base) number_there)
        ∙ lines_are g.start instance did did.changes did.failure
        ∙ ap (λ n. lines_by instance.source n did.failure) (sym (does now behind.came.told_is).changes)
        ∙ ap (lines_by instance.source a.changes) (sym (does now behind.came.told_is).failure)

    abbrev lock : List Entry
    lock = lock_entries g.start.moment g.start.has_locks instance

    entries_so : work_added g.start g.base g.had_record log (suc (actuations_in (behind.events ++ g.base))) instance instance.work ++ lock ≡ more now
    entries_so =
        ap (λ work. work_added g.start g.base g.had_record log (suc (actuations_in (behind.events ++ g.base))) instance work ++ lock) is
        ∙ ap (λ done. entries_of g.start.moment (suc (actuations_in (behind.events ++ g.base))) instance there done (g.had_record || has_record log) ++ lock) (did_is (behind.events ++ g.base) number_there)
        ∙ ap (λ k. entries_of g.start.moment (suc k) instance there did (g.had_record || has_record log) ++ lock) (sym number_there)
        ∙ ap (λ moment. entries_of moment (suc r.number) instance there did (g.had_record || has_record log) ++ lock) (sym behind.came.moment_is)
        ∙ ap (λ has. entries_of r.moment (suc r.number) instance there did has ++ lock) (sym behind.came.has_record_is)
        ∙ ap (λ last. entries_of r.moment (suc r.number) instance there did r.has_record ++ last) (same_lock (r, (site, lines)) g h instance behind)

    counted_so : suc r.number ≡ one_with_acts instance.work + r.number
    counted_so = let one : one_with_acts instance.work ≡ 1 = ap one_with_acts is in omega (arith, one)

    ends : EndsWith r ended_run site' lines lines' now instance.work (outcome_ended a) (more now) (lines_ended instance.source a)
    ends = record {
      moment_is = refl;
      locks_are = refl;
      number_is = counted_so;
      has_record_is =
          ap (λ b. r.has_record || b)
          (sym (record_of_added r.moment (suc r.number) instance there r.has_record r.locks (actuated acts there) met ∙ ap is_recorded ended_is));
      recorded_is = ap (λ work. r.has_record || work_recorded (outcome_ended a) work) (sym is);
      counts_are = one_more_ended (outcome_ended a) r.tally;
      told_is = told_acts now behind.came.told_is;
      lines_are = put;
    }

    acts_behind : IsBehind (ended_run, (site', lines')) g (told_event instance (outcome_ended a ∷ []) ∷ h)
    acts_behind =
        let P : Outcome → Type 0 = λ outcome. Rests g.had_record g.start.world (log ++ more now) (r.has_record || is_recorded outcome) in
        behind_more r ended_run site site' lines lines' g h instance (outcome_ended a) (more now) (lines_ended instance.source a) behind ends entries_so lines_so
        ((keeps now behind.came.told_is).whole log behind.came.whole)
        (subst P ended_is
        (rests_acts g.had_record g.start.world log r.has_record r.moment (suc r.number) instance (actuated acts there) met r.locks
        r.in_range (actuated_of_acts acts there) can behind.came.rests))

  acts_done : (called : Outcome) → HasTold teller_of Agrees IsBehind (r, (site, lines)) (ended_run, (site', lines')) instance called (One (outcome_ended a))
  acts_done called g h agreed = (acts_agree g agreed, λ behind ended. (told_so g h agreed behind, acts_behind g h agreed behind))

-- by the run in between and behind, and by the outcome that was answered
pub acts_told : (r r1 r' : Running) (site site1 site' : Shown Told) (lines lines' : List (List ℕ)) (instance : Instance) (called outcome : Outcome) (acts : List Act) (a : Actuation) →
    instance.work ≡ Acts acts →
    IfSome site.told (λ t. DoesActs (λ world done. entries_of r.moment r1.number instance world done r.has_record) (done_met r1.number acts a t.world) site1 a t) →
    r1 ≡ acted_on a r → r1.number ≤ 4294967295 → a.changes ≤ 4294967295 → All HasName acts → IsCounted instance.source → outcome ≡ outcome_ended a →
    Follows (adds (lock_entries r1.moment r1.locks instance)) site1 site' → r' ≡ tallied outcome r1 →
    lines' ≡ lines ++ lines_ended instance.source a →
    HasTold teller_of Agrees IsBehind (r, (site, lines)) (r', (site', lines')) instance called (One outcome)
acts_told r r1 r' site site1 site' lines lines' instance called outcome acts a is done acted few fit names source ended locked counted put =
    let Done1 : Running → Type 0 = λ q. IfSome site.told (λ t. DoesActs (λ world done. entries_of r.moment q.number instance world done r.has_record) (done_met q.number acts a t.world) site1 a t) in
    let Few : Running → Type 0 = λ q. q.number ≤ 4294967295 in
    let Locked : Running → Type 0 = λ q. Follows (adds (lock_entries q.moment q.locks instance)) site1 site' in
    let Told' : Running → Type 0 = λ q. HasTold teller_of Agrees IsBehind (r, (site, lines)) (q, (site', lines')) instance called (One outcome) in
    let Ended : Outcome → Type 0 = λ outcome. HasTold teller_of Agrees IsBehind (r, (site, lines)) (tallied outcome (acted_on a r), (site', lines')) instance called (One outcome) in
    subst Told' (sym (counted ∙ ap (tallied outcome) acted))
    (subst Ended (sym ended)
    (acts_done r site site1 site' lines lines' instance acts a is (subst Done1 acted done) (subst Few acted few) fit names source (subst Locked acted locked) put called))
