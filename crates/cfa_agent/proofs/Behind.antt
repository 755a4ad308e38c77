-- A run that stood behind a history stands behind that with one more instance.
use Rattle.std.proofs.Common.{◌≡◌, ℕ, suc, ◌+◌, ◌-◌, Bool, true, false, ◌||◌, List, [], ◌∷◌, ◌++◌, length, take, Some, refl, sym, ap, subst, ◌∙◌, arith, add-one, append_assoc, length-append}
use Rattle.std.proofs.Math.Seq.{take-append_seam}
use Rattle.cfa_base.specs.Shown.{Shown}
use Rattle.cfa_outside.specs.declared.sites.Entry.{Entry}
use Rattle.cfa_outside.specs.Sites.{Told, adds}
use Rattle.cfa_resolve.specs.declared.instances.Instance.{Instance}
use Rattle.cfa_resolve.specs.declared.instances.Work.{Work}
use Rattle.cfa_outcomes.specs.declared.outcomes.Outcome.{Outcome}
use Rattle.cfa_outcomes.specs.declared.outcomes.Outcome.TheVariants.{Kept, Repaired, Failed}
use Rattle.cfa_states.specs.History.{History, Event, Told as told_event}
use Rattle.cfa_agent.specs.declared.progress.Running.{Running}
use Rattle.cfa_agent.specs.declared.running.Tally.{Tally}
use Rattle.cfa_agent.specs.Ending.{one_ended, one_skipped}
use Rattle.cfa_agent.specs.Ran.{counts_of}
use Rattle.cfa_agent.specs.Runs.{Counts, actuations_in, counted, has_record, one_with_acts, tally_in}
use Rattle.cfa_agent.specs.Standing.{Given, Standing, CameTo, IsBehind, first_told, IsWholeLog, Rests, log_of_events, lines_of_events}
use Rattle.cfa_agent.specs.Stepping.{events_since, instance_added, recorded_in, work_recorded, work_told}
use Rattle.cfa_agent.proofs.Logs.{adds_both}
use Rattle.cfa_agent.proofs.Records.{record_in_both}

-- ---- counts

pub one_more_ended : (outcome : Outcome) (tally : Tally) → counts_of (one_ended outcome tally) ≡ counted (outcome ∷ []) (counts_of tally)
one_more_ended Kept tally i = record { kept = add-one tally.kept i; repaired = tally.repaired; failed = tally.failed; skipped = tally.skipped }
one_more_ended Repaired tally i = record { kept = tally.kept; repaired = add-one tally.repaired i; failed = tally.failed; skipped = tally.skipped }
one_more_ended Failed tally i = record { kept = tally.kept; repaired = tally.repaired; failed = add-one tally.failed i; skipped = tally.skipped }

pub one_more_skipped : (tally : Tally) → counts_of (one_skipped tally) ≡ counted [] (counts_of tally)
one_more_skipped tally i = record { kept = tally.kept; repaired = tally.repaired; failed = tally.failed; skipped = add-one tally.skipped i }

-- ---- one instance more

-- with these entries, its lock among them, and these lines
pub record EndsWith (r r' : Running) (site' : Shown Told) (lines lines' : List (List ℕ)) (t : Told) (work : Work) (outcome : Outcome) (entries : List Entry) (told : List (List ℕ)) : Type 0 where
  pub moment_is : r'.moment ≡ r.moment
  pub locks_are : r'.locks ≡ r.locks
  pub number_is : r'.number ≡ one_with_acts work + r.number
  pub has_record_is : r'.has_record ≡ r.has_record || has_record entries
  pub recorded_is : r'.has_record ≡ r.has_record || work_recorded outcome work
  pub counts_are : counts_of r'.tally ≡ counted (outcome ∷ []) (counts_of r.tally)
  pub told_is : site'.told ≡ Some (adds entries t)
  pub lines_are : lines' ≡ lines ++ told

or_assoc : (a b c : Bool) → (a || b) || c ≡ a || (b || c)
or_assoc true b c = refl
or_assoc false b c = refl

-- by what was written and told so far, and what the definition adds to it
came_on : (r r' : Running) (site site' : Shown Told) (lines lines' : List (List ℕ)) (g : Given) (log : List Entry) (so_far : List (List ℕ)) (number : ℕ) (recorded : Bool) (counts : Counts)
    (instance : Instance) (outcome : Outcome) (entries : List Entry) (told : List (List ℕ)) (more : List Entry) (more_lines : List (List ℕ)) →
    CameTo (r, (site, lines)) g log so_far number recorded counts →
    EndsWith r r' site' lines lines' (adds log (first_told g)) instance.work outcome entries told →
    more ≡ entries → more_lines ≡ told → IsWholeLog r'.number (log ++ entries) → Rests g.had_record g.start.world (log ++ entries) r'.has_record →
    CameTo (r', (site', lines')) g (log ++ more) (so_far ++ more_lines) (one_with_acts instance.work + number) (recorded || work_recorded outcome instance.work) (counted (outcome ∷ []) counts)
came_on r r' site site' lines lines' g log so_far number recorded counts instance outcome entries told more more_lines came ends same same_lines whole rests =
    let Whole : List Entry → Type 0 = λ more. IsWholeLog r'.number (log ++ more) in
    let Resting : List Entry → Type 0 = λ more. Rests g.had_record g.start.world (log ++ more) r'.has_record in
    record {
      moment_is = ends.moment_is ∙ came.moment_is;
      locks_are = ends.locks_are ∙ came.locks_are;
      number_is = ends.number_is ∙ ap (λ n. one_with_acts instance.work + n) came.number_is;
      has_record_is =
          ends.has_record_is ∙ ap (λ b. b || has_record entries) came.has_record_is ∙ or_assoc g.had_record (has_record log) (has_record entries)
          ∙ ap (λ b. g.had_record || b) (sym (record_in_both log entries) ∙ ap (λ entries. has_record (log ++ entries)) (sym same));
      recorded_is = ends.recorded_is ∙ ap (λ b. b || work_recorded outcome instance.work) came.recorded_is;
      counts_are = ends.counts_are ∙ ap (counted (outcome ∷ [])) came.counts_are;
      whole = subst Whole (sym same) whole;
      rests = subst Resting (sym same) rests;
      told_is =
          ends.told_is ∙ ap Some (adds_both log entries (first_told g))
          ∙ ap (λ entries. Some (adds (log ++ entries) (first_told g))) (sym same);
      lines_are =
          ap (λ l. g.taken ++ l) ends.lines_are ∙ sym (append_assoc g.taken lines told)
          ∙ ap (λ l. l ++ told) came.lines_are ∙ append_assoc g.lines so_far told
          ∙ ap (λ l. g.lines ++ (so_far ++ l)) (sym same_lines);
    }

-- by histories
pub behind_more : (r r' : Running) (site site' : Shown Told) (lines lines' : List (List ℕ)) (g : Given) (h : History) (instance : Instance) (outcome : Outcome)
    (entries : List Entry) (told : List (List ℕ)) (behind : IsBehind (r, (site, lines)) g h) →
    EndsWith r r' site' lines lines' (adds (log_of_events g behind.events) (first_told g)) instance.work outcome entries told →
    instance_added g.start g.base g.had_record (log_of_events g behind.events) (suc (actuations_in (behind.events ++ g.base))) instance ≡ entries →
    work_told g.start g.base g.had_record behind.events instance instance.work ≡ told →
    IsWholeLog r'.number (log_of_events g behind.events ++ entries) → Rests g.had_record g.start.world (log_of_events g behind.events ++ entries) r'.has_record →
    IsBehind (r', (site', lines')) g (told_event instance (outcome ∷ []) ∷ h)
behind_more r r' site site' lines lines' g h instance outcome entries told behind ends same same_lines whole rests = record {
  events = told_event instance (outcome ∷ []) ∷ behind.events;
  is = ap (λ (l : List Event). told_event instance (outcome ∷ []) ∷ l) behind.is;
  came = came_on r r' site site' lines lines' g (log_of_events g behind.events) (lines_of_events g behind.events) (actuations_in h) (recorded_in h) (tally_in h) instance outcome entries told
      (instance_added g.start g.base g.had_record (log_of_events g behind.events) (suc (actuations_in (behind.events ++ g.base))) instance)
      (work_told g.start g.base g.had_record behind.events instance instance.work) behind.came ends same same_lines whole rests;
}

-- ---- the events behind where steps began

pub since_is : (base : History) (events : List Event) → events_since base (events ++ base) ≡ events
since_is base events =
    let counted : length (events ++ base) - length base ≡ length events = omega (arith, length-append events base) in
    ap (λ n. take n (events ++ base)) counted ∙ take-append_seam events base

pub events_are : (w : Standing) (g : Given) (h : History) (behind : IsBehind w g h) → events_since g.base h ≡ behind.events
events_are w g h behind = ap (events_since g.base) behind.is ∙ since_is g.base behind.events
