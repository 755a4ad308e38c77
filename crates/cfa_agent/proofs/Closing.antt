-- What an actuation writes up to its last change and behind it is all that it writes.
use Rattle.std.proofs.Common.{◌≡◌, ◌≤◌, ℕ, Bool, ◌||◌, List, [], ◌∷◌, ◌++◌, length, take, drop, Some, None, Option, IfSome, option_map, refl, sym, ap, subst, ◌∙◌, append_assoc}
use Rattle.std.specs.Prelude.{if◌then◌else◌}
use Rattle.cfa_base.specs.lemmas.Options.{some_weaker}
use Rattle.cfa_base.specs.Causes.{Rose}
use Rattle.cfa_base.specs.Shown.{Shown, Follows}
use Rattle.cfa_outside.specs.declared.worlds.World.{World}
use Rattle.cfa_outside.specs.declared.sites.Call.{Call}
use Rattle.cfa_outside.specs.declared.sites.Call.TheVariants as calls
use Rattle.cfa_outside.specs.declared.sites.Change.{Change}
use Rattle.cfa_outside.specs.declared.sites.Entry.{Entry}
use Rattle.cfa_outside.specs.declared.sites.Entry.TheVariants.{Refused}
use Rattle.cfa_outside.specs.Sites.{Told, adds}
use Rattle.cfa_acts.specs.declared.acts.Act.{Act}
use Rattle.cfa_acts.specs.declared.acts.Reason.{Reason}
use Rattle.cfa_acts.specs.declared.acts.Reason.TheVariants.{Fault}
use Rattle.cfa_journal.specs.declared.records.Record.TheVariants.{Open, Repaired}
use Rattle.cfa_locks.specs.Locks.{key_of}
use Rattle.cfa_resolve.specs.declared.instances.Instance.{Instance}
use Rattle.cfa_states.specs.Tellers.{Actuated, actuated, after_all}
use Rattle.cfa_agent.specs.declared.actuating.Actuation.{Actuation}
use Rattle.cfa_agent.specs.declared.recording.Heading.{Heading}
use Rattle.cfa_agent.specs.Actuations.{Done, done_by, begun_by, is_change, is_some_change, changed, begun_record, appended, closing_record, run_record, entries_of}
use Rattle.cfa_agent.specs.Actuating.{opening, closing, closing_by, closing_failed, FaultsBy, DoesActs, done_met, mark_by, acted}
use Rattle.cfa_agent.proofs.Acting.{some_made}
use Rattle.cfa_agent.proofs.Logs.{adds_both}

-- what is written before, between and behind
three_parts : (run : List Entry) (open' : Entry) (changes next refused last : List Entry) →
    run ++ open' ∷ (changes ++ (next ++ (refused ++ last))) ≡ ((run ++ open' ∷ []) ++ (changes ++ (next ++ refused))) ++ last
three_parts run open' changes next refused last =
    sym (append_assoc run (open' ∷ []) (changes ++ (next ++ (refused ++ last))))
    ∙ ap (λ entries. (run ++ open' ∷ []) ++ (changes ++ entries)) (sym (append_assoc next refused last))
    ∙ ap (λ entries. (run ++ open' ∷ []) ++ entries) (sym (append_assoc changes (next ++ refused) last))
    ∙ sym (append_assoc (run ++ open' ∷ []) (changes ++ (next ++ refused)) last)

module _ (heading : Heading) (instance : Instance) (world : World) where
  abbrev run : List Entry
  run = run_record heading.moment heading.has_record

  abbrev open_entry : Entry
  open_entry = appended (Open heading.number instance.source (key_of instance.text))

  abbrev done_at : List Change → (next : Option Change) → (refused : Option Call) → (failure : Option Reason) → (is_begun : Bool) → Done
  done_at made next refused failure is_begun = record { changes = made; begun = next; refused = refused; failure = failure; is_begun = is_begun }

  abbrev next_entries : List Change → Option Change → List Entry
  next_entries made next = begun_record heading.number (after_all made world) next

  -- no call was refused
  all_plain : (made : List Change) (failure : Option Reason) →
      entries_of heading.moment heading.number instance world (done_at made None None failure (is_some_change made)) heading.has_record
      ≡ acted heading.number (opening heading instance) world (done_at made None None failure (is_some_change made)) ++ closing_by heading instance (length made) None failure
  unfolding entries_of
  all_plain [] None = refl
  all_plain [] (Some reason) = refl
  all_plain (first ∷ made) None =
      three_parts run open_entry (changed heading.number world (first ∷ made)) [] [] (appended (closing_record heading.number (length (first ∷ made)) None) ∷ [])
      ∙ ap (λ b. (opening heading instance ++ (changed heading.number world (first ∷ made) ++ [])) ++ (if b then appended (Repaired heading.number (length (first ∷ made))) ∷ [] else [])) (sym (some_made (length made)))
  all_plain (first ∷ made) (Some reason) =
      three_parts run open_entry (changed heading.number world (first ∷ made)) [] [] (appended (closing_record heading.number (length (first ∷ made)) (Some reason)) ∷ [])
      ∙ ap (λ b. (opening heading instance ++ (changed heading.number world (first ∷ made) ++ [])) ++ closing_failed heading instance b reason) (sym (some_made (length made)))

  -- a call was refused
  all_refused : (made : List Change) (next : Option Change) (call : Call) →
      entries_of heading.moment heading.number instance world (done_at made next (Some call) (Some Fault) (is_some_change made || is_change call)) heading.has_record
      ≡ acted heading.number (opening heading instance) world (done_at made next (Some call) (Some Fault) (is_some_change made || is_change call)) ++ closing_by heading instance (length made) (Some call) (Some Fault)
  unfolding entries_of
  all_refused [] next calls.Look = refl
  all_refused [] next calls.Read = refl
  all_refused [] next calls.Perms = refl
  all_refused [] next calls.Service = refl
  all_refused [] next calls.Lock = refl
  all_refused [] next calls.Children = refl
  all_refused [] next calls.Change =
      three_parts run open_entry [] (next_entries [] next) (Refused calls.Change ∷ []) (appended (closing_record heading.number 0 (Some Fault)) ∷ [])
  all_refused (first ∷ made) next call =
      three_parts run open_entry (changed heading.number world (first ∷ made)) (next_entries (first ∷ made) next) (Refused call ∷ []) (appended (closing_record heading.number (length (first ∷ made)) (Some Fault)) ∷ [])
      ∙ ap (λ b. (opening heading instance ++ (changed heading.number world (first ∷ made) ++ (next_entries (first ∷ made) next ++ Refused call ∷ []))) ++ closing_failed heading instance (b || is_change call) Fault) (sym (some_made (length made)))

  all_by : (planned : Actuated) (changes : ℕ) (refused : Option Call) →
      entries_of heading.moment heading.number instance world (done_by planned (mark_by heading.number changes refused)) heading.has_record
      ≡ acted heading.number (opening heading instance) world (done_by planned (mark_by heading.number changes refused)) ++ closing_by heading instance (length (done_by planned (mark_by heading.number changes refused)).changes) refused (done_by planned (mark_by heading.number changes refused)).failure
  all_by planned changes None = all_plain planned.changes planned.failure
  all_by planned changes (Some call) = all_refused (take changes planned.changes) (begun_by call (drop changes planned.changes)) call

closes_does : (heading : Heading) (instance : Instance) (planned : Actuated) (a : Actuation) (site' site'' : Shown Told) (t : Told) →
    DoesActs (acted heading.number (opening heading instance)) (done_by planned (mark_by heading.number a.changes a.refused)) site' a t → Follows (adds (closing heading instance a)) site' site'' →
    DoesActs (λ world done. entries_of heading.moment heading.number instance world done heading.has_record) (done_by planned (mark_by heading.number a.changes a.refused)) site'' a t
closes_does heading instance planned a site' site'' t does follows = record {
  failure = does.failure;
  changes = does.changes;
  told =
      ap (λ (s : Shown Told). s.told) follows
      ∙ ap (option_map (adds (closing heading instance a))) does.told
      ∙ ap Some (adds_both (acted heading.number (opening heading instance) t.world (done_by planned (mark_by heading.number a.changes a.refused))) (closing heading instance a) t
      ∙ ap (λ n. adds (acted heading.number (opening heading instance) t.world (done_by planned (mark_by heading.number a.changes a.refused)) ++ closing_by heading instance n a.refused a.failure) t) does.changes
      ∙ ap (λ f. adds (acted heading.number (opening heading instance) t.world (done_by planned (mark_by heading.number a.changes a.refused)) ++ closing_by heading instance (length (done_by planned (mark_by heading.number a.changes a.refused)).changes) a.refused f) t) does.failure
      ∙ ap (λ entries. adds entries t) (sym (all_by heading instance t.world planned a.changes a.refused)));
}

pub closes_all : (heading : Heading) (instance : Instance) (acts : List Act) (a : Actuation) (site site' site'' : Shown Told) →
    IfSome site.told (λ t. DoesActs (acted heading.number (opening heading instance)) (done_met heading.number acts a t.world) site' a t) → Follows (adds (closing heading instance a)) site' site'' →
    IfSome site.told (λ t. DoesActs (λ world done. entries_of heading.moment heading.number instance world done heading.has_record) (done_met heading.number acts a t.world) site'' a t)
closes_all heading instance acts a site site' site'' before follows = some_weaker site.told _ _ (λ t _ does. closes_does heading instance (actuated acts t.world) a site' site'' t does follows) before

-- records that are written leave the count of faults
pub faults_closed : (refused : Option Call) (entries : List Entry) (site site' site'' : Shown Told) → FaultsBy refused site site' → Follows (adds entries) site' site'' → FaultsBy refused site site''
faults_closed None entries site site' site'' stands follows = ap (λ (s : Shown Told). s.faults) follows ∙ stands
faults_closed (Some call) entries site site' site'' fault follows =
    let same : site''.faults ≡ site'.faults = ap (λ (s : Shown Told). s.faults) follows in
    record {
      rose = subst (λ n. Rose site.faults n) (sym same) fault.rose;
      later = subst (λ n. site.faults ≤ n) (sym same) fault.later;
    }
