-- What a whole instance adds leaves a log bracketed, and so the log of a history is.
use Rattle.std.proofs.Common.{◌≡◌, ℕ, suc, ◌+◌, Bool, true, false, ◌||◌, List, [], ◌∷◌, ◌++◌, length, Option, Some, None, IsTrue, refl, sym, ap, subst, ◌∙◌, arith, append_assoc}
use Rattle.std.proofs.lemmas.Bool.{false≢true}
use Rattle.std.proofs.lemmas.List.Elements.{All-take}
use Rattle.cfa_outside.specs.declared.worlds.World.{World}
use Rattle.cfa_outside.specs.declared.sites.Call.{Call}
use Rattle.cfa_outside.specs.declared.sites.Change.{Change}
use Rattle.cfa_outside.specs.declared.sites.Change.TheVariants.{PutLock}
use Rattle.cfa_outside.specs.declared.sites.Entry.{Entry}
use Rattle.cfa_outside.specs.declared.sites.Entry.TheVariants.{Did}
use Rattle.cfa_outside.specs.Sites.{after, after_change}
use Rattle.cfa_acts.specs.declared.acts.Reason.{Reason}
use Rattle.cfa_journal.specs.declared.positions.Position.{Position}
use Rattle.cfa_journal.specs.declared.positions.Position.TheVariants.{Between}
use Rattle.cfa_journal.specs.declared.positions.Position.TheVariants as positions
use Rattle.cfa_journal.specs.declared.positions.Version.TheVariants.{Two}
use Rattle.cfa_journal.specs.declared.records.Record.{Record}
use Rattle.cfa_journal.specs.declared.records.Record.TheVariants.{Run2, Open, Fail}
use Rattle.cfa_journal.specs.Records.{IsMoment}
use Rattle.cfa_locks.specs.Locks.{key_of}
use Rattle.cfa_locks.specs.lemmas.HexKeys.{is_key-sha256}
use Rattle.cfa_resolve.specs.declared.instances.Instance.{Instance}
use Rattle.cfa_resolve.specs.declared.instances.Work.{Work}
use Rattle.cfa_resolve.specs.declared.instances.Work.TheVariants.{Acts, Call as a_call, Report}
use Rattle.cfa_states.specs.History.{History, Begun, Set, Raised, Reached, Listed, Told}
use Rattle.cfa_states.specs.Tellers.{Actuated, actuated, acts_of, after_all}
use Rattle.cfa_agent.specs.Actuations.{Mark, Done, done_by, done_on, mark_of, outcome_done, is_some_change, number_of, appended, changed, begun_record, refused_entry, run_record, closing_record, without_change, entries_by, entries_of}
use Rattle.cfa_agent.specs.Journaled.{CanBeTold, CanBeToldBy, AllCanBeTold, LogsAreBracketed, RunsAreBracketed}
use Rattle.cfa_agent.specs.Locking.{lock_entries}
use Rattle.cfa_agent.specs.Marks.{is_of_act}
use Rattle.cfa_agent.specs.Runs.{Start, actuations_in, done_in, has_record, history_of, log_in, log_of, run_of, work_entries}
use Rattle.cfa_agent.specs.Standing.{at, Leads, resting, Rests}
use Rattle.cfa_agent.specs.Stepping.{is_recorded}
use Rattle.cfa_agent.proofs.MarkLemmas.{AreOfActs}
use Rattle.cfa_agent.proofs.Planned.{actuated_of_acts}
use Rattle.cfa_agent.proofs.Records.{behind_run, record_in_both, no_record_in_lock, record_of_acts, record_of_added}
use Rattle.cfa_agent.specs.Bracketed.{first_point, IsBracketedFrom, AllBracketed}
use Rattle.cfa_agent.proofs.BracketLemmas.{front_bracketed, leads_bracketed, leads_none, leads_then, leads_record, leads_refused, within, nodes_changed, reason_fits, IsRepaired, leads_begun, leads_changed, leads_closed}

-- ---- an instance

-- records change no node
nodes_opened : (moment : ℕ) (has : Bool) (r : Record) (v : World) → (after (run_record moment has ++ appended r ∷ []) v).nodes ≡ v.nodes
unfolding after_change
nodes_opened moment true r v = refl
nodes_opened moment false r v = refl

-- an instance that failed is told
abbrev is_told : Option Reason → Bool
is_told None = false
is_told (Some reason) = true

or_false : (b : Bool) → b || false ≡ b
or_false true = refl
or_false false = refl

or_true : (b : Bool) → b || true ≡ true
or_true true = refl
or_true false = refl

leads_run : (moment : ℕ) → IsMoment moment → (has_record : Bool) (j : Option Record) (v : World) → Leads (at (resting has_record) j 0 v) (run_record moment has_record) (Between Two) 0
leads_run moment fits true j v = leads_none (Between Two) j 0 v
leads_run moment fits false j v = leads_record positions.Start j 0 v (Run2 moment) ((fits, refl), refl)

module _ (moment n : ℕ) (instance : Instance) (world v : World) (same : v.nodes ≡ world.nodes) (has : Bool) (j : Option Record) (done : Done)
    (fits : IsMoment moment) (can : CanBeTold n instance done) (of_acts : AreOfActs done.changes) (some : IsTrue done.is_begun → IsRepaired (length done.changes) done.failure) where
  abbrev run : List Entry
  run = run_record moment has

  abbrev open_entry : Entry
  open_entry = appended (Open n instance.source (key_of instance.text))

  -- the run begins, and then this entry comes
  leads_behind_run : (r : Record) (q : Position) (l : ℕ) → ((i : Option Record) (w : World) → Leads (at (Between Two) i 0 w) (appended r ∷ []) q l) → (i : Option Record) (w : World) →
      Leads (at (resting has) i 0 w) (run ++ appended r ∷ []) q l
  leads_behind_run r q l next i w =
      leads_then (at (resting has) i 0 w) run (appended r ∷ []) (Between Two) q 0 l (leads_run moment fits has i w) (λ i. next i (after run w))

  leads_opened : Leads (at (resting has) j 0 v) (run ++ open_entry ∷ []) (within n) 0
  leads_opened =
      leads_behind_run (Open n instance.source (key_of instance.text)) (within n) 0
      (λ i w. leads_record (Between Two) i 0 w (Open n instance.source (key_of instance.text)) (((can.number_fits, (can.source_fits, is_key-sha256 instance.text)), refl), tt)) j v

  leads_failed : (reason : Reason) (i : Option Record) (w : World) → Leads (at (resting has) i 0 w) (run ++ appended (Fail n instance.source (key_of instance.text) (number_of reason)) ∷ []) (Between Two) 0
  leads_failed reason =
      leads_behind_run (Fail n instance.source (key_of instance.text) (number_of reason)) (Between Two) 0
      (λ i w. leads_record (Between Two) i 0 w (Fail n instance.source (key_of instance.text) (number_of reason))
      (((can.number_fits, (can.source_fits, (is_key-sha256 instance.text, reason_fits reason))), refl), tt))

  -- the run, its `open` and the changes up to the refused call or the last
  abbrev begin : List Entry
  begin = run ++ open_entry ∷ []

  abbrev mid : List Entry
  mid = changed n world done.changes

  abbrev next : List Entry
  next = begun_record n (after_all done.changes world) done.begun

  abbrev refusal : List Entry
  refusal = refused_entry done.refused

  abbrev last : List Entry
  last = appended (closing_record n (length done.changes) done.failure) ∷ []

  nodes_begun : (after begin v).nodes ≡ world.nodes
  nodes_begun = nodes_opened moment has (Open n instance.source (key_of instance.text)) v ∙ same

  leads_begun_instance : IsTrue done.is_begun → Leads (at (resting has) j 0 v) (begin ++ (mid ++ (next ++ (refusal ++ last)))) (Between Two) 0
  leads_begun_instance is =
      let k : ℕ = length done.changes in
      let counted : k ≡ 0 + length done.changes = omega arith in
      leads_then (at (resting has) j 0 v) begin (mid ++ (next ++ (refusal ++ last))) (within n) (Between Two) 0 0 leads_opened
      (λ j1. let w1 : World = after begin v in
      leads_then (at (within n) j1 0 w1) mid (next ++ (refusal ++ last)) (within n) (Between Two) k 0
      (leads_changed n can.number_fits done.changes j1 0 k w1 world nodes_begun of_acts can.named counted)
      (λ j2. let w2 : World = after mid w1 in
      leads_then (at (within n) j2 k w2) next (refusal ++ last) (within n) (Between Two) k 0
      (leads_begun n can.number_fits j2 k w2 (after_all done.changes world) done.begun (nodes_changed n done.changes w1 world nodes_begun) can.begun_named)
      (λ j3. let w3 : World = after next w2 in
      leads_then (at (within n) j3 k w3) refusal last (within n) (Between Two) k 0
      (leads_refused (within n) j3 k w3 done.refused)
      (λ j4. leads_closed n can.number_fits j4 k (after refusal w3) done.failure can.changes_fit (some is)))))

  -- it fails without a change, or is kept
  leads_unbegun : (failure : Option Reason) → Leads (at (resting has) j 0 v) (without_change n instance done run failure) (resting (has || is_told failure)) 0
  leads_unbegun None =
      let P : Bool → Type 0 = λ b. Leads (at (resting has) j 0 v) [] (resting b) 0 in
      subst P (sym (or_false has)) (leads_none (resting has) j 0 v)
  leads_unbegun (Some reason) =
      let P : Bool → Type 0 = λ b. Leads (at (resting has) j 0 v) (refusal ++ (run ++ appended (Fail n instance.source (key_of instance.text) (number_of reason)) ∷ [])) (resting b) 0 in
      subst P (sym (or_true has))
      (leads_then (at (resting has) j 0 v) refusal (run ++ appended (Fail n instance.source (key_of instance.text) (number_of reason)) ∷ []) (resting has) (Between Two) 0 0
      (leads_refused (resting has) j 0 v done.refused)
      (λ i. leads_failed reason i (after refusal v)))

  leads_entries : (b : Bool) → done.is_begun ≡ b → Leads (at (resting has) j 0 v) (entries_by n instance world done run b) (resting (has || (b || is_told done.failure))) 0
  leads_entries false is = leads_unbegun done.failure
  leads_entries true is =
      let P : List Entry → Type 0 = λ entries. Leads (at (resting has) j 0 v) entries (Between Two) 0 in
      let Q : Bool → Type 0 = λ b. Leads (at (resting has) j 0 v) (entries_by n instance world done run true) (resting b) 0 in
      subst Q (sym (or_true has)) (subst P (append_assoc run (open_entry ∷ []) (mid ++ (next ++ (refusal ++ last)))) (leads_begun_instance is))

leads_lock : (moment : ℕ) (has_locks : Bool) (instance : Instance) (has : Bool) (j : Option Record) (w : World) → Leads (at (resting has) j 0 w) (lock_entries moment has_locks instance) (resting has) 0
leads_lock moment false instance has j w = leads_none (resting has) j 0 w
leads_lock moment true instance has j w = by_rest has where
  by_rest : (has : Bool) → Leads (at (resting has) j 0 w) (Did (PutLock (key_of instance.text) moment) ∷ []) (resting has) 0
  by_rest true = record { written = None; on = λ more rest. (refl, rest) }
  by_rest false = record { written = None; on = λ more rest. (refl, rest) }

-- ---- what an instance leaves of a log

-- what is done under a mark is made of what acts ask for, and what is repaired has made a change
done_of_acts : (planned : Actuated) (m : Option Mark) → AreOfActs planned.changes → AreOfActs (done_by planned m).changes
done_of_acts planned None of_acts = of_acts
done_of_acts planned (Some mark) of_acts = All-take (λ change. is_of_act change ≡ true) mark.changes planned.changes of_acts

some_repaired : (made : List Change) (failure : Option Reason) → IsTrue (is_some_change made) → IsRepaired (length made) failure
some_repaired [] None is = absurd (false≢true is)
some_repaired (change ∷ made) None is = omega arith
some_repaired made (Some reason) is = tt

done_some : (planned : Actuated) (m : Option Mark) → IsTrue (done_by planned m).is_begun → IsRepaired (length (done_by planned m).changes) (done_by planned m).failure
done_some planned None is = some_repaired planned.changes planned.failure is
done_some planned (Some mark) is = tt

record_of_entries : (moment n : ℕ) (instance : Instance) (world : World) (has : Bool) (done : Done) (b : Bool) →
    has_record (entries_by n instance world done (run_record moment has) b) ≡ b || is_told done.failure
record_of_entries moment n instance world has done true = behind_run moment has _ _
record_of_entries moment n instance world has done false = by_failure done.failure done.refused where
  by_failure : (failure : Option Reason) (refused : Option Call) → has_record (without_change n instance (record done { refused = refused }) (run_record moment has) failure) ≡ is_told failure
  by_failure None refused = refl
  by_failure (Some reason) None = behind_run moment has _ []
  by_failure (Some reason) (Some call) = behind_run moment has _ []

rests_more : (had : Bool) (w : World) (log entries : List Entry) (has has' : Bool) → Rests had w log has →
    ((j : Option Record) → Leads (at (resting has) j 0 (after log w)) entries (resting has') 0) → Rests had w (log ++ entries) has'
rests_more had w log entries has has' rests next = leads_then (at (resting had) None 0 w) log entries (resting has) (resting has') 0 0 rests next

pub rests_none : (had : Bool) (w : World) → Rests had w [] had
rests_none had w = leads_none (resting had) None 0 w

pub rests_lock : (had : Bool) (w : World) (log : List Entry) (has : Bool) (moment : ℕ) (has_locks : Bool) (instance : Instance) → Rests had w log has →
    Rests had w (log ++ lock_entries moment has_locks instance) has
rests_lock had w log has moment has_locks instance rests =
    rests_more had w log (lock_entries moment has_locks instance) has has rests (λ j. leads_lock moment has_locks instance has j (after log w))

rests_entries : (had : Bool) (w : World) (log : List Entry) (has : Bool) (moment n : ℕ) (instance : Instance) (planned : Actuated) (m : Option Mark) →
    IsMoment moment → AreOfActs planned.changes → CanBeTold n instance (done_by planned m) → Rests had w log has →
    Rests had w (log ++ entries_of moment n instance (after log w) (done_by planned m) has) (has || is_recorded (outcome_done (done_by planned m)))
unfolding entries_of
rests_entries had w log has moment n instance planned m fits of_acts can rests =
    let done : Done = done_by planned m in
    let there : World = after log w in
    let told : done.is_begun || is_told done.failure ≡ is_recorded (outcome_done done) =
    sym (record_of_entries moment n instance there has done done.is_begun) ∙ record_of_acts moment n instance there has planned m in
    let P : Bool → Type 0 = λ b. Rests had w (log ++ entries_by n instance there done (run_record moment has) done.is_begun) (has || b) in
    subst P told
    (rests_more had w log (entries_by n instance there done (run_record moment has) done.is_begun) has (has || (done.is_begun || is_told done.failure)) rests
    (λ j. leads_entries moment n instance there there refl has j done fits can (done_of_acts planned m of_acts) (done_some planned m) done.is_begun refl))

-- an instance with acts, with its lock
pub rests_acts : (had : Bool) (w : World) (log : List Entry) (has : Bool) (moment n : ℕ) (instance : Instance) (planned : Actuated) (m : Option Mark) (has_locks : Bool) →
    IsMoment moment → AreOfActs planned.changes → CanBeTold n instance (done_by planned m) → Rests had w log has →
    Rests had w (log ++ (entries_of moment n instance (after log w) (done_by planned m) has ++ lock_entries moment has_locks instance)) (has || is_recorded (outcome_done (done_by planned m)))
rests_acts had w log has moment n instance planned m has_locks fits of_acts can rests =
    let entries : List Entry = entries_of moment n instance (after log w) (done_by planned m) has in
    let lock : List Entry = lock_entries moment has_locks instance in
    let has' : Bool = has || is_recorded (outcome_done (done_by planned m)) in
    let P : List Entry → Type 0 = λ log. Rests had w log has' in
    subst P (append_assoc log entries lock)
    (rests_lock had w (log ++ entries) has' moment has_locks instance (rests_entries had w log has moment n instance planned m fits of_acts can rests))

pub rests_bracketed : (w : World) (log : List Entry) (has : Bool) → Rests false w log has → AllBracketed w log
rests_bracketed w log has rests front rest is =
    front_bracketed front rest (first_point w) (subst (IsBracketedFrom (first_point w)) is (leads_bracketed (first_point w) log (resting has) 0 rests))

-- ---- the log of a history

module _ (s : Start) (fits : IsMoment s.moment) where
  abbrev Logged : List Entry → Type 0
  Logged log = Rests false s.world log (has_record log)

  logged_lock : (log : List Entry) (instance : Instance) → Logged log → Logged (log ++ lock_entries s.moment s.has_locks instance)
  logged_lock log instance rests =
      let lock : List Entry = lock_entries s.moment s.has_locks instance in
      let P : Bool → Type 0 = λ has. Rests false s.world (log ++ lock) has in
      subst P
      (sym (record_in_both log lock ∙ ap (λ b. has_record log || b) (no_record_in_lock s.moment s.has_locks instance) ∙ or_false (has_record log)))
      (rests_lock false s.world log (has_record log) s.moment s.has_locks instance rests)

  rests_told : (h : History) (instance : Instance) (work : Work) → CanBeToldBy work (suc (actuations_in h)) instance (done_in s h instance) → Logged (log_in s h) →
      Logged (log_in s h ++ (work_entries s (log_in s h) (suc (actuations_in h)) instance work ++ lock_entries s.moment s.has_locks instance))
  unfolding done_on
  rests_told h instance (Acts acts) can rests =
      let log : List Entry = log_in s h in
      let n : ℕ = suc (actuations_in h) in
      let planned : Actuated = actuated (acts_of instance.work) (after log s.world) in
      let m : Option Mark = mark_of s.marks n in
      let more : List Entry = entries_of s.moment n instance (after log s.world) (done_by planned m) (has_record log) ++ lock_entries s.moment s.has_locks instance in
      let P : Bool → Type 0 = λ has. Rests false s.world (log ++ more) has in
      subst P
      (sym (record_in_both log more ∙ ap (λ b. has_record log || b) (record_of_added s.moment n instance (after log s.world) (has_record log) s.has_locks planned m)))
      (rests_acts false s.world log (has_record log) s.moment n instance planned m s.has_locks
      fits (actuated_of_acts (acts_of instance.work) (after log s.world)) can rests)
  rests_told h instance (a_call name arguments) can rests = logged_lock (log_in s h) instance rests
  rests_told h instance (Report content) can rests = logged_lock (log_in s h) instance rests

  rests_log : (h : History) → AllCanBeTold s h → Logged (log_in s h)
  rests_log [] can = rests_none false s.world
  rests_log (Told instance [] ∷ h) can = rests_log h can
  rests_log (Told instance (outcome ∷ others) ∷ h) can = rests_told h instance instance.work can.0 (rests_log h can.1)
  rests_log (Begun p arguments ∷ h) can = rests_log h can
  rests_log (Set p name datum ∷ h) can = rests_log h can
  rests_log (Raised place class status source ∷ h) can = rests_log h can
  rests_log (Reached home promise guard sets visits ∷ h) can = rests_log h can
  rests_log (Listed instance status ∷ h) can = rests_log h can

pub logs_bracketed : LogsAreBracketed
logs_bracketed s h fits can = rests_bracketed s.world (log_in s h) (has_record (log_in s h)) (rests_log s fits h can)

pub runs_bracketed : RunsAreBracketed
unfolding log_of
runs_bracketed setting s = logs_bracketed s (history_of (run_of setting s))
