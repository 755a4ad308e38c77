-- Whether an instance writes a record, how it ended and what line it has, by how many changes it made and why it failed.
use Rattle.std.proofs.Common.{◌≡◌, ℕ, Bool, true, false, ◌||◌, List, [], ◌∷◌, ◌++◌, length, take, drop, Some, None, Option, refl, sym, ap, ◌∙◌, append-nil}
use Rattle.std.specs.Prelude.{if◌then◌else◌}
use Rattle.std.specs.List.{flat_map}
use Rattle.cfa_base.specs.lemmas.Truths.{or_false}
use Rattle.cfa_outside.specs.declared.worlds.World.{World}
use Rattle.cfa_outside.specs.declared.sites.Call.{Call}
use Rattle.cfa_outside.specs.declared.sites.Change.{Change}
use Rattle.cfa_outside.specs.declared.sites.Entry.{Entry}
use Rattle.cfa_acts.specs.declared.acts.Reason.{Reason}
use Rattle.cfa_acts.specs.declared.acts.Reason.TheVariants.{Fault}
use Rattle.cfa_acts.specs.Reasons.{code_of, word_of}
use Rattle.cfa_journal.specs.declared.records.Record.{Record}
use Rattle.cfa_output.specs.Lines.{repaired_line, failed_line}
use Rattle.cfa_resolve.specs.declared.instances.Instance.{Instance}
use Rattle.cfa_outcomes.specs.declared.outcomes.Outcome.TheVariants.{Kept, Repaired}
use Rattle.cfa_states.specs.Tellers.{Actuated, outcome_by}
use Rattle.cfa_agent.specs.Actuations.{Mark, Done, done_by, begun_by, outcome_done, is_change, is_some_change, appended, run_record, entries_of}
use Rattle.cfa_agent.specs.Ending.{lines_by, outcome_counted}
use Rattle.cfa_agent.specs.Stepping.{is_recorded}
use Rattle.cfa_agent.specs.Locking.{lock_entries}
use Rattle.cfa_agent.specs.Runs.{Start, is_record, has_record, lines_done}
use Rattle.cfa_agent.proofs.Acting.{some_made}

-- ---- records

-- either part has one
abbrev here_or : (here behind : Bool) → Bool
here_or here behind = elim here [ true ↦ true | false ↦ behind ]

one_of : (here both first second : Bool) → both ≡ first || second → here_or here both ≡ here_or here first || second
one_of true both first second e = refl
one_of false both first second e = e

pub record_in_both : (a b : List Entry) → has_record (a ++ b) ≡ has_record a || has_record b
record_in_both [] b = refl
record_in_both (entry ∷ a) b = one_of (is_record entry) (has_record (a ++ b)) (has_record a) (has_record b) (record_in_both a b)

pub no_record_in_lock : (moment : ℕ) (has_locks : Bool) (instance : Instance) → has_record (lock_entries moment has_locks instance) ≡ false
no_record_in_lock moment true instance = refl
no_record_in_lock moment false instance = refl

pub behind_run : (moment : ℕ) (has : Bool) (next : Record) (rest : List Entry) → has_record (run_record moment has ++ (appended next ∷ rest)) ≡ true
behind_run moment true next rest = refl
behind_run moment false next rest = refl

failed : (made : List Change) (reason : Reason) → is_recorded (outcome_by made (Some reason)) ≡ true
failed [] reason = refl
failed (change ∷ made) reason = refl

module _ (moment n : ℕ) (instance : Instance) (world : World) (has : Bool) where
  record_of_plain : (made : List Change) (failure : Option Reason) →
      has_record (entries_of moment n instance world (record { changes = made; begun = None; refused = None; failure = failure; is_begun = is_some_change made }) has) ≡ is_recorded (outcome_by made failure)
  unfolding entries_of
  record_of_plain [] None = refl
  record_of_plain [] (Some reason) = behind_run moment has _ []
  record_of_plain (change ∷ made) None = behind_run moment has _ _
  record_of_plain (change ∷ made) (Some reason) = behind_run moment has _ _

  record_of_refused : (made : List Change) (next : Option Change) (call : Call) (is_begun : Bool) →
      has_record (entries_of moment n instance world (record { changes = made; begun = next; refused = Some call; failure = Some Fault; is_begun = is_begun }) has) ≡ true
  unfolding entries_of
  record_of_refused made next call true = behind_run moment has _ _
  record_of_refused made next call false = behind_run moment has _ []

-- an instance that isn't kept writes one
pub record_of_acts : (moment n : ℕ) (instance : Instance) (world : World) (has : Bool) (planned : Actuated) (m : Option Mark) →
    has_record (entries_of moment n instance world (done_by planned m) has) ≡ is_recorded (outcome_done (done_by planned m))
record_of_acts moment n instance world has planned None = record_of_plain moment n instance world has planned.changes planned.failure
record_of_acts moment n instance world has planned (Some mark) =
    record_of_refused moment n instance world has (take mark.changes planned.changes) (begun_by mark.call (drop mark.changes planned.changes)) mark.call (is_some_change (take mark.changes planned.changes) || is_change mark.call)
    ∙ sym (failed (take mark.changes planned.changes) Fault)

-- with its lock
pub record_of_added : (moment n : ℕ) (instance : Instance) (world : World) (has has_locks : Bool) (planned : Actuated) (m : Option Mark) →
    has_record (entries_of moment n instance world (done_by planned m) has ++ lock_entries moment has_locks instance) ≡ is_recorded (outcome_done (done_by planned m))
record_of_added moment n instance world has has_locks planned m =
    record_in_both (entries_of moment n instance world (done_by planned m) has) (lock_entries moment has_locks instance)
    ∙ ap (λ b. has_record (entries_of moment n instance world (done_by planned m) has) || b) (no_record_in_lock moment has_locks instance)
    ∙ or_false (has_record (entries_of moment n instance world (done_by planned m) has))
    ∙ record_of_acts moment n instance world has planned m

pub record_of_lock : (has : Bool) (moment : ℕ) (has_locks : Bool) (instance : Instance) → has ≡ has || has_record (lock_entries moment has_locks instance)
record_of_lock has moment has_locks instance = sym (ap (λ b. has || b) (no_record_in_lock moment has_locks instance) ∙ or_false has)

-- ---- outcomes and lines

pub outcome_is : (made : List Change) (failure : Option Reason) → outcome_by made failure ≡ outcome_counted (length made) failure
outcome_is [] None = refl
outcome_is [] (Some reason) = refl
outcome_is (change ∷ made) None = sym (ap (λ b. if b then Repaired else Kept) (some_made (length made)))
outcome_is (change ∷ made) (Some reason) = refl

pub lines_are : (s : Start) (instance : Instance) (done : Done) (made : List Change) (failure : Option Reason) →
    lines_done s instance done failure made ≡ lines_by instance.source (length made) failure
lines_are s instance done [] None = refl
lines_are s instance done [] (Some reason) = refl
lines_are s instance done (change ∷ made) None =
    sym (ap (λ b. if b then repaired_line instance.source (length (change ∷ made)) ∷ [] else []) (some_made (length made)))
lines_are s instance done (change ∷ made) (Some reason) = refl
