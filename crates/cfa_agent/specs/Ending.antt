-- Of the code alone: how an instance ends on a site, what tells it, and what stops it.
use Rattle.std.specs.Prelude.{ℕ, ◌≡◌, ◌≤◌, ◌+◌, suc, Bool, true, false, ◌||◌, nat_lt, if◌then◌else◌, List, [], ◌∷◌, ◌++◌, Option, Some, None, IfSome, Result, IfOk, OnOk, IfErr}
use Rattle.cfa_base.specs.Causes.{Rose}
use Rattle.cfa_base.specs.declared.places.PromiseId.{PromiseId}
use Rattle.cfa_base.specs.Shown.{Shown, Follows, Untouched}
use Rattle.cfa_outside.specs.Sites.{Told, adds}
use Rattle.cfa_outside.specs.Sinks.{adds_bytes}
use Rattle.cfa_acts.specs.declared.acts.Act.{Act}
use Rattle.cfa_acts.specs.declared.acts.Reason.{Reason}
use Rattle.cfa_acts.specs.Reasons.{code_of, word_of}
use Rattle.cfa_output.specs.declared.ends.Object.TheVariants.{Inputs, Site, Sink}
use Rattle.cfa_output.specs.declared.ends.Stop.{Stop}
use Rattle.cfa_output.specs.declared.ends.Stop.TheVariants.{Outside, Memory, Visits, Pattern}
use Rattle.cfa_output.specs.Lines.{repaired_line, failed_line}
use Rattle.cfa_resolve.specs.declared.instances.Instance.{Instance}
use Rattle.cfa_outcomes.specs.declared.outcomes.Outcome.{Outcome}
use Rattle.cfa_outcomes.specs.declared.outcomes.Outcome.TheVariants.{Kept, Repaired, Failed}
use Rattle.cfa_states.specs.declared.endings.Ending.TheVariants.{One}
use Rattle.cfa_states.specs.Levels.{Faults, Later, HasTold}
use Rattle.cfa_agent.specs.declared.actuating.Actuation.{Actuation}
use Rattle.cfa_agent.specs.declared.progress.Running.{Running}
use Rattle.cfa_agent.specs.declared.running.Tally.{Tally}
use Rattle.cfa_agent.specs.Actuating.{DoesActs, done_met, StopsBySite}
use Rattle.cfa_agent.specs.Actuations.{entries_of}
use Rattle.cfa_agent.specs.Locking.{is_skipped, lock_entries}
use Rattle.cfa_agent.specs.Stepping.{is_recorded}
use Rattle.cfa_agent.specs.Standing.{Standing, teller_of, faults_of, Agrees, IsBehind}

-- ---- lines

-- these lines were told
pub record LinesTold (more : List (List ℕ)) (lines lines' : List (List ℕ)) (result : Result (Unit {0}) Stop) : Type 0 where
  pub told : OnOk result (lines' ≡ lines ++ more)
  pub stopped : IfErr result (λ stop. stop ≡ Memory)

-- ---- what is put

abbrev pub StopsPut : (out out' : Shown (List ℕ)) → Stop → Type 0
StopsPut out out' (Outside Inputs) = ⊥
StopsPut out out' (Outside Site) = ⊥
StopsPut out out' (Outside Sink) = Rose out.faults out'.faults
StopsPut out out' Memory = out'.faults ≡ out.faults
StopsPut out out' Visits = ⊥
StopsPut out out' (Pattern text) = ⊥

-- these bytes were put, or the putting was stopped
pub record TextPut (text : List ℕ) (out out' : Shown (List ℕ)) (result : Result (Unit {0}) Stop) : Type 0 where
  pub put : OnOk result (Follows (adds_bytes text) out out')
  pub stopped : IfErr result (StopsPut out out')

-- a kept instance has none
abbrev pub lines_by : PromiseId → (changes : ℕ) → (failure : Option Reason) → List (List ℕ)
lines_by id changes (Some reason) = failed_line id (code_of reason) (word_of reason) ∷ []
lines_by id changes None = if nat_lt 0 changes then repaired_line id changes ∷ [] else []

abbrev pub lines_ended : PromiseId → Actuation → List (List ℕ)
lines_ended id a = lines_by id a.changes a.failure

-- ---- counts

abbrev pub outcome_counted : (changes : ℕ) → (failure : Option Reason) → Outcome
outcome_counted changes (Some reason) = Failed
outcome_counted changes None = if nat_lt 0 changes then Repaired else Kept

abbrev pub outcome_ended : Actuation → Outcome
outcome_ended a = outcome_counted a.changes a.failure

abbrev pub one_ended : Outcome → Tally → Tally
one_ended Kept tally = record tally { kept = tally.kept + 1 }
one_ended Repaired tally = record tally { repaired = tally.repaired + 1 }
one_ended Failed tally = record tally { failed = tally.failed + 1 }

abbrev pub one_skipped : Tally → Tally
one_skipped tally = record tally { skipped = tally.skipped + 1 }

-- a run that has counted one more that ended
abbrev pub tallied : Outcome → Running → Running
tallied outcome r = record r { tally = one_ended outcome r.tally }

-- the same of a visit
abbrev pub heard : (is_skipped : Bool) → Running → Running
heard true r = record r { tally = one_skipped r.tally }
heard false r = r

-- a run that has actuated one more instance with acts
abbrev pub acted_on : Actuation → Running → Running
acted_on a r = record r { number = suc r.number; has_record = r.has_record || is_recorded (outcome_ended a) }

-- ---- one instance

-- a visit is skipped or not as the world says, and counted where it is
pub record Hears (r r' : Running) (instance : Instance) (before after : Shown Told) (result : Result Bool Stop) : Type 0 where
  pub answer : IfOk result (λ skipped. IfSome before.told (λ t. skipped ≡ is_skipped r.moment r.locks t.world instance))
  pub counted : IfOk result (λ skipped. r' ≡ heard skipped r)
  pub untouched : OnOk result (Untouched before after)
  pub stopped : IfErr result (StopsBySite before after)

-- the next instance with acts was actuated
pub record ActsNext (r r' : Running) (instance : Instance) (acts : List Act) (before after : Shown Told) (result : Result Actuation Stop) : Type 0 where
  pub done : IfOk result (λ a. IfSome before.told (λ t.
      DoesActs (λ world done. entries_of r.moment r'.number instance world done r.has_record) (done_met r'.number acts a t.world) after a t))
  pub counted : IfOk result (λ a. r' ≡ acted_on a r)
  pub few : OnOk result (r'.number ≤ 4294967295)
  pub changes_fit : IfOk result (λ a. a.changes ≤ 4294967295)
  pub later : OnOk result (before.faults ≤ after.faults)
  pub stopped : IfErr result (StopsBySite before after)

-- the lock of an instance that has ended was set, and it was counted
pub record Settles (r r' : Running) (instance : Instance) (outcome : Outcome) (before after : Shown Told) (result : Result (Unit {0}) Stop) : Type 0 where
  pub locked : OnOk result (Follows (adds (lock_entries r.moment r.locks instance)) before after)
  pub counted : OnOk result (r' ≡ tallied outcome r)
  pub stopped : IfErr result (StopsBySite before after)

-- ---- who tells

-- the cause of a stop: the site, whose count of faults rose, or want of memory
abbrev pub StopsTeller : (before after : Faults) → Stop → Type 0
StopsTeller before after (Outside Inputs) = ⊥
StopsTeller before after (Outside Site) = Rose before.0 after.0 × (after.1 ≡ before.1)
StopsTeller before after (Outside Sink) = ⊥
StopsTeller before after Memory = after.1 ≡ before.1
StopsTeller before after Visits = ⊥
StopsTeller before after (Pattern text) = ⊥

-- it was told how an instance ended
pub record Tells (w w' : Standing) (instance : Instance) (called : Outcome) (result : Result Outcome Stop) : Type 0 where
  pub told : IfOk result (λ outcome. HasTold teller_of Agrees IsBehind w w' instance called (One outcome))
  pub later : IfOk result (λ outcome. Later (faults_of w) (faults_of w'))
  pub stopped : IfErr result (StopsTeller (faults_of w) (faults_of w'))
