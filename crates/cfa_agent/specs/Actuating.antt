-- Of the code alone: how an instance is actuated on a site, and what is recorded of it.
use Rattle.std.specs.Prelude.{ℕ, ◌≤◌, Bool, true, false, ◌||◌, nat_lt, if◌then◌else◌, List, [], ◌∷◌, ◌++◌, Option, Some, None, Result, OnOk, IfErr, ◌≡◌, length, IfSome, Ok, Err, IfOk}
use Rattle.cfa_base.specs.Causes.{Rose}
use Rattle.cfa_base.specs.Shown.{Shown, Follows, HasFailed}
use Rattle.cfa_outside.specs.declared.sites.Call.{Call}
use Rattle.cfa_outside.specs.declared.sites.Entry.{Entry}
use Rattle.cfa_outside.specs.Sites.{Told, adds}
use Rattle.cfa_acts.specs.declared.acts.Reason.{Reason}
use Rattle.cfa_journal.specs.declared.records.Record.TheVariants.{Open, Fail, Repaired, Failed}
use Rattle.cfa_journal.specs.Records.{IsCount, IsMoment, IsId}
use Rattle.cfa_locks.specs.Locks.{key_of}
use Rattle.cfa_output.specs.declared.ends.Object.TheVariants.{Inputs, Site, Sink}
use Rattle.cfa_output.specs.declared.ends.Stop.{Stop}
use Rattle.cfa_output.specs.declared.ends.Stop.TheVariants.{Outside, Memory, Visits, Pattern}
use Rattle.cfa_resolve.specs.declared.instances.Instance.{Instance}
use Rattle.cfa_agent.specs.declared.actuating.Actuation.{Actuation}
use Rattle.cfa_agent.specs.declared.recording.Heading.{Heading}
use Rattle.cfa_agent.specs.Actuations.{is_change, number_of, appended, run_record, file_record, begun_record, Mark, Done, done_by, entries_of, changed, refused_entry}
use Rattle.cfa_base.specs.declared.want_of_memory.NoMemory.{NoMemory}
use Rattle.cfa_outside.specs.declared.sites.Change.{Change}
use Rattle.cfa_outside.specs.declared.sites.Entry.TheVariants.{Did, Refused}
use Rattle.cfa_outside.specs.declared.worlds.World.{World}
use Rattle.cfa_acts.specs.declared.acts.Act.{Act}
use Rattle.cfa_acts.specs.declared.acts.Decision.{Decision}
use Rattle.cfa_acts.specs.declared.acts.Reason.TheVariants.{Fault}
use Rattle.cfa_acts.specs.Acts.{IsOwn, decision}
use Rattle.cfa_states.specs.Tellers.{actuated, after_all}
use Rattle.cfa_agent.specs.declared.actuating.Step.{Step}
use Rattle.cfa_outside.specs.declared.sites.Call.TheVariants as calls
use Rattle.cfa_acts.specs.declared.acts.Decision.TheVariants as decisions
use Rattle.cfa_agent.specs.declared.actuating.Step.TheVariants as steps

-- The records that an actuation writes before its first change and behind its last one.

-- ---- causes

-- a call on the site failed: its count of faults rose, and never falls
pub record HasFault (before after : Shown Told) : Type 0 where
  pub rose : Rose before.faults after.faults
  pub later : before.faults ≤ after.faults

-- what stops work on a site: want of memory, or the site, on which a call then failed
abbrev pub StopsBySite : (before after : Shown Told) → Stop → Type 0
StopsBySite before after (Outside Inputs) = ⊥
StopsBySite before after (Outside Site) = HasFault before after
StopsBySite before after (Outside Sink) = ⊥
StopsBySite before after Memory = before.faults ≤ after.faults
StopsBySite before after Visits = ⊥
StopsBySite before after (Pattern text) = ⊥

-- these entries were added, or the work was stopped
pub record Writes (entries : List Entry) (before after : Shown Told) (result : Result (Unit {0}) Stop) : Type 0 where
  pub written : OnOk result (Follows (adds entries) before after)
  pub stopped : IfErr result (StopsBySite before after)

-- ---- records

-- what the records of an instance tell can be written
pub record IsRecorded (heading : Heading) (instance : Instance) : Type 0 where
  pub moment : IsMoment heading.moment
  pub number : IsCount heading.number
  pub source : IsId instance.source

abbrev pub run_before : Heading → List Entry
run_before heading = run_record heading.moment heading.has_record

-- what stands before the first change of an instance
abbrev pub opening : Heading → Instance → List Entry
opening heading instance =
    run_before heading ++ appended (Open heading.number instance.source (key_of instance.text)) ∷ []

-- the same, where so many changes were made so far
abbrev pub opening_at : (changes : ℕ) → Heading → Instance → List Entry
opening_at changes heading instance = if nat_lt 0 changes then [] else opening heading instance

abbrev pub failing : Heading → Instance → Reason → List Entry
failing heading instance reason =
    run_before heading
    ++ appended (Fail heading.number instance.source (key_of instance.text) (number_of reason)) ∷ []

-- a change was made, or one was begun and refused
abbrev pub is_begun : (changes : ℕ) → (refused : Option Call) → Bool
is_begun changes None = nat_lt 0 changes
is_begun changes (Some call) = nat_lt 0 changes || is_change call

-- what stands behind the last change of an instance
abbrev pub closing_repaired : Heading → (changes : ℕ) → List Entry
closing_repaired heading changes =
    if nat_lt 0 changes then appended (Repaired heading.number changes) ∷ [] else []

abbrev pub closing_failed : Heading → Instance → (begun : Bool) → Reason → List Entry
closing_failed heading instance true reason = appended (Failed heading.number (number_of reason)) ∷ []
closing_failed heading instance false reason = failing heading instance reason

abbrev pub closing_by : Heading → Instance → (changes : ℕ) → (refused : Option Call) → (failure : Option Reason) → List Entry
closing_by heading instance changes refused None = closing_repaired heading changes
closing_by heading instance changes refused (Some reason) =
    closing_failed heading instance (is_begun changes refused) reason

abbrev pub closing : Heading → Instance → Actuation → List Entry
closing heading instance a = closing_by heading instance a.changes a.refused a.failure

-- What the actuation of an instance on a site answers, and what it leaves the site to show.

-- ---- one act

-- where a call was refused one failed, and else the count of faults stands
abbrev pub StepFaults : Step → (before after : Shown Told) → Type 0
StepFaults (steps.Refused call) before after = HasFault before after
StepFaults _ before after = after.faults ≡ before.faults

-- a change was made, or refused
abbrev pub IsMade : Change → (before after : Shown Told) → Step → Type 0
IsMade change before after steps.Changed = Follows (adds (Did change ∷ [])) before after
IsMade change before after (steps.Refused calls.Change) = HasFailed (adds (Refused calls.Change ∷ [])) before after
IsMade change before after _ = ⊥

abbrev pub ChangeTried : Change → (before after : Shown Told) → Result Step NoMemory → Type 0
ChangeTried change before after (Ok step) = IsMade change before after step
ChangeTried change before after (Err want) = before.faults ≤ after.faults

-- a look was refused
abbrev pub IsRefusedLook : Call → Step → Type 0
IsRefusedLook call (steps.Refused call') = (call' ≡ call) × (is_change call ≡ false)
IsRefusedLook call _ = ⊥

-- an act fails of itself for no fault
abbrev pub StepIsOwn : Step → Type 0
StepIsOwn (steps.Failed reason) = IsOwn reason
StepIsOwn _ = Unit {0}

-- the entries of a needed change on a world, made or refused, behind what stands before it
abbrev pub change_entries : (number : ℕ) → (opened : List Entry) → Change → Entry → World → List Entry
change_entries number opened change entry world = opened ++ (file_record number change world ++ entry ∷ [])

-- a look was refused, before any record of the act
abbrev pub IsLookRefused : Call → (after : Shown Told) → Told → Type 0
IsLookRefused call after t = (is_change call ≡ false) × (after.told ≡ Some (adds (Refused call ∷ []) t))

-- what came of an act, by the decision on it; whether a call is refused is the site's to say
abbrev pub Takes : (number : ℕ) → (opened : List Entry) → Decision → Step → (after : Shown Told) → Told → Type 0
Takes number opened decisions.Kept steps.Kept after t = after.told ≡ Some t
Takes number opened (decisions.Needs change) steps.Changed after t =
    after.told ≡ Some (adds (change_entries number opened change (Did change) t.world) t)
Takes number opened (decisions.Needs change) (steps.Refused calls.Change) after t =
    after.told ≡ Some (adds (change_entries number opened change (Refused calls.Change) t.world) t)
Takes number opened (decisions.Fail reason) (steps.Failed reason') after t = (reason' ≡ reason) × (after.told ≡ Some t)
Takes number opened _ (steps.Refused call) after t = IsLookRefused call after t
Takes number opened _ _ after t = ⊥

-- what came of an act, of which the decision is known by the world
pub record StepTaken (number : ℕ) (decided : World → Decision) (opened : List Entry) (before after : Shown Told) (result : Result Step Stop) : Type 0 where
  pub taken : IfOk result (λ step. IfSome before.told (λ t. Takes number opened (decided t.world) step after t))
  pub cause : IfOk result (λ step. StepFaults step before after)
  pub own : IfOk result StepIsOwn
  pub stopped : IfErr result (StopsBySite before after)

abbrev pub ChangeMade : (number : ℕ) → Change → (opened : List Entry) → (before after : Shown Told) → Result Step Stop → Type 0
ChangeMade number change opened = StepTaken number (λ world. decisions.Needs change) opened

abbrev pub ActTaken : (number : ℕ) → Act → (opened : List Entry) → (before after : Shown Told) → Result Step Stop → Type 0
ActTaken number act opened = StepTaken number (decision act) opened

-- ---- an actuation

-- where a call was refused one failed, and else the count of faults stands
abbrev pub FaultsBy : (refused : Option Call) → (before after : Shown Told) → Type 0
FaultsBy None before after = after.faults ≡ before.faults
FaultsBy (Some call) before after = HasFault before after

-- where a call was refused the instance fails for a fault, and else for none
abbrev pub IsCaused : (refused : Option Call) → (failure : Option Reason) → Type 0
IsCaused None None = Unit {0}
IsCaused None (Some reason) = IsOwn reason
IsCaused (Some call) failure = failure ≡ Some Fault

-- the mark that an actuation met
abbrev pub mark_by : (number changes : ℕ) → (refused : Option Call) → Option Mark
mark_by number changes None = None
mark_by number changes (Some call) = Some (record { instance = number; changes = changes; call = call })

abbrev pub mark_met : (number : ℕ) → Actuation → Option Mark
mark_met number a = mark_by number a.changes a.refused

-- what acts do on a world under that mark
abbrev pub done_met : (number : ℕ) → List Act → Actuation → World → Done
done_met number acts a world = done_by (actuated acts world) (mark_met number a)

-- it came to what was to be done, and wrote this of it
pub record DoesActs (entries : World → Done → List Entry) (done : Done) (after : Shown Told) (a : Actuation) (t : Told) : Type 0 where
  pub failure : a.failure ≡ done.failure
  pub changes : a.changes ≡ length done.changes
  pub told : after.told ≡ Some (adds (entries t.world done) t)

pub record ActsDone (number : ℕ) (acts : List Act) (entries : World → Done → List Entry) (before after : Shown Told) (result : Result Actuation Stop) : Type 0 where
  pub done : IfOk result (λ a. IfSome before.told (λ t. DoesActs entries (done_met number acts a t.world) after a t))
  pub cause : IfOk result (λ a. FaultsBy a.refused before after)
  pub caused : IfOk result (λ a. IsCaused a.refused a.failure)
  pub stopped : IfErr result (StopsBySite before after)

-- the entries up to the last change, or up to the refused call
abbrev pub acted_by : (number : ℕ) → (opened : List Entry) → World → Done → (is_begun : Bool) → List Entry
acted_by number opened world done false = refused_entry done.refused
acted_by number opened world done true =
    opened ++ (changed number world done.changes
    ++ (begun_record number (after_all done.changes world) done.begun ++ refused_entry done.refused))

abbrev pub acted : (number : ℕ) → (opened : List Entry) → World → Done → List Entry
acted number opened world done = acted_by number opened world done done.is_begun

-- the acts were done, with the records of the journal
abbrev pub Actuates : (moment number : ℕ) → Instance → List Act → (has_record : Bool) → (before after : Shown Told) → Result Actuation Stop → Type 0
Actuates moment number instance acts has_record before after result =
    ActsDone number acts (λ world done. entries_of moment number instance world done has_record) before after result
