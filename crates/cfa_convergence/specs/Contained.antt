-- A run that ends without a failure lies within the open walk, where nothing is unsettled there: it visits and actuates only what the walk
-- visits, in an order of the walk, and actuates what the walk visits for sure.
use Rattle.std.specs.Prelude.{◌≡◌, Bool, true, false, List, [], ◌∷◌}
use Rattle.cfa_statuses.specs.declared.levels.Status.{Status}
use Rattle.cfa_statuses.specs.declared.levels.Status.TheVariants.{No, Maybe, Yes}
use Rattle.cfa_outcomes.specs.declared.outcomes.Outcome.{Outcome}
use Rattle.cfa_outcomes.specs.declared.outcomes.Outcome.TheVariants.{Kept, Repaired}
use Rattle.cfa_resolve.specs.declared.instances.Instance.{Instance}
use Rattle.cfa_resolve.specs.declared.instances.Work.{Work}
use Rattle.cfa_resolve.specs.declared.instances.Work.TheVariants.{Acts, Call, Report}
use Rattle.cfa_states.specs.History.{History, Begun, Set, Raised, Reached, Listed, Told, mark_in}
use Rattle.cfa_states.specs.Numbered.{Numbered}
use Rattle.cfa_states.specs.Passes.{goes, run}
use Rattle.cfa_states.specs.Tellers.{open_walk}
use Rattle.cfa_states.specs.Views.{Setting, Home}
use Rattle.cfa_states.specs.Walks.{unsettled_edits}
use Rattle.cfa_convergence.specs.Conflicts.{HasActs, was_visited, IsAfter}
use Rattle.cfa_laws.specs.Keys.{IsKeyed}
use Rattle.cfa_convergence.specs.Lasting.{IsAmong, Follow}
use Rattle.cfa_convergence.specs.Policies.{HasKnown}
use Rattle.cfa_convergence.specs.Told.{Telling, teller_of}

-- ---- runs without failures

-- each instance is kept or repaired
abbrev pub kept_or_repaired : Bool → Outcome
kept_or_repaired true = Repaired
kept_or_repaired false = Kept

abbrev pub unfailing : (History → Instance → Bool) → Telling
unfailing repairs = λ h instance. kept_or_repaired (repairs h instance) ∷ []

-- ---- actuations

abbrev pub with_acts : Work → Instance → List Instance → List Instance
with_acts (Acts acts) instance others = instance ∷ others
with_acts (Call name arguments) instance others = others
with_acts (Report content) instance others = others

-- the instances with acts that were actuated, the newest first
abbrev pub actuations : History → List Instance
actuations [] = []
actuations (Told instance [] ∷ h) = actuations h
actuations (Told instance (outcome ∷ others) ∷ h) = with_acts instance.work instance (actuations h)
actuations (Begun path arguments ∷ h) = actuations h
actuations (Set path name datum ∷ h) = actuations h
actuations (Raised place class status source ∷ h) = actuations h
actuations (Reached home promise guard sets visits ∷ h) = actuations h
actuations (Listed instance status ∷ h) = actuations h

-- ---- settled walks

-- a promise that sets a variable has a guard that holds or doesn't
abbrev pub GuardIsSettled : (guard : Status) → (sets : Bool) → Type 0
GuardIsSettled Maybe true = ⊥
GuardIsSettled _ _ = Unit {0}

-- so have the promises of its edit bundle, where it is walked
abbrev pub EditsAreSettled : Setting → History → Home → Numbered → (guard : Status) → Type 0
EditsAreSettled s h home promise No = Unit {0}
EditsAreSettled s h home promise Maybe = unsettled_edits s h home promise ≡ []
EditsAreSettled s h home promise Yes = unsettled_edits s h home promise ≡ []

abbrev pub IsSettled : Setting → History → Type 0
IsSettled s [] = Unit {0}
IsSettled s (Reached home promise guard sets visits ∷ h) = GuardIsSettled guard sets × EditsAreSettled s h home promise guard × IsSettled s h
IsSettled s (Begun path arguments ∷ h) = IsSettled s h
IsSettled s (Set path name datum ∷ h) = IsSettled s h
IsSettled s (Raised place class status source ∷ h) = IsSettled s h
IsSettled s (Listed instance status ∷ h) = IsSettled s h
IsSettled s (Told instance outcomes ∷ h) = IsSettled s h

-- ---- contained

-- the run within the walk
pub record LiesWithin (run walk : History) : Type 0 where
  -- what it visits the walk visits
  pub visits : (i : Instance) → was_visited run i ≡ true → was_visited walk i ≡ true
  pub acted : (i : Instance) → IsAmong i (actuations run) → was_visited walk i ≡ true
  -- in an order of the walk
  pub order : Follow (IsAfter walk) (actuations run)
  -- what is visited for sure is actuated
  pub sure : (i : Instance) → IsKeyed i → HasActs i.work → mark_in walk i.path i.text ≡ Yes → IsAmong i (actuations run)

abbrev pub UnfailingRunsAreContained : Type 0
UnfailingRunsAreContained =
    (s : Setting) (repairs : History → Instance → Bool) (run_end walk_end : History) → HasKnown s.policy →
    run s (teller_of (unfailing repairs)) ≡ goes run_end → run s open_walk ≡ goes walk_end → IsSettled s walk_end →
    LiesWithin run_end walk_end
