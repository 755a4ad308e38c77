-- A teller says which instances are skipped and how the others may end, by all that happened before. In a run each instance
-- ends in one way: an instance with acts as its acts do on a world, and a call as failed where an instance in its bundle failed,
-- else as repaired where one was repaired, else as kept. Where all is kept, each ends as kept. In the open walk each may end as
-- kept or as repaired. A report is kept, whoever tells.
use Rattle.std.specs.Prelude.{ℕ, Bool, true, false, List, [], ◌∷◌, ◌++◌, Option, Some, None}
use Rattle.std.specs.Str.{bytes_eq}
use Rattle.cfa_outside.specs.declared.worlds.World.{World}
use Rattle.cfa_outside.specs.declared.sites.Change.{Change}
use Rattle.cfa_outside.specs.Sites.{after_change}
use Rattle.cfa_acts.specs.declared.acts.Act.{Act}
use Rattle.cfa_acts.specs.declared.acts.Reason.{Reason}
use Rattle.cfa_acts.specs.declared.acts.Reason.TheVariants as reasons
use Rattle.cfa_acts.specs.declared.acts.Decision.{Decision}
use Rattle.cfa_acts.specs.declared.acts.Decision.TheVariants as decisions
use Rattle.cfa_acts.specs.Acts.{decision}
use Rattle.cfa_resolve.specs.declared.instances.Instance.{Instance}
use Rattle.cfa_resolve.specs.declared.instances.Work.{Work}
use Rattle.cfa_resolve.specs.declared.instances.Work.TheVariants.{Acts, Call, Report}
use Rattle.cfa_outcomes.specs.declared.outcomes.Outcome.{Outcome}
use Rattle.cfa_outcomes.specs.declared.outcomes.Outcome.TheVariants.{Kept, Repaired, Failed}
use Rattle.cfa_states.specs.declared.endings.Ending.{Ending}
use Rattle.cfa_states.specs.declared.endings.Ending.TheVariants.{One, KeptOrRepaired}
use Rattle.cfa_states.specs.History.{History, Begun, Set, Raised, Reached, Listed, Told}

pub record Teller : Type 0 where
  pub skips : History → Instance → Bool
  pub tells : History → Instance → List Outcome

-- the outcomes with which an instance may end
abbrev pub outcomes_in : Ending → List Outcome
outcomes_in (One outcome) = outcome ∷ []
outcomes_in KeptOrRepaired = Kept ∷ Repaired ∷ []

-- every instance is kept
abbrev pub all_kept : Teller
all_kept = record { skips = λ h i. false; tells = λ h i. Kept ∷ [] }

-- every instance may be kept or repaired
abbrev pub open_walk : Teller
open_walk = record { skips = λ h i. false; tells = λ h i. Kept ∷ Repaired ∷ [] }

-- each instance ends in one way, and none is skipped
abbrev pub one_each : (History → Instance → Outcome) → Teller
one_each outcome = record { skips = λ h i. false; tells = λ h i. outcome h i ∷ [] }

-- ---- what acts do

-- the changes that are needed one after the other, up to the first act that fails, and why it fails
pub record Actuated : Type 0 where
  pub changes : List Change
  pub failure : Option Reason

abbrev pub no_more : Actuated
no_more = record { changes = []; failure = None }

abbrev pub failing : Reason → Actuated
failing reason = record { changes = []; failure = Some reason }

abbrev pub changing : Change → Actuated → Actuated
changing change rest = record { changes = change ∷ rest.changes; failure = rest.failure }

-- by the decision on an act, with what the acts behind it do where it is kept, and after its change
abbrev pub actuated_by : Decision → (kept : Actuated) → (Change → Actuated) → Actuated
actuated_by decisions.Kept kept changed = kept
actuated_by (decisions.Needs change) kept changed = changing change (changed change)
actuated_by (decisions.Fail reason) kept changed = failing reason
actuated_by (decisions.Fault call) kept changed = failing reasons.Fault

abbrev pub actuated : List Act → World → Actuated
actuated [] world = no_more
actuated (act ∷ acts) world = actuated_by (decision act world) (actuated acts world) (λ change. actuated acts (after_change change world))

abbrev pub after_all : List Change → World → World
after_all [] world = world
after_all (change ∷ changes) world = after_all changes (after_change change world)

-- the outcome by whether changes were made, and whether an act failed
abbrev pub outcome_by : List Change → Option Reason → Outcome
outcome_by changes (Some reason) = Failed
outcome_by [] None = Kept
outcome_by (change ∷ changes) None = Repaired

abbrev pub outcome_of : Actuated → Outcome
outcome_of done = outcome_by done.changes done.failure

abbrev pub acts_of : Work → List Act
acts_of (Acts acts) = acts
acts_of (Call name arguments) = []
acts_of (Report content) = []

-- ---- how a call ends

abbrev pub worse : Outcome → Outcome → Outcome
worse Failed other = Failed
worse Kept other = other
worse Repaired Failed = Failed
worse Repaired Kept = Repaired
worse Repaired Repaired = Repaired

-- a skipped instance counts as kept
abbrev pub worst : List Outcome → Outcome
worst [] = Kept
worst (outcome ∷ others) = worse outcome (worst others)

-- the worst outcome in a path since its last Begun
abbrev pub worst_in : History → (path : List ℕ) → Outcome
worst_in [] path = Kept
worst_in (Begun p arguments ∷ h) path = elim (bytes_eq p path) [ true ↦ Kept | false ↦ worst_in h path ]
worst_in (Told instance outcomes ∷ h) path =
    elim (bytes_eq instance.path path) [ true ↦ worse (worst outcomes) (worst_in h path) | false ↦ worst_in h path ]
worst_in (Set p name datum ∷ h) path = worst_in h path
worst_in (Raised place class status source ∷ h) path = worst_in h path
worst_in (Reached home promise guard sets visits ∷ h) path = worst_in h path
worst_in (Listed instance status ∷ h) path = worst_in h path

-- the path of a called bundle: that of the caller, a newline, and the key text of the call
abbrev pub inner_path : Instance → List ℕ
inner_path instance = instance.path ++ (10 ∷ instance.text)
