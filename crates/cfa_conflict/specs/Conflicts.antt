-- Conflicts between the promises of a policy, over its two walks: the one in which all is kept, and the open one, in which each
-- instance with acts and each call may be kept or repaired. An instance with acts is live where the walk in which all is kept
-- visits it.
--
-- A promise that sets a variable or edits lines, and whose guard may hold or not, is in conflict with the source of the class that
-- it waits for. A live instance that restarts a service is in conflict with itself. A live instance whose first visit in the open
-- walk may come or not is in conflict with the source of the class that it waits for. A live instance is in conflict with each
-- instance that is visited after its first visit and has an act that disturbs one of its acts; and with itself where one of its acts
-- disturbs an earlier one of it.
--
-- Conflicts stand in an order: those of unsettled promises first, as they are reached. Then those of each live instance, in the
-- order of first visits: its restart, then what it waits for, then what disturbs it, by the other instance in the order of
-- first visits, by the other's act and by its own. The first of them is the verdict; where there is none the policy is accepted.
use Rattle.std.specs.Prelude.{ℕ, ◌+◌, Bool, true, false, ◌&&◌, ◌==◌, if◌then◌else◌, List, [], ◌∷◌, ◌++◌, length, map, codes, Option, Some, None}
use Rattle.std.specs.List.{flat_map, filter, find, list_any}
use Rattle.cfa_base.specs.Escapes.{escaped}
use Rattle.cfa_base.specs.declared.places.PromiseId.{PromiseId}
use Rattle.cfa_acts.specs.declared.acts.Act.{Act}
use Rattle.cfa_acts.specs.declared.acts.Act.TheVariants.{Create, MakeDir, Delete, Content, Copy, Edit, Perms, Start, Stop, Enable, Disable, Restart, Bust}
use Rattle.cfa_acts.specs.Disturbs.{disturbs}
use Rattle.cfa_statuses.specs.declared.levels.Status.{Status}
use Rattle.cfa_statuses.specs.declared.levels.Status.TheVariants.{No, Maybe, Yes}
use Rattle.cfa_resolve.specs.declared.instances.Instance.{Instance}
use Rattle.cfa_resolve.specs.declared.instances.Work.{Work}
use Rattle.cfa_resolve.specs.declared.instances.Work.TheVariants.{Acts, Call, Report}
use Rattle.cfa_states.specs.declared.walks.Blame.{Blame}
use Rattle.cfa_states.specs.declared.walks.Visit.{Visit}
use Rattle.cfa_states.specs.declared.walks.Walk.{Walk}
use Rattle.cfa_states.specs.History.{is_named}
use Rattle.cfa_states.specs.Tellers.{acts_of}
use Rattle.cfa_conflict.specs.declared.verdicts.Cause.{Cause}
use Rattle.cfa_conflict.specs.declared.verdicts.Cause.TheVariants.{Restarts, ComesAndGoes, Undoes, Unsettled}
use Rattle.cfa_conflict.specs.declared.verdicts.Conflict.{Conflict}
use Rattle.cfa_conflict.specs.declared.verdicts.Verdict.{Verdict}
use Rattle.cfa_conflict.specs.declared.verdicts.Verdict.TheVariants as verdict

abbrev pub code_of : Cause → List ℕ
code_of Restarts = codes "C1"
code_of ComesAndGoes = codes "C2"
code_of Undoes = codes "C3"
code_of Unsettled = codes "C4"

-- ---- what promises meet in

abbrev pub about : (what : List ℕ) → (name : List ℕ) → List ℕ
about what name = what ++ 32 ∷ escaped name

-- what an act asks for
unfoldable pub resource_of : Act → List ℕ
resource_of (Create path) = about (codes "presence") path
resource_of (MakeDir path) = about (codes "presence") path
resource_of (Delete path with_directories) = about (codes "presence") path
resource_of (Content path bytes) = about (codes "content") path
resource_of (Copy source path) = about (codes "content") path
resource_of (Edit path script) = about (codes "content") path
resource_of (Perms path mode owners groups) = about (codes "perms") path
resource_of (Start name) = about (codes "running") name
resource_of (Stop name) = about (codes "running") name
resource_of (Enable name) = about (codes "enabled") name
resource_of (Disable name) = about (codes "enabled") name
resource_of (Restart name) = about (codes "restart") name
resource_of (Bust reason) = []

abbrev pub class_resource : (class : List ℕ) → List ℕ
class_resource class = about (codes "class") class

-- ---- instances and visits

abbrev pub has_acts : Work → Bool
has_acts (Acts acts) = true
has_acts (Call name arguments) = false
has_acts (Report content) = false

-- the walk visits this instance
abbrev pub is_visited : Walk → Instance → Bool
is_visited walk instance = list_any (is_named instance.path instance.text) walk.instances

abbrev pub is_live : (kept : Walk) → Instance → Bool
is_live kept instance = has_acts instance.work && is_visited kept instance

-- the first visit of the instance at a place
abbrev pub first_visit : List Visit → (place : ℕ) → Option Visit
first_visit visits place = find (λ visit. visit.instance == place) visits

abbrev pub has_visit : List Visit → (place : ℕ) → Bool
has_visit visits place = list_any (λ visit. visit.instance == place) visits

-- the instance at the other place is visited after the first visit of the one at this place
abbrev pub is_visited_after : List Visit → (place other : ℕ) → Bool
is_visited_after [] place other = false
is_visited_after (visit ∷ visits) place other =
    if visit.instance == place then has_visit visits other else is_visited_after visits place other

-- ---- the conflicts of each cause

-- a conflict of two promises in a resource
abbrev pub meeting : Cause → (first second : PromiseId) → (resource : List ℕ) → Conflict
meeting cause first second resource = record { cause = cause; first = first; second = second; resource = resource }

abbrev pub unsettled_conflict : Blame → Conflict
unsettled_conflict blame = meeting Unsettled blame.source blame.promise (class_resource blame.class)

abbrev pub restart_of : Instance → Act → List Conflict
restart_of instance (Restart name) =
    meeting Restarts instance.source instance.source (resource_of (Restart name)) ∷ []
restart_of instance _ = []

abbrev pub restarts_of : Instance → List Conflict
restarts_of instance = flat_map (restart_of instance) (acts_of instance.work)

abbrev pub waits_for : Instance → Option Blame → List Conflict
waits_for instance None = []
waits_for instance (Some blame) =
    meeting ComesAndGoes blame.source instance.source (class_resource blame.class) ∷ []

-- where the first visit may come or not
abbrev pub unsure_by : Instance → Status → Option Blame → List Conflict
unsure_by instance No blame = []
unsure_by instance Maybe blame = waits_for instance blame
unsure_by instance Yes blame = []

abbrev pub unsure_at : Instance → Option Visit → List Conflict
unsure_at instance None = []
unsure_at instance (Some visit) = unsure_by instance visit.status visit.blame

abbrev pub undone : (instance other : Instance) → Act → Conflict
undone instance other act = meeting Undoes instance.source other.source (resource_of act)

-- those of these acts that the later act disturbs
abbrev pub undone_by : (instance other : Instance) → (acts : List Act) → (later : Act) → List Conflict
undone_by instance other acts later = map (undone instance other) (filter (disturbs later) acts)

-- acts of another instance
abbrev pub undone_by_other : (instance other : Instance) → List Conflict
undone_by_other instance other =
    flat_map (undone_by instance other (acts_of instance.work)) (acts_of other.work)

-- acts of the instance itself, each with those before it
abbrev pub undone_by_later : Instance → (earlier later : List Act) → List Conflict
undone_by_later instance earlier [] = []
undone_by_later instance earlier (act ∷ later) =
    undone_by instance instance earlier act ++ undone_by_later instance (earlier ++ act ∷ []) later

abbrev pub undone_in : List Visit → Instance → (place : ℕ) → Instance → (other : ℕ) → List Conflict
undone_in visits instance place other_instance other =
    if place == other then undone_by_later instance [] (acts_of instance.work)
    else (if is_visited_after visits place other then undone_by_other instance other_instance else [])

-- all instances, from a place on
abbrev pub undone_from : List Visit → Instance → (place : ℕ) → List Instance → (from : ℕ) → List Conflict
undone_from visits instance place [] from = []
undone_from visits instance place (other ∷ others) from =
    undone_in visits instance place other from ++ undone_from visits instance place others (from + 1)

-- ---- all conflicts

abbrev pub conflicts_at : (walk : Walk) → Instance → (place : ℕ) → List Conflict
conflicts_at walk instance place =
    restarts_of instance
    ++ (unsure_at instance (first_visit walk.visits place)
    ++ undone_from walk.visits instance place walk.instances 0)

abbrev pub conflicts_from : (kept walk : Walk) → List Instance → (from : ℕ) → List Conflict
conflicts_from kept walk [] from = []
conflicts_from kept walk (instance ∷ instances) from =
    (if is_live kept instance then conflicts_at walk instance from else [])
    ++ conflicts_from kept walk instances (from + 1)

unfoldable pub conflicts : (kept walk : Walk) → List Conflict
conflicts kept walk = map unsettled_conflict walk.unsettled ++ conflicts_from kept walk walk.instances 0

-- ---- the verdict

-- how many instances have acts
abbrev pub live_instances : Walk → ℕ
live_instances kept = length (filter (λ (instance : Instance). has_acts instance.work) kept.instances)

abbrev pub first_or_accepted : List Conflict → (live : ℕ) → Verdict
first_or_accepted [] live = verdict.Accepted live
first_or_accepted (conflict ∷ more) live = verdict.Conflict conflict

unfoldable pub verdict_of : (kept walk : Walk) → Verdict
verdict_of kept walk = first_or_accepted (conflicts kept walk) (live_instances kept)
