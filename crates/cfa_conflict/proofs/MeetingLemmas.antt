-- What the promises of conflicts meet in.
use Rattle.std.proofs.Common.{◌≡◌, ℕ, ◌+◌, ◌==◌, Bool, true, false, if◌then◌else◌, List, [], ◌∷◌, ◌++◌, map, Some, None, Option, sym, ap, subst}
use Rattle.std.proofs.lemmas.Option.{none-some, same_Some}
use Rattle.std.specs.List.{AllByRecursion, filter}
use Rattle.cfa_base.specs.lemmas.Lists.{each_append, each_flat}
use Rattle.cfa_acts.specs.declared.acts.Act.{Act}
use Rattle.cfa_acts.specs.declared.acts.Act.TheVariants.{Create, MakeDir, Delete, Content, Copy, Edit, Perms, Start, Stop, Enable, Disable, Restart, Bust}
use Rattle.cfa_acts.specs.Disturbs.{disturbs}
use Rattle.cfa_statuses.specs.declared.levels.Status.{Status}
use Rattle.cfa_statuses.specs.declared.levels.Status.TheVariants.{No, Maybe, Yes}
use Rattle.cfa_resolve.specs.declared.instances.Instance.{Instance}
use Rattle.cfa_states.specs.declared.walks.Blame.{Blame}
use Rattle.cfa_states.specs.declared.walks.Visit.{Visit}
use Rattle.cfa_states.specs.declared.walks.Walk.{Walk}
use Rattle.cfa_states.specs.Passes.{Course, goes, too_large, run}
use Rattle.cfa_states.specs.Tellers.{acts_of, all_kept, open_walk}
use Rattle.cfa_states.specs.Views.{Setting}
use Rattle.cfa_states.specs.Walks.{walked}
use Rattle.cfa_conflict.specs.declared.verdicts.Conflict.{Conflict}
use Rattle.cfa_conflict.specs.declared.verdicts.Verdict.{Verdict}
use Rattle.cfa_conflict.specs.declared.verdicts.Verdict.TheVariants as verdict
use Rattle.cfa_conflict.specs.Conflicts.{resource_of, is_live, unsettled_conflict, restart_of, restarts_of, waits_for, unsure_by, unsure_at, undone, undone_by, undone_by_other, undone_by_later, is_visited_after, undone_in, undone_from, first_visit, conflicts_at, conflicts_from, conflicts, first_or_accepted, live_instances, verdict_of}
use Rattle.cfa_conflict.specs.Analyses.{IsResource, presence, content, perms, running, enabled, restart, class, nothing, verdict_over, analysis_of, ConflictsMeet}

abbrev HasResource : Conflict → Type 0
HasResource c = IsResource c.resource

abbrev Each : List Conflict → Type 0
Each cs = AllByRecursion HasResource cs

-- ---- lists

each_map : {X : Type 0} (f : X → Conflict) (xs : List X) → ((x : X) → IsResource (f x).resource) → Each (map f xs)
each_map f [] h = tt
each_map f (x ∷ xs) h = (h x, each_map f xs h)

each_if : (b : Bool) (x y : List Conflict) → Each x → Each y → Each (if b then x else y)
each_if true x y p q = p
each_if false x y p q = q

-- ---- the conflicts of each cause

resource_is : (act : Act) → IsResource (resource_of act)
unfolding resource_of
resource_is (Create path) = presence path
resource_is (MakeDir path) = presence path
resource_is (Delete path with_directories) = presence path
resource_is (Content path bytes) = content path
resource_is (Copy source path) = content path
resource_is (Edit path script) = content path
resource_is (Perms path mode owners groups) = perms path
resource_is (Start name) = running name
resource_is (Stop name) = running name
resource_is (Enable name) = enabled name
resource_is (Disable name) = enabled name
resource_is (Restart name) = restart name
resource_is (Bust reason) = nothing

restart_each : (instance : Instance) (act : Act) → Each (restart_of instance act)
restart_each instance (Create path) = tt
restart_each instance (MakeDir path) = tt
restart_each instance (Delete path with_directories) = tt
restart_each instance (Content path bytes) = tt
restart_each instance (Copy source path) = tt
restart_each instance (Edit path script) = tt
restart_each instance (Perms path mode owners groups) = tt
restart_each instance (Start name) = tt
restart_each instance (Stop name) = tt
restart_each instance (Enable name) = tt
restart_each instance (Disable name) = tt
restart_each instance (Restart name) = (resource_is (Restart name), tt)
restart_each instance (Bust reason) = tt

waits_each : (instance : Instance) (blame : Option Blame) → Each (waits_for instance blame)
waits_each instance None = tt
waits_each instance (Some blame) = (class blame.class, tt)

unsure_each : (instance : Instance) (status : Status) (blame : Option Blame) → Each (unsure_by instance status blame)
unsure_each instance No blame = tt
unsure_each instance Maybe blame = waits_each instance blame
unsure_each instance Yes blame = tt

unsure_at_each : (instance : Instance) (visit : Option Visit) → Each (unsure_at instance visit)
unsure_at_each instance None = tt
unsure_at_each instance (Some visit) = unsure_each instance visit.status visit.blame

undone_each : (instance other : Instance) (acts : List Act) (later : Act) → Each (undone_by instance other acts later)
undone_each instance other acts later = each_map (undone instance other) (filter (disturbs later) acts) resource_is

other_each : (instance other : Instance) → Each (undone_by_other instance other)
other_each instance other = each_flat HasResource (undone_by instance other (acts_of instance.work)) (undone_each instance other (acts_of instance.work)) (acts_of other.work)

later_each : (instance : Instance) (earlier later : List Act) → Each (undone_by_later instance earlier later)
later_each instance earlier [] = tt
later_each instance earlier (act ∷ later) = each_append HasResource (undone_by instance instance earlier act) (undone_by_later instance (earlier ++ act ∷ []) later)
    (undone_each instance instance earlier act) (later_each instance (earlier ++ act ∷ []) later)

undone_in_each : (visits : List Visit) (instance : Instance) (place : ℕ) (other_instance : Instance) (other : ℕ) → Each (undone_in visits instance place other_instance other)
undone_in_each visits instance place other_instance other = each_if (place == other) _ _ (later_each instance [] (acts_of instance.work))
    (each_if (is_visited_after visits place other) _ _ (other_each instance other_instance) tt)

undone_from_each : (visits : List Visit) (instance : Instance) (place : ℕ) (others : List Instance) (from : ℕ) → Each (undone_from visits instance place others from)
undone_from_each visits instance place [] from = tt
undone_from_each visits instance place (other ∷ others) from = each_append HasResource (undone_in visits instance place other from) (undone_from visits instance place others (from + 1))
    (undone_in_each visits instance place other from) (undone_from_each visits instance place others (from + 1))

-- ---- all conflicts

at_each : (walk : Walk) (instance : Instance) (place : ℕ) → Each (conflicts_at walk instance place)
at_each walk instance place = each_append HasResource (restarts_of instance) (unsure_at instance (first_visit walk.visits place) ++ undone_from walk.visits instance place walk.instances 0)
    (each_flat HasResource (restart_of instance) (restart_each instance) (acts_of instance.work))
    (each_append HasResource (unsure_at instance (first_visit walk.visits place)) (undone_from walk.visits instance place walk.instances 0)
    (unsure_at_each instance (first_visit walk.visits place)) (undone_from_each walk.visits instance place walk.instances 0))

from_each : (kept walk : Walk) (instances : List Instance) (from : ℕ) → Each (conflicts_from kept walk instances from)
from_each kept walk [] from = tt
from_each kept walk (instance ∷ instances) from = each_append HasResource (if is_live kept instance then conflicts_at walk instance from else []) (conflicts_from kept walk instances (from + 1))
    (each_if (is_live kept instance) _ _ (at_each walk instance from) tt) (from_each kept walk instances (from + 1))

all_each : (kept walk : Walk) → Each (conflicts kept walk)
unfolding conflicts
all_each kept walk = each_append HasResource (map unsettled_conflict walk.unsettled) (conflicts_from kept walk walk.instances 0)
    (each_map unsettled_conflict walk.unsettled (λ blame. class blame.class)) (from_each kept walk walk.instances 0)

-- ---- the verdict

abbrev told_or : Conflict → Verdict → Conflict
told_or other (verdict.Accepted live) = other
told_or other (verdict.Conflict c) = c

abbrev is_conflict : Verdict → Type 0
is_conflict (verdict.Accepted live) = ⊥
is_conflict (verdict.Conflict c) = Unit {0}

first_meets : (cs : List Conflict) (live : ℕ) (c : Conflict) → Each cs → first_or_accepted cs live ≡ verdict.Conflict c → IsResource c.resource
first_meets [] live c each is = absurd (subst is_conflict (sym is) tt)
first_meets (d ∷ cs) live c each is = subst (λ (x : Conflict). IsResource x.resource) (ap (told_or c) is) each.0

verdict_meets : (kept walk : Walk) (c : Conflict) → verdict_of kept walk ≡ verdict.Conflict c → IsResource c.resource
unfolding verdict_of
verdict_meets kept walk c is = first_meets (conflicts kept walk) (live_instances kept) c (all_each kept walk) is

over_meets : (s : Setting) (kept walk : Course) (c : Conflict) → verdict_over s kept walk ≡ Some (verdict.Conflict c) → IsResource c.resource
over_meets s (goes kept) (goes walk) c is = verdict_meets (walked s kept) (walked s walk) c (same_Some (verdict_of (walked s kept) (walked s walk)) (verdict.Conflict c) is)
over_meets s (goes kept) (too_large walk) c is = absurd (none-some (verdict.Conflict c) is)
over_meets s (too_large kept) walk c is = absurd (none-some (verdict.Conflict c) is)

pub conflicts_meet : ConflictsMeet
unfolding analysis_of
conflicts_meet s c is = over_meets s (run s all_kept) (run s open_walk) c is
