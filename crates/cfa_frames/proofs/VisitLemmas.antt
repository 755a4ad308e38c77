-- What counts no visits.
use Rattle.std.proofs.Common.{◌≡◌, ◌∙◌, ℕ, List, [], ◌∷◌, Option, refl}
use Rattle.cfa_outcomes.specs.declared.outcomes.Outcome.{Outcome}
use Rattle.cfa_defines.specs.ClassPromises.{Raise}
use Rattle.cfa_resolve.specs.declared.instances.Instance.{Instance}
use Rattle.cfa_states.specs.History.{History, Where, Set, Told, visits_in}
use Rattle.cfa_states.specs.Passes.{bind, classes_for, raise_all, raise_each, raise_event, raise_lists, set_each, told}
use Rattle.cfa_statuses.specs.declared.levels.Status.{Status}
use Rattle.cfa_tree.specs.Tree.{NamedTree}
use Rattle.cfa_vars.specs.declared.scoping.Datum.{Datum}

pub bind_counts : (path : List ℕ) (params : List NamedTree) (given : List Datum) (h : History) → visits_in (bind path params given h) ≡ visits_in h
bind_counts path [] given h = refl
bind_counts path (p ∷ params) [] h = refl
bind_counts path (p ∷ params) (datum ∷ given) h = bind_counts path params given (Set path p.name datum ∷ h)

pub set_each_counts : (path name : List ℕ) (set : List Datum) (h : History) → visits_in (set_each path name set h) ≡ visits_in h
set_each_counts path name [] h = refl
set_each_counts path name (datum ∷ more) h = set_each_counts path name more (Set path name datum ∷ h)

pub raise_all_counts : (before : History) (place : Where) (path : List ℕ) (guard : Status) (in_guard : Option (List ℕ)) (raises : List Raise) (h : History) →
    visits_in (raise_all before place path guard in_guard raises h) ≡ visits_in h
raise_all_counts before place path guard in_guard [] h = refl
raise_all_counts before place path guard in_guard ((class, (status, first)) ∷ more) h =
    raise_all_counts before place path guard in_guard more (raise_event before place path guard in_guard (class, (status, first)) h)

raise_each_counts : (i : Instance) (os : List Outcome) (status : Status) (classes : List (List ℕ)) (h : History) → visits_in (raise_each i os status classes h) ≡ visits_in h
raise_each_counts i os status [] h = refl
raise_each_counts i os status (class ∷ classes) h = raise_each_counts i os status classes _

raise_lists_count : (i : Instance) (os ps : List Outcome) (status : Status) (h : History) → visits_in (raise_lists i os ps status h) ≡ visits_in h
raise_lists_count i os [] status h = refl
raise_lists_count i os (o ∷ ps) status h =
    raise_lists_count i os ps status (raise_each i os status (classes_for i o) h) ∙ raise_each_counts i os status (classes_for i o) h

pub told_counts : (i : Instance) (os : List Outcome) (status : Status) (h : History) → visits_in (told i os status h) ≡ visits_in h
unfolding told
told_counts i os status h = raise_lists_count i os os status (Told i os ∷ h)
