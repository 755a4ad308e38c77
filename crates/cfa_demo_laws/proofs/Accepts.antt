-- No two acts of a demo meet, so that its analysis finds no conflict.
use Rattle.std.proofs.Common.{◌≡◌, refl, ◌∙◌, ap, ℕ, ◌+◌, Bool, true, false, cond, ◌==◌, List, [], ◌∷◌, ◌++◌, map, Option, Some, if◌then◌else◌}
use Rattle.std.specs.Prelude.{filter}
use Rattle.std.specs.List.{AllByRecursion as Each, flat_map}
use Rattle.cfa_base.specs.lemmas.Lists.{each_append}
use Rattle.cfa_acts.specs.declared.acts.Act.{Act}
use Rattle.cfa_acts.specs.declared.acts.Act.TheVariants.{Create, MakeDir, Delete, Content, Copy, Edit, Perms, Start, Stop, Enable, Disable, Restart, Bust}
use Rattle.cfa_acts.specs.Disturbs.{disturbs}
use Rattle.cfa_statuses.specs.declared.levels.Status.TheVariants.{Yes}
use Rattle.cfa_resolve.specs.declared.instances.Instance.{Instance}
use Rattle.cfa_resolve.specs.declared.instances.Work.{Work}
use Rattle.cfa_resolve.specs.declared.instances.Work.TheVariants.{Acts, Call, Report}
use Rattle.cfa_states.specs.declared.walks.Visit.{Visit}
use Rattle.cfa_states.specs.declared.walks.Walk.{Walk}
use Rattle.cfa_states.specs.History.{History}
use Rattle.cfa_states.specs.Levels.{IsTooLarge}
use Rattle.cfa_states.specs.Passes.{Course, goes, too_large, run}
use Rattle.cfa_states.specs.Tellers.{all_kept, open_walk, acts_of}
use Rattle.cfa_states.specs.Views.{Setting}
use Rattle.cfa_states.specs.Walks.{walked}
use Rattle.cfa_conflict.specs.declared.verdicts.Verdict.TheVariants.{Accepted}
use Rattle.cfa_conflict.specs.Conflicts.{is_live, first_visit, is_visited_after, unsettled_conflict, restart_of, unsure_by, unsure_at, undone, undone_by, undone_by_other, undone_by_later, undone_from, conflicts_at, conflicts_from, conflicts, live_instances, first_or_accepted, verdict_of}
use Rattle.cfa_conflict.specs.Analyses.{verdict_over, analysis_of}
use Rattle.cfa_demo_laws.specs.Accepted.{DemoIsAccepted}
use Rattle.cfa_demo_laws.proofs.Acting.{IsActOf}
use Rattle.cfa_demo_laws.proofs.Fits.{demo_runs_fit}
use Rattle.cfa_demo_laws.proofs.Settled.{sure_is_settled, IsVisit, sure_visits, sure_instances, sure_run}
use Rattle.cfa_demo_laws.proofs.Walks.{Acting, AreSure, SureOn}
use Rattle.cfa_demo_laws.proofs.Works.{DoesFor, never_disturbs}

-- ---- acts

none_filtered : (j k : ℕ) (later : Act) (acts : List Act) → IsActOf j later → Each (IsActOf k) acts → filter (disturbs later) acts ≡ []
none_filtered j k later [] is all = refl
none_filtered j k later (act ∷ acts) is all =
    ap (λ test. cond test (act ∷ filter (disturbs later) acts) (filter (disturbs later) acts)) (never_disturbs j k later act is all.0)
    ∙ none_filtered j k later acts is all.1

none_undone : (i o : Instance) (j k : ℕ) (later : Act) (acts : List Act) → IsActOf j later → Each (IsActOf k) acts → undone_by i o acts later ≡ []
none_undone i o j k later acts is all = ap (map (undone i o)) (none_filtered j k later acts is all)

none_by_each : (i o : Instance) (j k : ℕ) (acts more : List Act) → Each (IsActOf k) acts → Each (IsActOf j) more → flat_map (undone_by i o acts) more ≡ []
none_by_each i o j k acts [] all others = refl
none_by_each i o j k acts (later ∷ more) all others =
    λ x. none_undone i o j k later acts others.0 all x ++ none_by_each i o j k acts more all others.1 x

none_by_later : (i : Instance) (k : ℕ) (earlier later : List Act) → Each (IsActOf k) earlier → Each (IsActOf k) later → undone_by_later i earlier later ≡ []
none_by_later i k earlier [] before all = refl
none_by_later i k earlier (act ∷ later) before all =
    λ x. none_undone i i k k act earlier all.0 before x
    ++ none_by_later i k (earlier ++ act ∷ []) later (each_append (IsActOf k) earlier (act ∷ []) before (all.0, tt)) all.1 x

no_restart : (i : Instance) (k : ℕ) (act : Act) → IsActOf k act → restart_of i act ≡ []
no_restart i k (Create path) is = refl
no_restart i k (MakeDir path) is = refl
no_restart i k (Delete path with_directories) is = refl
no_restart i k (Content path bytes) is = refl
no_restart i k (Copy source path) is = refl
no_restart i k (Edit path script) is = refl
no_restart i k (Perms path mode owners groups) is = refl
no_restart i k (Start name) is = refl
no_restart i k (Stop name) is = refl
no_restart i k (Enable name) is = refl
no_restart i k (Disable name) is = refl
no_restart i k (Restart name) is = absurd is
no_restart i k (Bust reason) is = refl

no_restarts : (i : Instance) (k : ℕ) (acts : List Act) → Each (IsActOf k) acts → flat_map (restart_of i) acts ≡ []
no_restarts i k [] all = refl
no_restarts i k (act ∷ acts) all = λ x. no_restart i k act all.0 x ++ no_restarts i k acts all.1 x

-- the acts of a work
does_acts : (k : ℕ) (work : Work) → DoesFor k work → Each (IsActOf k) (acts_of work)
does_acts k (Acts acts) does = does
does_acts k (Call name arguments) does = absurd does
does_acts k (Report content) does = absurd does

-- ---- visits

sure_by : (i : Instance) (visit : Visit) → visit.status ≡ Yes → unsure_by i visit.status visit.blame ≡ []
sure_by i visit is = ap (λ status. unsure_by i status visit.blame) is

sure_if : (test : Bool) (i : Instance) (visit : Visit) (others : Option Visit) → unsure_by i visit.status visit.blame ≡ [] → unsure_at i others ≡ [] →
    unsure_at i (cond test (Some visit) others) ≡ []
sure_if true i visit others here there = here
sure_if false i visit others here there = there

sure_at : (i : Instance) (place : ℕ) (visits : List Visit) → Each IsVisit visits → unsure_at i (first_visit visits place) ≡ []
sure_at i place [] all = refl
sure_at i place (visit ∷ visits) all =
    sure_if (visit.instance == place) i visit (first_visit visits place) (sure_by i visit all.0) (sure_at i place visits all.1)

-- ---- pairs

abbrev AreActing : List Instance → Type 0
AreActing instances = Each (λ (i : Instance). Acting i.work) instances

undone_if : (same after : Bool) (visits : List Visit) (i o : Instance) → Acting i.work → Acting o.work →
    (if same then undone_by_later i [] (acts_of i.work) else (if after then undone_by_other i o else [])) ≡ []
undone_if true after visits i o acting other = none_by_later i acting.number [] (acts_of i.work) tt (does_acts acting.number i.work acting.does)
undone_if false true visits i o acting other =
    none_by_each i o other.number acting.number (acts_of i.work) (acts_of o.work) (does_acts acting.number i.work acting.does) (does_acts other.number o.work other.does)
undone_if false false visits i o acting other = refl

none_from : (visits : List Visit) (i : Instance) (place : ℕ) (others : List Instance) (from : ℕ) → Acting i.work → AreActing others → undone_from visits i place others from ≡ []
none_from visits i place [] from acting all = refl
none_from visits i place (o ∷ others) from acting all =
    λ x. undone_if (place == from) (is_visited_after visits place from) visits i o acting all.0 x ++ none_from visits i place others (from + 1) acting all.1 x

none_at : (walk : Walk) (i : Instance) (place : ℕ) → Each IsVisit walk.visits → AreActing walk.instances → Acting i.work → conflicts_at walk i place ≡ []
none_at walk i place visits all acting =
    λ x. no_restarts i acting.number (acts_of i.work) (does_acts acting.number i.work acting.does) x
    ++ (sure_at i place walk.visits visits x ++ none_from walk.visits i place walk.instances 0 acting all x)

none_if_live : (live : Bool) (walk : Walk) (i : Instance) (place : ℕ) → conflicts_at walk i place ≡ [] → (if live then conflicts_at walk i place else []) ≡ []
none_if_live true walk i place none = none
none_if_live false walk i place none = refl

none_of : (kept walk : Walk) (instances : List Instance) (from : ℕ) → Each IsVisit walk.visits → AreActing walk.instances → AreActing instances → conflicts_from kept walk instances from ≡ []
none_of kept walk [] from visits all acting = refl
none_of kept walk (i ∷ instances) from visits all acting =
    λ x. none_if_live (is_live kept i) walk i from (none_at walk i from visits all acting.0) x ++ none_of kept walk instances (from + 1) visits all acting.1 x

-- ---- the verdict

instances_acting : (s : Setting) (h : History) → AreSure h → AreActing (walked s h).instances
unfolding walked
instances_acting s h sure = sure_instances h sure

settled_none : (s : Setting) (h : History) → AreSure h → (walked s h).unsettled ≡ []
unfolding walked
settled_none s h sure = sure_is_settled s h sure

no_conflict : (s : Setting) (kept : Walk) (h : History) → AreSure h → conflicts kept (walked s h) ≡ []
unfolding conflicts
no_conflict s kept h sure =
    λ x. map unsettled_conflict (settled_none s h sure x)
    ++ none_of kept (walked s h) (walked s h).instances 0 (sure_visits s h sure) (instances_acting s h sure) (instances_acting s h sure) x

accepts : (s : Setting) (kept : Walk) (h : History) → AreSure h → verdict_of kept (walked s h) ≡ Accepted (live_instances kept)
unfolding verdict_of
accepts s kept h sure = ap (λ found. first_or_accepted found (live_instances kept)) (no_conflict s kept h sure)

over : (s : Setting) (kept walk : Course) → (IsTooLarge kept → ⊥) → (IsTooLarge walk → ⊥) → SureOn walk → (live : ℕ) × (verdict_over s kept walk ≡ Some (Accepted live))
over s (goes k) (goes h) fits also sure = (live_instances (walked s k), ap Some (accepts s (walked s k) h sure))
over s (goes k) (too_large h) fits also sure = absurd (also tt)
over s (too_large k) walk fits also sure = absurd (fits tt)

pub demo_is_accepted : DemoIsAccepted
unfolding analysis_of
demo_is_accepted n few s is =
    over s (run s all_kept) (run s open_walk) (demo_runs_fit n few s all_kept is) (demo_runs_fit n few s open_walk is) (sure_run n few s open_walk is)
