-- What a walk of a demo lists: no promise is unsettled, each visit surely comes, and each instance has acts that are known.
use Rattle.std.proofs.Common.{◌≡◌, refl, sym, ap, subst, ℕ, ◌≤◌, Bool, true, false, List, [], ◌∷◌, ◌++◌, map, None, if◌then◌else◌}
use Rattle.std.specs.Prelude.{option_map}
use Rattle.std.specs.List.{AllByRecursion as Each, flat_map, filter_map}
use Rattle.std.proofs.lemmas.List.Elements.{All-from_recursion}
use Rattle.cfa_base.specs.lemmas.Lists.{each_append}
use Rattle.cfa_kinds.specs.declared.kinds.PromiseType.{PromiseType}
use Rattle.cfa_kinds.specs.declared.kinds.PromiseType.TheVariants as promises
use Rattle.cfa_statuses.specs.declared.levels.Status.{Status}
use Rattle.cfa_statuses.specs.declared.levels.Status.TheVariants.{Yes}
use Rattle.cfa_defines.specs.OwnTexts.{own_reads}
use Rattle.cfa_defines.specs.declared.combining.Combined.{Combined}
use Rattle.cfa_defines.specs.declared.combining.Combined.TheVariants.{Lacks as lacks, TooMany as too_many, TooLong as too_long, Found as found}
use Rattle.cfa_defines.specs.OwnTexts.{combined}
use Rattle.cfa_scripts.specs.EditScripts.{walked as script_walked}
use Rattle.cfa_tree.specs.Tree.{PolicyTree}
use Rattle.cfa_vars.specs.Expansion.{Chosen}
use Rattle.cfa_resolve.specs.declared.instances.Instance.{Instance}
use Rattle.cfa_resolve.specs.Instances.{Reached as Resolving}
use Rattle.cfa_resolve.specs.Resolution.{caller_of, edit_call, walked_for, unsettled_in, resolved_as, resolution, is_acting}
use Rattle.cfa_states.specs.declared.logs.Listing.{Listing}
use Rattle.cfa_states.specs.declared.walks.Visit.{Visit}
use Rattle.cfa_states.specs.History.{History, Home, Begun, Set, Raised, Reached, Listed, Told, global_source}
use Rattle.cfa_states.specs.Numbered.{Numbered}
use Rattle.cfa_states.specs.Passes.{run}
use Rattle.cfa_states.specs.Tellers.{Teller}
use Rattle.cfa_states.specs.Views.{Setting, reached_in_history}
use Rattle.cfa_states.specs.Waits.{is_first}
use Rattle.cfa_states.specs.Walks.{with_first, listed_instances, listings, visit_of, own_unsettled, blame_edit, unsettled_edits, edits_unsettled, unsettled_promises, walked}
use Rattle.cfa_demo_laws.specs.Trees.{demo_tree}
use Rattle.cfa_demo_laws.specs.Runs.{DemoWalksAreSure}
use Rattle.cfa_demo_laws.proofs.Simple.{Simple, promise_is_simple}
use Rattle.cfa_demo_laws.proofs.Walks.{NumberedFile, Acting, AreSure, SureOn, run_is_sure}

-- ---- no promise is unsettled

none_each : {X Y : Type 0} (f : X → List Y) → ((x : X) → f x ≡ []) → (xs : List X) → flat_map f xs ≡ []
none_each f none [] = refl
none_each f none (x ∷ xs) = λ i. none x i ++ none_each f none xs i

module _ (r : Resolving) (no_edits : edit_call r ≡ None) where
  none_walked : (choice : Chosen) → unsettled_in (walked_for r choice) ≡ []
  none_walked choice = ap (λ call. unsettled_in (option_map (λ value. script_walked (caller_of r choice) value) call)) no_edits

  none_among : (c : Combined) → (resolved_as r c).unsettled ≡ []
  none_among (lacks name) = refl
  none_among too_many = refl
  none_among (too_long combinations) = refl
  none_among (found choices) = none_each (λ choice. unsettled_in (walked_for r choice)) none_walked choices

  none_unsettled : (resolution r).unsettled ≡ []
  unfolding resolution
  none_unsettled = none_among (combined r.scopes (own_reads r.type r.promise))

edits_settled : (s : Setting) (h : History) (home : Home) (p : Numbered) → NumberedFile p → unsettled_edits s h home p ≡ []
edits_settled s h home p file =
    let of = file.of_number in
    let simple = subst Simple (sym of.is) (promise_is_simple of.line of.kind of.number of.number_below of.kind_below) in
    by (is_acting p.type) (subst (λ (type : PromiseType). (resolution (reached_in_history s h home type p)).unsettled ≡ []) (sym file.is_file)
    (none_unsettled (reached_in_history s h home promises.Files p) simple.no_edits))
  where
    by : (test : Bool) → (resolution (reached_in_history s h home p.type p)).unsettled ≡ [] →
        (if test then (resolution (reached_in_history s h home p.type p)).unsettled else []) ≡ []
    by true none = none
    by false none = refl

pub sure_is_settled : (s : Setting) (h : History) → AreSure h → unsettled_promises s h ≡ []
sure_is_settled s [] sure = refl
sure_is_settled s (Reached home p guard sets visits ∷ h) sure =
    subst (λ (g : Status). unsettled_promises s h ++ (own_unsettled s h home p g sets ++ edits_unsettled s h home p g) ≡ []) (sym sure.0.0)
    (λ i. sure_is_settled s h sure.1 i ++ ([] ++ filter_map (blame_edit (global_source h)) (edits_settled s h home p sure.0.1 i)))
sure_is_settled s (Begun p arguments ∷ h) sure = sure_is_settled s h sure.1
sure_is_settled s (Set p name datum ∷ h) sure = sure_is_settled s h sure.1
sure_is_settled s (Raised place class status source ∷ h) sure = sure_is_settled s h sure.1
sure_is_settled s (Listed i status ∷ h) sure = sure_is_settled s h sure.1
sure_is_settled s (Told i outcomes ∷ h) sure = sure_is_settled s h sure.1

-- ---- each visit surely comes

abbrev Comes : Listing → Type 0
Comes listing = listing.status ≡ Yes

abbrev pub IsVisit : Visit → Type 0
IsVisit visit = visit.status ≡ Yes

listings_come : (s : Setting) (h : History) → AreSure h → Each Comes (listings s h)
listings_come s [] sure = tt
listings_come s (Listed i status ∷ h) sure = each_append Comes (listings s h) _ (listings_come s h sure.1) (sure.0.0, tt)
listings_come s (Begun p arguments ∷ h) sure = listings_come s h sure.1
listings_come s (Set p name datum ∷ h) sure = listings_come s h sure.1
listings_come s (Raised place class status source ∷ h) sure = listings_come s h sure.1
listings_come s (Reached home p guard sets visits ∷ h) sure = listings_come s h sure.1
listings_come s (Told i outcomes ∷ h) sure = listings_come s h sure.1

visits_come : (instances : List Instance) (listed : List Listing) → Each Comes listed → Each IsVisit (map (visit_of instances) listed)
visits_come instances [] all = tt
visits_come instances (l ∷ more) all = (all.0, visits_come instances more all.1)

pub sure_visits : (s : Setting) (h : History) → AreSure h → Each IsVisit (walked s h).visits
unfolding walked
sure_visits s h sure = visits_come (listed_instances h) (listings s h) (listings_come s h sure)

-- ---- each instance has acts that are known

first_acting : (first : Bool) (i : Instance) (instances : List Instance) → Acting i.work → Each (λ (x : Instance). Acting x.work) instances →
    Each (λ (x : Instance). Acting x.work) (with_first first i instances)
first_acting true i instances acting all = each_append (λ (x : Instance). Acting x.work) instances (i ∷ []) all (acting, tt)
first_acting false i instances acting all = all

pub sure_instances : (h : History) → AreSure h → Each (λ (i : Instance). Acting i.work) (listed_instances h)
sure_instances [] sure = tt
sure_instances (Listed i status ∷ h) sure = first_acting (is_first h i) i (listed_instances h) sure.0.1 (sure_instances h sure.1)
sure_instances (Begun p arguments ∷ h) sure = sure_instances h sure.1
sure_instances (Set p name datum ∷ h) sure = sure_instances h sure.1
sure_instances (Raised place class status source ∷ h) sure = sure_instances h sure.1
sure_instances (Reached home p guard sets visits ∷ h) sure = sure_instances h sure.1
sure_instances (Told i outcomes ∷ h) sure = sure_instances h sure.1

-- ---- the law

unsettled_none : (s : Setting) (h : History) → AreSure h → (walked s h).unsettled ≡ []
unfolding walked
unsettled_none s h sure = sure_is_settled s h sure

pub sure_run : (n : ℕ) → n ≤ 10000 → (s : Setting) (teller : Teller) → s.policy ≡ demo_tree n → SureOn (run s teller)
sure_run n few s teller is =
    subst (λ (policy : PolicyTree). SureOn (run (record { policy = policy; classes = s.classes }) teller)) (sym is) (run_is_sure n few s.classes teller)

pub demo_walks_are_sure : DemoWalksAreSure
demo_walks_are_sure n few s teller is h ends =
    let sure : AreSure h = subst SureOn ends (sure_run n few s teller is) in
    (unsettled_none s h sure, All-from_recursion IsVisit (walked s h).visits (sure_visits s h sure))
