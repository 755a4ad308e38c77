-- What a walk lists, as its history tells it: the instances in the order of their first visits, the visits in their order, and
-- the promises that set a variable or edit lines though their guards may hold or not. A first visit that may come or not is blamed
-- on what it waits for.
use Rattle.std.specs.Prelude.{ℕ, Bool, true, false, List, [], ◌∷◌, ◌++◌, map, Option, None, if◌then◌else◌, option_map, unwrap_or}
use Rattle.std.specs.List.{cons_option, filter_map, position}
use Rattle.cfa_base.specs.declared.places.PromiseId.{PromiseId}
use Rattle.cfa_statuses.specs.declared.levels.Status.{Status}
use Rattle.cfa_statuses.specs.declared.levels.Status.TheVariants.{No, Maybe, Yes}
use Rattle.cfa_scripts.specs.declared.blaming.Unsettled.{Unsettled}
use Rattle.cfa_resolve.specs.declared.instances.Instance.{Instance}
use Rattle.cfa_resolve.specs.Resolution.{resolution, is_acting}
use Rattle.cfa_states.specs.declared.logs.Listing.{Listing}
use Rattle.cfa_states.specs.declared.waits.Wait.{Wait}
use Rattle.cfa_states.specs.declared.walks.Blame.{Blame}
use Rattle.cfa_states.specs.declared.walks.Visit.{Visit}
use Rattle.cfa_states.specs.declared.walks.Walk.{Walk}
use Rattle.cfa_states.specs.History.{History, Home, Begun, Set, Raised, Reached, Listed, Told, is_named, global_source}
use Rattle.cfa_states.specs.Numbered.{Numbered}
use Rattle.cfa_states.specs.Views.{Setting, reached_in_history}
use Rattle.cfa_states.specs.Waits.{is_first, wait_on, wait_of_guard, waits_in}

-- ---- instances

abbrev pub with_first : (is_first : Bool) → Instance → List Instance → List Instance
with_first true instance instances = instances ++ instance ∷ []
with_first false instance instances = instances

-- those that were listed, each once, by their first visits
abbrev pub listed_instances : History → List Instance
listed_instances [] = []
listed_instances (Listed instance status ∷ h) = with_first (is_first h instance) instance (listed_instances h)
listed_instances (Begun p arguments ∷ h) = listed_instances h
listed_instances (Set p name datum ∷ h) = listed_instances h
listed_instances (Raised place class status source ∷ h) = listed_instances h
listed_instances (Reached home promise guard sets visits ∷ h) = listed_instances h
listed_instances (Told instance outcomes ∷ h) = listed_instances h

-- the place of the instance of this path and key text among instances
abbrev pub place_among : List Instance → (path text : List ℕ) → ℕ
place_among instances path text = unwrap_or (position (is_named path text) instances) 0

-- ---- visits

abbrev pub blame_for : (promise : PromiseId) → Wait → Blame
blame_for promise wait = record { source = wait.source; promise = promise; class = wait.class }

-- a visit is blamed where it may come or not and is the first of its instance
abbrev pub blame_by : Status → (is_first : Bool) → (promise : PromiseId) → Option Wait → Option Blame
blame_by No first promise waits = None
blame_by Yes first promise waits = None
blame_by Maybe false promise waits = None
blame_by Maybe true promise waits = option_map (blame_for promise) waits

abbrev pub listing_by : Instance → Status → (is_first : Bool) → Option Wait → Listing
listing_by instance status first waits = record {
  path = instance.path;
  text = instance.text;
  status = status;
  blame = blame_by status first instance.source waits;
}

-- each visit, with the path and the key text of its instance
abbrev pub listings : Setting → History → List Listing
listings s [] = []
listings s (Listed instance status ∷ h) = listings s h ++ listing_by instance status (is_first h instance) (waits_in s h instance.path) ∷ []
listings s (Begun p arguments ∷ h) = listings s h
listings s (Set p name datum ∷ h) = listings s h
listings s (Raised place class status source ∷ h) = listings s h
listings s (Reached home promise guard sets visits ∷ h) = listings s h
listings s (Told instance outcomes ∷ h) = listings s h

abbrev pub visit_of : List Instance → Listing → Visit
visit_of instances listing =
    record { instance = place_among instances listing.path listing.text; status = listing.status; blame = listing.blame }

-- ---- unsettled promises

-- a vars promise whose guard may hold or not
abbrev pub own_unsettled : Setting → History → Home → Numbered → (guard : Status) → (sets : Bool) → List Blame
own_unsettled s h home promise No sets = []
own_unsettled s h home promise Yes sets = []
own_unsettled s h home promise Maybe false = []
own_unsettled s h home promise Maybe true =
    cons_option (option_map (blame_for promise.id) (wait_of_guard s h home.path promise.promise.guard)) []

-- a promise of an edit bundle waits for a global class, or for one of its bundle that goes back to a global one
abbrev pub blame_edit : (source_of : List ℕ → Option PromiseId) → Unsettled → Option Blame
blame_edit source_of u = option_map (blame_for u.promise) (wait_on u.class (source_of u.origin))

-- the promises of the edit bundle of a promise, where this is reached
abbrev pub unsettled_edits : Setting → History → Home → Numbered → List Unsettled
unsettled_edits s h home promise =
    if is_acting promise.type
    then (resolution (reached_in_history s h home promise.type promise)).unsettled
    else []

-- a promise whose guard isn't set doesn't walk its edit bundle
abbrev pub edits_unsettled : Setting → History → Home → Numbered → (guard : Status) → List Blame
edits_unsettled s h home promise No = []
edits_unsettled s h home promise Maybe = filter_map (blame_edit (global_source h)) (unsettled_edits s h home promise)
edits_unsettled s h home promise Yes = filter_map (blame_edit (global_source h)) (unsettled_edits s h home promise)

abbrev pub unsettled_promises : Setting → History → List Blame
unsettled_promises s [] = []
unsettled_promises s (Reached home promise guard sets visits ∷ h) =
    unsettled_promises s h ++ (own_unsettled s h home promise guard sets ++ edits_unsettled s h home promise guard)
unsettled_promises s (Begun p arguments ∷ h) = unsettled_promises s h
unsettled_promises s (Set p name datum ∷ h) = unsettled_promises s h
unsettled_promises s (Raised place class status source ∷ h) = unsettled_promises s h
unsettled_promises s (Listed instance status ∷ h) = unsettled_promises s h
unsettled_promises s (Told instance outcomes ∷ h) = unsettled_promises s h

-- ---- the walk

unfoldable pub walked : Setting → History → Walk
walked s h = record {
  instances = listed_instances h;
  visits = map (visit_of (listed_instances h)) (listings s h);
  unsettled = unsettled_promises s h;
}
