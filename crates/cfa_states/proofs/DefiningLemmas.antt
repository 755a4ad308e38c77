-- Promises that define variables and classes, by what they do to what is kept of a history.
use Rattle.std.proofs.Common.{◌≡◌, ℕ, List, [], ◌∷◌, ◌++◌, refl, ◌+◌, ◌-◌, ◌≤◌, Bool, true, false, length, map, Option, inl, inr, sym, ap, subst, ◌∙◌, arith, Some, append-nil}
use Rattle.cfa_vars.specs.declared.scoping.Datum.{Datum}
use Rattle.cfa_states.specs.History.{History, Set, Event, Where, everywhere, within, Raised, Reached, visits_in}
use Rattle.cfa_states.specs.Passes.{set_each, Course, goes, most_visits, within_limit, reached, raise_event, raise_all, sets_variable}
use Rattle.std.proofs.lemmas.Bool.{le-leb}
use Rattle.std.proofs.lemmas.List.{map-append}
use Rattle.cfa_base.specs.declared.places.PromiseId.{PromiseId}
use Rattle.cfa_statuses.specs.declared.levels.Status.{Status}
use Rattle.cfa_statuses.specs.declared.levels.Status.TheVariants.{No}
use Rattle.cfa_statuses.specs.Raised.{Raised as Statuses, greater_in}
use Rattle.cfa_kinds.specs.declared.kinds.PromiseType.TheVariants as promises
use Rattle.cfa_tree.specs.Tree.{PromiseTree, PolicyTree}
use Rattle.cfa_vars.specs.Expansion.{Chosen}
use Rattle.cfa_vars.specs.Scopes.{InScope}
use Rattle.cfa_defines.specs.FirstMaybe.{first_maybe_of_guard}
use Rattle.cfa_defines.specs.VarsPromises.{setting_choices, count_choices, data_set}
use Rattle.cfa_defines.specs.Builds.{BuiltBy}
use Rattle.cfa_defines.specs.ClassPromises.{Raise, raises_of}
use Rattle.cfa_defines.specs.declared.class_promises.Raise.{Raise as Held}
use Rattle.cfa_defines.specs.SeenRaises.{seen_raise}
use Rattle.cfa_states.specs.declared.states.State.{State}
use Rattle.cfa_states.specs.declared.activations.Activation.{Activation}
use Rattle.cfa_states.specs.declared.defining.Handed.{Handed}
use Rattle.cfa_states.specs.Kept.{KeepsLocally, Stands, home_of, IsSame, SpareShorter}
use Rattle.cfa_states.specs.Levels.{HasQuietlyBuilt, GoesTo, QuietLevel, Quietly, nothing, one_more, StandsAt, SpareIf, HasQuietlyDone}
use Rattle.cfa_states.specs.Numbered.{Numbered}
use Rattle.cfa_states.specs.Defining.{hand, handed_by, raise_handed, idle_level, vars_level, classes_level, place_of}
use Rattle.cfa_states.specs.Tellers.{Teller}
use Rattle.cfa_states.specs.declared.walks.Blame.{Blame}
use Rattle.cfa_states.specs.Logs.{logged_blames}
use Rattle.cfa_states.specs.Walks.{own_unsettled, edits_unsettled}
use Rattle.cfa_resolve.specs.Resolution.{is_acting}
use Rattle.cfa_states.specs.Views.{Setting, Home, scopes_in, status_in}
use Rattle.cfa_base.specs.Patterns.{SizeRefusal}
use Rattle.cfa_base.specs.Shown.{Shown}
use Rattle.cfa_states.specs.lemmas.Built.{size_refused, built_where, classes_built}
use Rattle.cfa_states.specs.lemmas.Courses.{goes_weaker, Passed, passed_then, passed_none, passed_set, fits}
use Rattle.cfa_states.specs.lemmas.Keeping.{IsIdle, waits_idle, keeps_reached}
use Rattle.cfa_states.proofs.WaitLemmas.{no_edits, none_unsettled}
use Rattle.cfa_states.proofs.KeptLemmas.{keeps_counted, keeps_raised_within}
use Rattle.cfa_states.specs.lemmas.Locals.{statuses_are, local_reached}
use Rattle.cfa_states.specs.lemmas.Spared.{spare_if, locals_raised_everywhere, locals_reached, spare_raised_within, spare_raised_everywhere, spare_reached}
use Rattle.cfa_states.specs.lemmas.Later.{home_same}

pub set_each-last : (path name : List ℕ) (data_before : List Datum) (datum : Datum) (h : History) →
    set_each path name (data_before ++ datum ∷ []) h ≡ Set path name datum ∷ set_each path name data_before h
set_each-last path name [] datum h = refl
set_each-last path name (d ∷ more) datum h = set_each-last path name more datum (Set path name d ∷ h)

-- ---- what is local to shorter paths, and in a common bundle to any, is as it was

pub passed_reached : (is_common : Bool) (path : List ℕ) (at : Home) (id : Numbered) (guard : Status) (sets : Bool) (visits : ℕ) (h : History) → length path ≤ length at.path → IsIdle id guard →
    Passed is_common path h (Reached at id guard sets visits ∷ h)
passed_reached is_common path at id guard sets visits h long idle =
    let event : Event = Reached at id guard sets visits in
    let spares = locals_reached h at id guard sets visits idle in
    (one_more event refl nothing, (spare_reached (length path) h at id guard sets visits long, spare_if is_common h (event ∷ h) spares))

pub passed_raised : (is_common : Bool) (home : Home) (class : List ℕ) (to : Status) (source : Option PromiseId) (h : History) → Passed is_common home.path h (Raised (place_of is_common home) class to source ∷ h)
passed_raised true home class to source h =
    (one_more (Raised everywhere class to source) refl nothing, (spare_raised_everywhere (length home.path) h class to source, locals_raised_everywhere h class to source))
passed_raised false home class to source h =
    (one_more (Raised (within home.path) class to source) refl nothing, (spare_raised_within (length home.path) h home.path class to source (omega arith), tt))

pub passed_set_each : (is_common : Bool) (path name : List ℕ) (set : List Datum) (h : History) → Passed is_common path h (set_each path name set h)
passed_set_each is_common path name [] h = passed_none is_common path h
passed_set_each is_common path name (datum ∷ more) h =
    passed_then is_common path h (Set path name datum ∷ h) (set_each path name more (Set path name datum ∷ h))
    (passed_set is_common path name datum h) (passed_set_each is_common path name more (Set path name datum ∷ h))

pub passed_handed : (is_common : Bool) (home : Home) (handed : List Handed) (h : History) → Passed is_common home.path h (raise_handed (place_of is_common home) handed h)
passed_handed is_common home [] h = passed_none is_common home.path h
passed_handed is_common home (one ∷ more) h =
    let k : History = Raised (place_of is_common home) one.class one.to one.source ∷ h in
    passed_then is_common home.path h k (raise_handed (place_of is_common home) more k)
    (passed_raised is_common home one.class one.to one.source h) (passed_handed is_common home more k)

-- ---- what is kept, after visits are counted

pub stands_reached : (s : Setting) (st : State) (a : Activation) (at : Home) (id : Numbered) (guard : Status) (sets : Bool) (visits : ℕ) (blames : List Blame) (h : History) →
    visits ≤ st.left → blames ≡ own_unsettled s h at id guard sets ++ edits_unsettled s h at id guard → IsIdle id guard →
    Stands s st a h → Stands s (record st { left = st.left - visits; log = logged_blames blames st.log }) a (Reached at id guard sets visits ∷ h)
stands_reached s st a at id guard sets visits blames h enough unsettled idle stands =
    (keeps_reached s st h at id guard sets visits blames enough unsettled stands.0, local_reached s a h at id guard sets visits (waits_idle s at id sets visits h a.path guard idle) stands.1)

-- where nothing is unsettled
pub stands_counted : (s : Setting) (st : State) (a : Activation) (at : Home) (id : Numbered) (guard : Status) (sets : Bool) (visits : ℕ) (h : History) →
    visits ≤ st.left → [] ≡ own_unsettled s h at id guard sets ++ edits_unsettled s h at id guard → IsIdle id guard →
    Stands s st a h → Stands s (record st { left = st.left - visits }) a (Reached at id guard sets visits ∷ h)
stands_counted s st a at id guard sets visits h enough unsettled idle stands =
    (keeps_counted s st h at id guard sets visits enough unsettled stands.0, local_reached s a h at id guard sets visits (waits_idle s at id sets visits h a.path guard idle) stands.1)

-- visits are counted, and then what is unsettled is noted
pub logged : (st counted' st' : State) (visits : ℕ) (blames : List Blame) → counted' ≡ record st { left = st.left - visits } →
    st' ≡ record counted' { log = logged_blames blames counted'.log } → st' ≡ record st { left = st.left - visits; log = logged_blames blames st.log }
logged st counted' st' visits blames counts notes = notes ∙ ap (λ (x : State). record x { log = logged_blames blames x.log }) counts

-- ---- limits

pub reached_goes : (home : Home) (p : Numbered) (guard : Status) (sets : Bool) (visits : ℕ) (next : History → Course) (h : History) (P : History → Type 0) →
    visits + visits_in h ≤ most_visits → GoesTo (next (Reached home p guard sets visits ∷ h)) P → GoesTo (reached home p guard sets visits next h) P
reached_goes home p guard sets visits next h P enough goes_on =
    subst (λ (b : Bool). GoesTo (within_limit b (next (Reached home p guard sets visits ∷ h)) (Reached home p guard sets visits ∷ h)) P) (sym (le-leb (visits + visits_in h) most_visits enough)) goes_on

-- ---- the home of an activation

pub same_always : (a : Activation) → IsSame a a
same_always a = record { path = refl; bundle = refl; status = refl; place = refl }

pub same_then : (a b c : Activation) → IsSame a b → IsSame b c → IsSame a c
same_then a b c ab bc = record { path = bc.path ∙ ab.path; bundle = bc.bundle ∙ ab.bundle; status = bc.status ∙ ab.status; place = bc.place ∙ ab.place }

module _ (policy : PolicyTree) (is_common : Bool) (level : QuietLevel) (st st' : State) (a a' : Activation) where
  pub at_home : IsSame a a' →
      ((s : Setting) (t : Teller) (h : History) → Stands s st a h → GoesTo (level s (home_of a) t h) (λ k. Stands s st' a' k × Passed is_common a.path h k)) →
      HasQuietlyDone policy is_common level st st' a a'
  at_home same does = λ s home status t h stands.
      subst (λ (x : Home). GoesTo (level s x t h) (λ k. StandsAt policy s x status st' a' k × (Quietly h k × (SpareShorter (length x.path) h k × SpareIf is_common h k)))) stands.1.0
      (goes_weaker (level s (home_of a) t h) _ _ (λ k p. ((stands.0, (home_same a a' same, (same.status ∙ stands.1.1.0, p.0))), p.1)) (does s t h stands.1.1.1))

-- ---- one more event, last

pub set_one_more : (s : Setting) (st' : State) (a a' b : Activation) (name copy : List ℕ) (set : List Datum) (datum : Datum) (h : History) →
    IsSame a a' → copy ≡ name → Stands s st' b (Set a'.path copy datum ∷ set_each a.path name set h) → Stands s st' b (set_each a.path name (set ++ datum ∷ []) h)
set_one_more s st' a a' b name copy set datum h same is stands =
    subst (λ (k : History). Stands s st' b k)
    (ap (λ (x : List ℕ). Set x copy datum ∷ set_each a.path name set h) same.path ∙ (ap (λ (x : List ℕ). Set a.path x datum ∷ set_each a.path name set h) is
    ∙ sym (set_each-last a.path name set datum h))) stands

raise_handed_more : (place : Where) (handed : List Handed) (one : Handed) (h : History) → raise_handed place (handed ++ one ∷ []) h ≡ raise_handed place (one ∷ []) (raise_handed place handed h)
raise_handed_more place [] one h = refl
raise_handed_more place (x ∷ handed) one h = raise_handed_more place handed one (Raised place x.class x.to x.source ∷ h)

pub raised_one_more : (s : Setting) (is_common : Bool) (st' : State) (a a' b : Activation) (handed : List Handed) (one : Handed) (h : History) →
    IsSame a a' → Stands s st' b (raise_handed (place_of is_common (home_of a')) (one ∷ []) (raise_handed (place_of is_common (home_of a)) handed h)) →
    Stands s st' b (raise_handed (place_of is_common (home_of a)) (handed ++ one ∷ []) h)
raised_one_more s is_common st' a a' b handed one h same stands =
    subst (λ (k : History). Stands s st' b k)
    (ap (λ (x : Home). raise_handed (place_of is_common x) (one ∷ []) (raise_handed (place_of is_common (home_of a)) handed h)) (home_same a a' same)
    ∙ sym (raise_handed_more (place_of is_common (home_of a)) handed one h)) stands

-- a class is raised within the activation
pub raised_within : (s : Setting) (st : State) (a a' : Activation) (is_common : Bool) (one : Handed) (h : History) → is_common ≡ false →
    (KeepsLocally s a h → KeepsLocally s a' (Raised (within a.path) one.class one.to one.source ∷ h)) →
    Stands s st a h → Stands s st a' (raise_handed (place_of is_common (home_of a)) (one ∷ []) h)
raised_within s st a a' is_common one h none keeps stands =
    subst (λ (b : Bool). Stands s st a' (raise_handed (place_of b (home_of a)) (one ∷ []) h)) (sym none)
    (keeps_raised_within s st h a.path one.class one.to one.source stands.0, keeps stands.1)

-- ---- a promise whose guard isn't set

pub passed_over : (policy : PolicyTree) (is_common : Bool) (p : Numbered) (st st' : State) (a : Activation) → 1 ≤ st.left → st' ≡ record st { left = st.left - 1 } → HasQuietlyDone policy is_common (idle_level p) st st' a a
passed_over policy is_common p st st' a enough counts =
    at_home policy is_common (idle_level p) st st' a a (same_always a) (λ s t h stands.
    let sets = sets_variable p.type in
    let event : Event = Reached (home_of a) p No sets 1 in
    subst (λ (x : State). GoesTo (idle_level p s (home_of a) t h) (λ k. Stands s x a k × Passed is_common a.path h k)) (sym counts)
    (reached_goes (home_of a) p No sets 1 goes h _ (fits st.left 1 (visits_in h) enough stands.0.1.1.1.1.0)
    (stands_counted s st a (home_of a) p No sets 1 h enough refl (inl refl) stands, passed_reached is_common a.path (home_of a) p No sets 1 h (omega arith) (inl refl))))

-- ---- vars

module _ (policy : PolicyTree) (is_common : Bool) (p : Numbered) (guard : Status) (scopes : InScope) (choices : Option (List Chosen)) (visits : ℕ) (st counted' st' : State) (a a' : Activation)
    (sees : (s : Setting) (h : History) → Stands s st a h → scopes ≡ scopes_in s h (home_of a)) (counting : visits ≡ count_choices choices) where
  pub vars_set : (set : List Datum) (blames : List Blame) → is_acting p.type ≡ false →
      ((s : Setting) (h : History) → Stands s st a h → blames ≡ own_unsettled s h (home_of a) p guard true) → choices ≡ setting_choices scopes promises.Vars p.promise → set ≡ data_set scopes p.promise choices →
      visits ≤ st.left → counted' ≡ record st { left = st.left - visits; log = logged_blames blames st.log } → IsSame a a' →
      ((s : Setting) (h : History) → Stands s counted' a h → Stands s st' a' (set_each a.path p.promise.promiser set h)) →
      HasQuietlyDone policy is_common (vars_level p guard) st st' a a'
  vars_set set blames acts unsettled choosing setting enough counts same does =
      at_home policy is_common (vars_level p guard) st st' a a' same (λ s t h stands.
      let home : Home = home_of a in
      let S : InScope = scopes_in s h home in
      let C : Option (List Chosen) = setting_choices S promises.Vars p.promise in
      let chosen : choices ≡ C = choosing ∙ ap (λ (x : InScope). setting_choices x promises.Vars p.promise) (sees s h stands) in
      let visited : visits ≡ count_choices C = counting ∙ ap count_choices chosen in
      let given : set ≡ data_set S p.promise C = setting ∙ (ap (data_set scopes p.promise) chosen ∙ ap (λ (x : InScope). data_set x p.promise C) (sees s h stands)) in
      let P : History → Type 0 = λ k. Stands s st' a' k × Passed is_common a.path h k in
      let k : History = Reached (home_of a) p guard true visits ∷ h in
      let owns : blames ≡ own_unsettled s h home p guard true ++ edits_unsettled s h home p guard =
      unsettled s h stands ∙ (sym (append-nil (own_unsettled s h home p guard true)) ∙ ap (λ (x : List Blame). own_unsettled s h home p guard true ++ x) (sym (no_edits s h home p guard (inr acts)))) in
      let done : GoesTo (reached home p guard true visits (λ x. goes (set_each a.path p.promise.promiser set x)) h) P =
      reached_goes home p guard true visits (λ x. goes (set_each a.path p.promise.promiser set x)) h P (fits st.left visits (visits_in h) enough stands.0.1.1.1.1.0) (
        does s k (subst (λ (x : State). Stands s x a k) (sym counts) (stands_reached s st a (home_of a) p guard true visits blames h enough owns (inr acts) stands)),
        passed_then is_common a.path h k (set_each a.path p.promise.promiser set k) (passed_reached is_common a.path (home_of a) p guard true visits h (omega arith) (inr acts)) (passed_set_each is_common a.path p.promise.promiser set k),
      ) in
      subst (λ (v : ℕ). GoesTo (reached home p guard true v (λ x. goes (set_each a.path p.promise.promiser (data_set S p.promise C) x)) h) P) visited
      (subst (λ (d : List Datum). GoesTo (reached home p guard true visits (λ x. goes (set_each a.path p.promise.promiser d x)) h) P) given done))

-- ---- classes

pub all_raised : (before : History) (place : Where) (path : List ℕ) (guard : Status) (in_guard : Option (List ℕ)) (raises : List Raise) (h : History) →
    raise_handed place (map (hand before path guard in_guard) raises) h ≡ raise_all before place path guard in_guard raises h
all_raised before place path guard in_guard [] h = refl
all_raised before place path guard in_guard (r ∷ more) h = all_raised before place path guard in_guard more (raise_event before place path guard in_guard r h)

-- one more raise is handed what it is
pub handed_one_more : (before : History) (path : List ℕ) (guard : Status) (in_guard : Option (List ℕ)) (raises : List Held) (raise : Held) (handed after : List Handed) (one : Handed) →
    handed ≡ map (hand before path guard in_guard) (map seen_raise raises) → one ≡ hand before path guard in_guard (seen_raise raise) → after ≡ handed ++ one ∷ [] →
    after ≡ map (hand before path guard in_guard) (map seen_raise (raises ++ raise ∷ []))
handed_one_more before path guard in_guard raises raise handed after one so_far is adds =
    let give = hand before path guard in_guard in
    adds ∙ (ap (λ (x : List Handed). x ++ one ∷ []) so_far ∙ (ap (λ (x : Handed). map give (map seen_raise raises) ++ x ∷ []) is
    ∙ (sym (map-append give (map seen_raise raises) (seen_raise raise ∷ [])) ∙ ap (map give) (sym (map-append seen_raise raises (raise ∷ []))))))

pub handed_over : (s : Setting) (st : State) (a : Activation) (h : History) (guard : Status) (scopes : InScope) (promise : PromiseTree) (choices : Option (List Chosen))
    (global local : Statuses) (in_guard : Option (List ℕ)) (raises : List Raise) (handed : List Handed) →
    Stands s st a h → global ≡ st.environment.statuses → local ≡ a.local.statuses →
    raises ≡ raises_of (greater_in global local) scopes promise choices → in_guard ≡ first_maybe_of_guard promise.guard (greater_in global local) →
    handed ≡ map (hand h a.path guard in_guard) raises → handed ≡ handed_by s h a.path guard scopes promise choices
handed_over s st a h guard scopes promise choices global local in_guard raises handed stands globals locals raising waiting handing =
    let statuses : greater_in global local ≡ status_in s h a.path = statuses_are s st a h global local stands globals locals in
    let raised : raises ≡ raises_of (status_in s h a.path) scopes promise choices =
    raising ∙ ap (λ (x : List ℕ → Status). raises_of x scopes promise choices) statuses in
    let waits : in_guard ≡ first_maybe_of_guard promise.guard (status_in s h a.path) = waiting ∙ ap (first_maybe_of_guard promise.guard) statuses in
    handing ∙ (ap (λ (x : Option (List ℕ)). map (hand h a.path guard x) raises) waits
    ∙ ap (map (hand h a.path guard (first_maybe_of_guard promise.guard (status_in s h a.path)))) raised)

module _ (policy : PolicyTree) (is_common : Bool) (p : Numbered) (guard : Status) (scopes : InScope) (choices : Option (List Chosen)) (visits : ℕ) (st counted' st' : State) (a a' : Activation)
    (sees : (s : Setting) (h : History) → Stands s st a h → scopes ≡ scopes_in s h (home_of a)) (counting : visits ≡ count_choices choices) where
  pub classes_raised : (handed : List Handed) → is_acting p.type ≡ false → choices ≡ setting_choices scopes promises.Classes p.promise →
      ((s : Setting) (h : History) → Stands s st a h → handed ≡ handed_by s h a.path guard scopes p.promise choices) →
      visits ≤ st.left → counted' ≡ record st { left = st.left - visits } → IsSame a a' →
      ((s : Setting) (h : History) → Stands s counted' a h → Stands s st' a' (raise_handed (place_of is_common (home_of a)) handed h)) →
      HasQuietlyDone policy is_common (classes_level is_common p guard) st st' a a'
  classes_raised handed acts choosing handing enough counts same does =
      at_home policy is_common (classes_level is_common p guard) st st' a a' same (λ s t h stands.
      let home : Home = home_of a in
      let S : InScope = scopes_in s h home in
      let C : Option (List Chosen) = setting_choices S promises.Classes p.promise in
      let chosen : choices ≡ C = choosing ∙ ap (λ (x : InScope). setting_choices x promises.Classes p.promise) (sees s h stands) in
      let visited : visits ≡ count_choices C = counting ∙ ap count_choices chosen in
      let over : handed ≡ handed_by s h a.path guard S p.promise C =
      handing s h stands ∙ (ap (handed_by s h a.path guard scopes p.promise) chosen ∙ ap (λ (x : InScope). handed_by s h a.path guard x p.promise C) (sees s h stands)) in
      let P : History → Type 0 = λ k. Stands s st' a' k × Passed is_common a.path h k in
      let k : History = Reached (home_of a) p guard false visits ∷ h in
      let place : Where = place_of is_common home in
      let done : GoesTo (goes (raise_handed place handed k)) P = (
        does s k (subst (λ (x : State). Stands s x a k) (sym counts) (stands_counted s st a (home_of a) p guard false visits h enough (none_unsettled s h home p guard (inr acts)) (inr acts) stands)),
        passed_then is_common a.path h k (raise_handed place handed k) (passed_reached is_common a.path (home_of a) p guard false visits h (omega arith) (inr acts)) (passed_handed is_common home handed k),
      ) in
      let in_guard : Option (List ℕ) = first_maybe_of_guard p.promise.guard (status_in s h a.path) in
      let raises : List Raise = raises_of (status_in s h a.path) S p.promise C in
      let all : raise_handed place handed k ≡ raise_all h place a.path guard in_guard raises k =
      ap (λ (x : List Handed). raise_handed place x k) over ∙ all_raised h place a.path guard in_guard raises k in
      subst (λ (v : ℕ). GoesTo (reached home p guard false v (λ x. goes (raise_all h place a.path guard in_guard raises x)) h) P) visited
      (reached_goes home p guard false visits (λ x. goes (raise_all h place a.path guard in_guard raises x)) h P (fits st.left visits (visits_in h) enough stands.0.1.1.1.1.0)
      (subst (λ (x : History). GoesTo (goes x) P) all done)))

-- a pattern that one of its calls builds
pub classes_build : (policy : PolicyTree) (is_common : Bool) (p : Numbered) (guard : Status) (scopes : InScope) (choices : Option (List Chosen)) (st : State) (a : Activation) (text : List ℕ) →
    ((s : Setting) (h : History) → Stands s st a h → scopes ≡ scopes_in s h (home_of a)) → (guard ≡ No → ⊥) → choices ≡ setting_choices scopes promises.Classes p.promise →
    (refused : Option (List ℕ)) (pats pats' : Shown (List (List ℕ))) → refused ≡ Some text → SizeRefusal (BuiltBy scopes p.promise choices) refused pats pats' →
    HasQuietlyBuilt policy is_common (classes_level is_common p guard) st a text
classes_build policy is_common p guard scopes choices st a text sees set choosing refused pats pats' is refusal = λ s home status t h stands.
    let built : BuiltBy scopes p.promise choices text = size_refused (BuiltBy scopes p.promise choices) refused text pats pats' is refusal in
    let S : InScope = scopes_in s h home in
    let seen : scopes ≡ S = sees s h stands.1.1.1 ∙ ap (λ (x : Home). scopes_in s h x) stands.1.0 in
    let chosen : choices ≡ setting_choices S promises.Classes p.promise = choosing ∙ ap (λ (x : InScope). setting_choices x promises.Classes p.promise) seen in
    let there : BuiltBy S p.promise (setting_choices S promises.Classes p.promise) text =
    subst (λ (x : Option (List Chosen)). BuiltBy S p.promise x text) chosen (subst (λ (x : InScope). BuiltBy x p.promise choices text) seen built) in
    classes_built s text (place_of is_common home) home p guard (setting_choices S promises.Classes p.promise) h (built_where s text guard h home p set (inl there))
