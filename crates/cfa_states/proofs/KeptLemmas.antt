-- What is kept of a history stays so over each event that doesn't touch it.
use Rattle.std.proofs.Common.{◌≡◌, ◌≢◌, ℕ, ◌+◌, ◌-◌, ◌≤◌, Bool, true, false, List, [], ◌∷◌, ◌++◌, map, Option, None, refl, sym, ap, subst, ◌∙◌, arith}
use Rattle.std.specs.Prelude.{◌&&◌}
use Rattle.std.specs.Option.{option_or}
use Rattle.std.specs.Str.{bytes_eq}
use Rattle.std.proofs.lemmas.Bool.{false≢true, and_parts}
use Rattle.cfa_base.specs.declared.places.PromiseId.{PromiseId}
use Rattle.cfa_statuses.specs.declared.levels.Status.{Status}
use Rattle.cfa_statuses.specs.declared.levels.Status.TheVariants.{No, Maybe, Yes}
use Rattle.cfa_statuses.specs.Status.{greater}
use Rattle.cfa_statuses.specs.lemmas.Orders.{greater_No}
use Rattle.cfa_outcomes.specs.Environments.{EnvironmentMaps, status_of, source_of, mark_of}
use Rattle.cfa_resolve.specs.declared.instances.Instance.{Instance}
use Rattle.cfa_tree.specs.Tree.{PolicyTree}
use Rattle.cfa_vars.specs.declared.scoping.Datum.{Datum}
use Rattle.cfa_base.specs.Index.{is_listed}
use Rattle.cfa_states.specs.declared.states.State.{State}
use Rattle.cfa_states.specs.History.{History, Home, Set, Raised, Reached, Listed, everywhere, within, scope_in, globally, global_source, mark_in, is_named}
use Rattle.cfa_base.specs.TextMaps.{TextMap}
use Rattle.cfa_base.specs.lemmas.EqualTexts.{same_text, is_text as is_same}
use Rattle.cfa_states.specs.declared.waits.Wait.{Wait}
use Rattle.cfa_states.specs.Kept.{Keeps, KeepsWaits, KeepsLog, wait_at}
use Rattle.cfa_states.specs.Logs.{Rows, first_log}
use Rattle.cfa_states.specs.Numbered.{Numbered}
use Rattle.cfa_states.specs.Passes.{most_visits}
use Rattle.cfa_states.specs.Views.{Setting, from_start, global_status, shared_names, shared_in}
use Rattle.cfa_states.specs.Walks.{own_unsettled, edits_unsettled}
use Rattle.cfa_states.specs.lemmas.Keeping.{as_it_was, counts_same, keeps_reached}
use Rattle.cfa_states.specs.lemmas.Locals.{other_set}
use Rattle.cfa_states.proofs.WaitLemmas.{logged_none}

-- ---- events that touch nothing of it

pub keeps_raised_within : (s : Setting) (st : State) (h : History) (path class : List ℕ) (status : Status) (source : Option PromiseId) →
    Keeps s st h → Keeps s st (Raised (within path) class status source ∷ h)
unfolding shared_in
keeps_raised_within s st h path class status source keeps =
    (keeps.0, (keeps.1.0, (keeps.1.1.0, (keeps.1.1.1.0, counts_same s st h (Raised (within path) class status source ∷ h) refl (λ _. refl) refl refl refl keeps.1.1.1.1))))

-- where nothing is unsettled
pub keeps_counted : (s : Setting) (st : State) (h : History) (home : Home) (promise : Numbered) (guard : Status) (sets : Bool) (visits : ℕ) →
    visits ≤ st.left → [] ≡ own_unsettled s h home promise guard sets ++ edits_unsettled s h home promise guard →
    Keeps s st h → Keeps s (record st { left = st.left - visits }) (Reached home promise guard sets visits ∷ h)
keeps_counted s st h home promise guard sets visits enough is keeps =
    subst (λ (log : Option Rows). Keeps s (record st { left = st.left - visits; log = log }) (Reached home promise guard sets visits ∷ h)) (logged_none st.log)
    (keeps_reached s st h home promise guard sets visits [] enough is keeps)

-- ---- scopes that aren't shared

pub shared_set : (policy : PolicyTree) (h : History) (path variable : List ℕ) (datum : Datum) → is_listed (shared_names policy) path ≡ false →
    shared_in policy (Set path variable datum ∷ h) ≡ shared_in policy h
unfolding shared_in
shared_set policy h path variable datum own =
    as_it_was path (scope_in h) (scope_in (Set path variable datum ∷ h)) (other_set path variable datum h) (shared_names policy) own

pub keeps_set : (s : Setting) (st : State) (h : History) (path variable : List ℕ) (datum : Datum) → is_listed (shared_names s.policy) path ≡ false →
    Keeps s st h → Keeps s st (Set path variable datum ∷ h)
keeps_set s st h path variable datum own keeps =
    let counts = counts_same s st h (Set path variable datum ∷ h) refl (λ _. refl) refl refl refl keeps.1.1.1.1 in
    (keeps.0, (keeps.1.0, (keeps.1.1.0, (keeps.1.1.1.0 ∙ sym (shared_set s.policy h path variable datum own), counts))))

-- ---- classes that are raised

greater_by : (start so_far to : Status) → greater (greater start so_far) to ≡ greater start (greater to so_far)
greater_by No No No = refl
greater_by No No Maybe = refl
greater_by No No Yes = refl
greater_by No Maybe No = refl
greater_by No Maybe Maybe = refl
greater_by No Maybe Yes = refl
greater_by No Yes No = refl
greater_by No Yes Maybe = refl
greater_by No Yes Yes = refl
greater_by Maybe No No = refl
greater_by Maybe No Maybe = refl
greater_by Maybe No Yes = refl
greater_by Maybe Maybe No = refl
greater_by Maybe Maybe Maybe = refl
greater_by Maybe Maybe Yes = refl
greater_by Maybe Yes No = refl
greater_by Maybe Yes Maybe = refl
greater_by Maybe Yes Yes = refl
greater_by Yes so_far to = refl

pub greater_turned : (status to : Status) → greater status to ≡ greater to status
greater_turned status to = greater_by No status to

-- what is told of one name is what it becomes, and of any other what it was
pub changed : {X : Type 0} (before after : List ℕ → X) (name : List ℕ) (here : X) → after name ≡ here → ((other : List ℕ) → other ≢ name → after other ≡ before other) →
    (other : List ℕ) (then : X) → (bytes_eq name other ≡ true → then ≡ here) → (bytes_eq name other ≡ false → then ≡ before other) → after other ≡ then
changed before after name here becomes others other then same differ =
    elim (bytes_eq name other) as (λ b. bytes_eq name other ≡ b → after other ≡ then) [
      | true ↦ λ e. ap after (sym (is_same name other e)) ∙ becomes ∙ sym (same e)
      | false ↦ λ e. others other (λ is. false≢true (sym e ∙ ap (bytes_eq name) is ∙ same_text name)) ∙ sym (differ e)
    ] refl

raised_here : (h : History) (class : List ℕ) (to : Status) (source : Option PromiseId) (name : List ℕ) → bytes_eq class name ≡ true →
    globally (Raised everywhere class to source ∷ h) name ≡ greater to (globally h name)
raised_here h class to source name same = rw (same, globally) refl

raised_elsewhere : (h : History) (class : List ℕ) (to : Status) (source : Option PromiseId) (name : List ℕ) → bytes_eq class name ≡ false →
    globally (Raised everywhere class to source ∷ h) name ≡ globally h name
raised_elsewhere h class to source name differ = rw (differ, globally) refl

source_here : (h : History) (class : List ℕ) (to : Status) (source : Option PromiseId) (name : List ℕ) → bytes_eq class name ≡ true →
    global_source (Raised everywhere class to source ∷ h) name ≡ option_or (global_source h name) source
source_here h class to source name same = rw (same, global_source) refl

source_elsewhere : (h : History) (class : List ℕ) (to : Status) (source : Option PromiseId) (name : List ℕ) → bytes_eq class name ≡ false →
    global_source (Raised everywhere class to source ∷ h) name ≡ global_source h name
source_elsewhere h class to source name differ = rw (differ, global_source) refl

module _ (s : Setting) (st : State) (e : EnvironmentMaps) (h : History) (keeps : Keeps s st h) where
  module _ (class : List ℕ) (to : Status) (source : Option PromiseId) where
    raised_status : status_of e class ≡ greater (status_of st.environment class) to →
        ((other : List ℕ) → other ≢ class → status_of e other ≡ status_of st.environment other) →
        (name : List ℕ) → status_of e name ≡ global_status s (Raised everywhere class to source ∷ h) name
    raised_status becomes others name =
        let before = status_of st.environment in
        let start = from_start s name in
        changed before (status_of e) class (greater (before class) to) becomes others name (global_status s (Raised everywhere class to source ∷ h) name)
        (λ same.
        ap (greater start) (raised_here h class to source name same)
        ∙ sym (greater_by start (globally h name) to) ∙ ap (λ x. greater x to) (sym (keeps.0 name))
        ∙ ap (λ n. greater (before n) to) (sym (is_same class name same)))
        (λ differ. ap (greater start) (raised_elsewhere h class to source name differ) ∙ sym (keeps.0 name))

    raised_source : source_of e class ≡ option_or (source_of st.environment class) source →
        ((other : List ℕ) → other ≢ class → source_of e other ≡ source_of st.environment other) →
        (name : List ℕ) → source_of e name ≡ global_source (Raised everywhere class to source ∷ h) name
    raised_source becomes others name =
        let before = source_of st.environment in
        changed before (source_of e) class (option_or (before class) source) becomes others name (global_source (Raised everywhere class to source ∷ h) name)
        (λ same.
        source_here h class to source name same ∙ ap (λ o. option_or o source) (sym (keeps.1.0 name))
        ∙ ap (λ n. option_or (before n) source) (sym (is_same class name same)))
        (λ differ. source_elsewhere h class to source name differ ∙ sym (keeps.1.0 name))

    pub keeps_raised : status_of e class ≡ greater (status_of st.environment class) to →
        ((other : List ℕ) → other ≢ class → status_of e other ≡ status_of st.environment other) →
        source_of e class ≡ option_or (source_of st.environment class) source →
        ((other : List ℕ) → other ≢ class → source_of e other ≡ source_of st.environment other) →
        ((path text : List ℕ) → mark_of e path text ≡ mark_of st.environment path text) →
        Keeps s (record st { environment = e }) (Raised everywhere class to source ∷ h)
    unfolding shared_in
    keeps_raised status other_statuses given other_sources marks =
        let counts = counts_same s st h (Raised everywhere class to source ∷ h) refl (λ _. refl) refl refl refl keeps.1.1.1.1 in
        (raised_status status other_statuses, (raised_source given other_sources, (λ path text. marks path text ∙ keeps.1.1.0 path text, (keeps.1.1.1.0, counts))))

  -- ---- instances that are listed

  module _ (instance : Instance) (to : Status) where
    listed_here : (path text : List ℕ) → is_named path text instance ≡ true → mark_in (Listed instance to ∷ h) path text ≡ greater to (mark_in h path text)
    listed_here path text same = rw (same, mark_in) refl

    listed_elsewhere : (path text : List ℕ) → is_named path text instance ≡ false → mark_in (Listed instance to ∷ h) path text ≡ mark_in h path text
    listed_elsewhere path text differ = rw (differ, mark_in) refl

    marked : (at key : List ℕ) → at ≡ instance.path → key ≡ instance.text →
        mark_of e at key ≡ greater (mark_of st.environment at key) to →
        ((other_path other_text : List ℕ) → ¬ ((other_path ≡ at) × (other_text ≡ key)) → mark_of e other_path other_text ≡ mark_of st.environment other_path other_text) →
        (path text : List ℕ) → mark_of e path text ≡ mark_in (Listed instance to ∷ h) path text
    marked at key is_path is_text becomes others path text =
        let before = mark_of st.environment in
        elim (is_named path text instance) as (λ b. is_named path text instance ≡ b → mark_of e path text ≡ mark_in (Listed instance to ∷ h) path text) [
          | true ↦ λ same.
              let both = and_parts (bytes_eq instance.path path) (bytes_eq instance.text text) same in
              let path_is : at ≡ path = is_path ∙ is_same instance.path path both.0 in
              let text_is : key ≡ text = is_text ∙ is_same instance.text text both.1 in
              ap (λ p. mark_of e p text) (sym path_is) ∙ ap (mark_of e at) (sym text_is) ∙ becomes
              ∙ ap (λ p. greater (before p key) to) path_is ∙ ap (λ t. greater (before path t) to) text_is
              ∙ ap (λ m. greater m to) (keeps.1.1.0 path text) ∙ greater_turned (mark_in h path text) to ∙ sym (listed_here path text same)
          | false ↦ λ differ.
              others path text (λ both.
              false≢true (sym differ ∙ ap (λ b. b && bytes_eq instance.text text) (ap (bytes_eq instance.path) (both.0 ∙ is_path) ∙ same_text instance.path)
              ∙ ap (bytes_eq instance.text) (both.1 ∙ is_text) ∙ same_text instance.text))
              ∙ keeps.1.1.0 path text ∙ sym (listed_elsewhere path text differ)
        ] refl

    pub keeps_listed : (calls : Option (TextMap Wait)) (log : Option Rows) (at key : List ℕ) → at ≡ instance.path → key ≡ instance.text →
        mark_of e at key ≡ greater (mark_of st.environment at key) to →
        ((other_path other_text : List ℕ) → ¬ ((other_path ≡ at) × (other_text ≡ key)) → mark_of e other_path other_text ≡ mark_of st.environment other_path other_text) →
        ((class : List ℕ) → status_of e class ≡ status_of st.environment class) →
        ((class : List ℕ) → source_of e class ≡ source_of st.environment class) →
        KeepsWaits s calls (Listed instance to ∷ h) → KeepsLog s log (Listed instance to ∷ h) →
        Keeps s (record st { environment = e; calls = calls; log = log }) (Listed instance to ∷ h)
    unfolding shared_in
    keeps_listed calls log at key is_path is_text becomes others statuses sources waits logs = (
      λ class. statuses class ∙ keeps.0 class,
      (λ class. sources class ∙ keeps.1.0 class, (marked at key is_path is_text becomes others, (keeps.1.1.1.0, (keeps.1.1.1.1.0, (waits, logs))))),
    )

-- ---- at first

log_first : (s : Setting) (is_logged : Bool) → KeepsLog s (first_log is_logged) []
log_first s true = (refl, (refl, refl))
log_first s false = tt

pub keeps_first : (s : Setting) (st : State) → ((class : List ℕ) → status_of st.environment class ≡ from_start s class) →
    ((class : List ℕ) → source_of st.environment class ≡ None) → ((path text : List ℕ) → mark_of st.environment path text ≡ No) →
    st.shared ≡ map (λ name. (name, [])) (shared_names s.policy) → st.left ≡ most_visits → st.calls ≡ None → (is_logged : Bool) → st.log ≡ first_log is_logged → Keeps s st []
unfolding shared_in
keeps_first s st statuses sources marks shared left none is_logged log = (
  λ class. statuses class ∙ sym (greater_No (from_start s class)),
  (
    sources,
    (
      marks,
      (
        shared,
        (
          omega arith,
          (
            λ path. ap (λ (x : Option (TextMap Wait)). wait_at x path) none,
            subst (λ (x : Option Rows). KeepsLog s x []) (sym log) (log_first s is_logged),
          ),
        ),
      ),
    ),
  ),
)
