-- A promise that has instances: its visits are counted.
use Rattle.std.proofs.Common.{◌≡◌, ℕ, Bool, true, List, ◌∷◌, refl, ap, ◌∙◌, ◌+◌, ◌≤◌, ◌<◌, false, ◌++◌, length, filter_map, Option, Some, All, IsTrue, inl, inr, sym, subst, arith}
use Rattle.std.specs.Prelude.{◌&&◌, nat_le, Result, Ok, Err, IsErrOf}
use Rattle.std.specs.Str.{bytes_eq}
use Rattle.cfa_statuses.specs.declared.levels.Status.{Status}
use Rattle.cfa_statuses.specs.declared.levels.Status.TheVariants.{No, Maybe, Yes}
use Rattle.cfa_resolve.specs.Resolution.{is_acting, IsBuiltFor, resolution, reached_at}
use Rattle.cfa_states.specs.History.{History, Home, Reached, Event, within, visits_in, global_source}
use Rattle.cfa_states.specs.Numbered.{Numbered}
use Rattle.cfa_states.specs.Views.{Setting, Home, scopes_in, global_status, reached_in_history}
use Rattle.cfa_states.specs.Waits.{waits_in, waits_by}
use Rattle.cfa_base.specs.lemmas.EqualTexts.{same_text}
use Rattle.std.proofs.Math.Path.{fun_ext}
use Rattle.std.proofs.lemmas.Bool.{le-leb, lt-leb}
use Rattle.std.proofs.lemmas.List.Elements.{All-weaker}
use Rattle.cfa_base.specs.Shown.{Shown}
use Rattle.cfa_base.specs.declared.places.PromiseId.{PromiseId}
use Rattle.cfa_outcomes.specs.Environments.{source_of}
use Rattle.cfa_statuses.specs.Raised.{Raised as Statuses, status_in}
use Rattle.cfa_output.specs.declared.ends.Stop.{Stop}
use Rattle.cfa_output.specs.declared.ends.Stop.TheVariants.{Outside, Memory, Visits, Pattern}
use Rattle.cfa_resolve.specs.declared.instances.Instance.{Instance}
use Rattle.cfa_resolve.specs.declared.instances.ResolveErr.{ResolveErr}
use Rattle.cfa_resolve.specs.declared.instances.ResolveErr.TheVariants.{TooLarge, PatternTooBig, NoMemory}
use Rattle.cfa_resolve.specs.declared.instances.Resolved.{Resolved}
use Rattle.cfa_resolve.specs.Viewed.{too_big_in}
use Rattle.cfa_resolve.specs.Laws.{IsInstanceOf}
use Rattle.cfa_resolve.specs.Instances.{Reached as ReachedAt}
use Rattle.cfa_schema.specs.Laws.{IsCounted}
use Rattle.cfa_scripts.specs.declared.blaming.Unsettled.{Unsettled}
use Rattle.cfa_tree.specs.Tree.{PolicyTree}
use Rattle.cfa_vars.specs.Scopes.{InScope}
use Rattle.cfa_states.specs.declared.states.State.{State}
use Rattle.cfa_states.specs.declared.activations.Activation.{Activation}
use Rattle.cfa_states.specs.declared.waits.Wait.{Wait}
use Rattle.cfa_states.specs.declared.walks.Blame.{Blame}
use Rattle.cfa_states.specs.Logs.{logged_blames}
use Rattle.cfa_states.specs.Walks.{blame_edit, own_unsettled, edits_unsettled}
use Rattle.cfa_states.specs.Kept.{Stands, SpareShorter, home_of, scope_at, AreLater, reached_now, scopes_now}
use Rattle.cfa_states.specs.Levels.{GoesTo, IsTooLarge, is_quiet, Faults, StandsAt, LevelDone, PatternsAre, Ends}
use Rattle.cfa_states.specs.Builds.{BuiltOn, BuiltWhere}
use Rattle.cfa_states.specs.Passes.{Course, within_limit, most_visits, calls_of, instances_from}
use Rattle.cfa_visits.specs.Counting.{counted_in, resolution_at, reached_event, Counts, IsAt, stop_of}
use Rattle.cfa_states.specs.Tellers.{Teller}
use Rattle.cfa_base.specs.Patterns.{SizeRefusal}
use Rattle.cfa_states.specs.lemmas.Built.{size_refused, built_where, calls_kept, instances_kept, limited_kept}
use Rattle.cfa_states.specs.lemmas.Courses.{goes_weaker, fits, exceeds}
use Rattle.cfa_states.specs.lemmas.Spared.{spare_then, spare_reached}
use Rattle.cfa_states.specs.lemmas.Scopes.{scopes_are}
use Rattle.cfa_states.specs.lemmas.Keeping.{keeps_reached}
use Rattle.cfa_states.specs.lemmas.Later.{here_by, later_by, later_same}
use Rattle.cfa_states.specs.lemmas.Locals.{local_waits}

-- ---- promises that are reached

here : {acting : Bool} (path : List ℕ) → acting ≡ true → (acting && bytes_eq path path) ≡ true
here path is = ap (λ (b : Bool). b && bytes_eq path path) is ∙ same_text path

-- its instances are visited next
pub waits_here : (s : Setting) (home : Home) (p : Numbered) (sets : Bool) (visits : ℕ) (h : History) (guard : Status) → (guard ≡ No → ⊥) → is_acting p.type ≡ true →
    waits_in s (Reached home p guard sets visits ∷ h) home.path ≡ waits_by s h home.path guard p.promise.guard
waits_here s home p sets visits h No set acting = absurd (set refl)
waits_here s home p sets visits h Maybe set acting = rw (here home.path acting, waits_in) refl
waits_here s home p sets visits h Yes set acting = rw (here home.path acting, waits_in) refl

-- ---- what was counted

-- the edit bundle of a promise that has instances
edits_are : (s : Setting) (h : History) (home : Home) (p : Numbered) (guard : Status) → (guard ≡ No → ⊥) → IsTrue (is_acting p.type) →
    filter_map (blame_edit (global_source h)) (resolution_at s home p h).unsettled ≡ own_unsettled s h home p guard false ++ edits_unsettled s h home p guard
edits_are s h home p No set acting = absurd (set refl)
edits_are s h home p Maybe set acting = rw (acting, edits_unsettled) refl
edits_are s h home p Yes set acting = rw (acting, edits_unsettled) refl

-- what a promise is reached at, by what is kept
abbrev pub seen_at : PolicyTree → Numbered → InScope → Statuses → (path : List ℕ) → ReachedAt
seen_at policy p scopes statuses path = reached_at policy p.id scopes (status_in statuses) path (p.type, p.promise)

module _ (policy : PolicyTree) (p : Numbered) (scopes : InScope) (statuses : Statuses) (st : State) (a : Activation)
    (sees : (s : Setting) (h : History) → Stands s st a h → scopes ≡ scopes_in s h (home_of a)) (global : statuses ≡ st.environment.statuses) where
  reached_is : (s : Setting) (home : Home) (status : Status) (h : History) → StandsAt policy s home status st a h →
      seen_at policy p scopes statuses a.path ≡ reached_in_history s h home p.type p
  reached_is s home status h stands =
      let its : Home = home_of a in
      ap (λ (x : InScope). reached_at policy p.id x (status_in statuses) a.path (p.type, p.promise)) (sees s h stands.1.1.1)
      ∙ (ap (λ (x : Statuses). reached_at policy p.id (scopes_in s h its) (status_in x) a.path (p.type, p.promise)) global
      ∙ (ap (λ (x : List ℕ → Status). reached_at policy p.id (scopes_in s h its) x a.path (p.type, p.promise)) (fun_ext stands.1.1.1.0.0)
      ∙ (ap (λ (x : Home). reached_at policy p.id (scopes_in s h x) (global_status s h) x.path (p.type, p.promise)) stands.1.0
      ∙ ap (λ (x : PolicyTree). reached_at x p.id (scopes_in s h home) (global_status s h) home.path (p.type, p.promise)) (sym stands.0))))

  seen_is : (s : Setting) (home : Home) (status : Status) (h : History) → StandsAt policy s home status st a h →
      resolution (seen_at policy p scopes statuses a.path) ≡ resolution_at s home p h
  seen_is s home status h stands = ap resolution (reached_is s home status h stands)

  -- a pattern that its edit bundle builds
  pub too_big : (guard : Status) → (guard ≡ No → ⊥) → (text : List ℕ) (st' : State) (a1 : Activation) (refused : Option (List ℕ)) (pats pats' : Shown (List (List ℕ))) →
      refused ≡ Some text → SizeRefusal (IsBuiltFor (seen_at policy p scopes statuses a.path)) refused pats pats' →
      Counts policy p guard st st' a a1 (Err (Pattern text))
  too_big guard set text st' a1 refused pats pats' is refusal = λ s home status h stands.
      let built : IsBuiltFor (seen_at policy p scopes statuses a.path) text =
      size_refused (IsBuiltFor (seen_at policy p scopes statuses a.path)) refused text pats pats' is refusal in
      built_where s text guard h home p set (inr (subst (λ (r : ReachedAt). IsBuiltFor r text) (reached_is s home status h stands) built))

  pub counted : (guard : Status) → (guard ≡ No → ⊥) → IsTrue (is_acting p.type) → (resolved : Resolved) (waits : Option Wait) (st' : State) →
      resolved ≡ resolution (seen_at policy p scopes statuses a.path) → resolved.visits ≤ st.left →
      ((s : Setting) (h : History) → Stands s st a h → waits ≡ waits_by s h a.path guard p.promise.guard) →
      st' ≡ counted_in resolved st →
      Counts policy p guard st st' a (record a { waits = waits }) (Ok resolved.instances)
  counted guard set acting resolved waits st' is enough waiting counts = λ s home status h stands.
      let r : Resolved = resolution_at s home p h in
      let same : resolved ≡ r = is ∙ seen_is s home status h stands in
      let fit : r.visits + visits_in h ≤ most_visits =
      subst (λ (x : Resolved). x.visits + visits_in h ≤ most_visits) same (fits st.left resolved.visits (visits_in h) enough stands.1.1.1.0.1.1.1.1.0) in
      let blames : List Blame = filter_map (blame_edit (source_of st.environment)) resolved.unsettled in
      let unsettled : blames ≡ own_unsettled s h home p guard false ++ edits_unsettled s h home p guard =
      ap (λ (x : List ℕ → Option PromiseId). filter_map (blame_edit x) resolved.unsettled) (fun_ext stands.1.1.1.0.1.0)
      ∙ (ap (λ (x : Resolved). filter_map (blame_edit (global_source h)) x.unsettled) same
      ∙ edits_are s h home p guard set acting) in
      let here : waits ≡ waits_in s (Reached home p guard false resolved.visits ∷ h) a.path =
      waiting s h stands.1.1.1
      ∙ (ap (λ (x : Home). waits_by s h x.path guard p.promise.guard) stands.1.0
      ∙ (sym (waits_here s home p false resolved.visits h guard set acting)
      ∙ ap (λ (x : Home). waits_in s (Reached home p guard false resolved.visits ∷ h) x.path) (sym stands.1.0))) in
      let stood : Stands s st' (record a { waits = waits }) (Reached home p guard false resolved.visits ∷ h) =
      subst (λ (x : State). Stands s x (record a { waits = waits }) (Reached home p guard false resolved.visits ∷ h)) (sym counts) (
        keeps_reached s st h home p guard false resolved.visits blames enough unsettled stands.1.1.1.0,
        local_waits s a h home p guard false resolved.visits waits here stands.1.1.1.1,
      ) in (
        ap (λ (x : Resolved). x.instances) same,
        (
          le-leb (r.visits + visits_in h) most_visits fit,
          (stands.0, (stands.1.0, (stands.1.1.0, subst (λ (x : Resolved). Stands s st' (record a { waits = waits }) (reached_event home p guard x h)) same stood))),
        ),
      )

  pub uncounted : (guard : Status) (st' : State) (a1 : Activation) → st.left < (resolution (seen_at policy p scopes statuses a.path)).visits → Counts policy p guard st st' a a1 (Err Visits)
  uncounted guard st' a1 few = λ s home status h stands.
      let r : Resolved = resolution_at s home p h in
      let past : most_visits < r.visits + visits_in h =
      exceeds st.left r.visits (visits_in h) (subst (λ (x : Resolved). st.left < x.visits) (seen_is s home status h stands) few) stands.1.1.1.0.1.1.1.1.0 in
      lt-leb (r.visits + visits_in h) most_visits past

  -- it wasn't resolved
  pub not_resolved : (guard : Status) → (guard ≡ No → ⊥) → (error : ResolveErr) (st' : State) (a1 : Activation) (pats pats' : Shown (List (List ℕ))) →
      (IsErrOf {T = Resolved} (Err error) TooLarge → st.left < (resolution (seen_at policy p scopes statuses a.path)).visits) →
      SizeRefusal (IsBuiltFor (seen_at policy p scopes statuses a.path)) (too_big_in {X = Resolved} (Err error)) pats pats' → Counts policy p guard st st' a a1 (Err (stop_of error))
  not_resolved guard set TooLarge st' a1 pats pats' few refusal = uncounted guard st' a1 (few refl)
  not_resolved guard set (PatternTooBig text) st' a1 pats pats' few refusal = too_big guard set text st' a1 (Some text) pats pats' refl refusal
  not_resolved guard set NoMemory st' a1 pats pats' few refusal = tt

pub refusal_patterns : (Built : List ℕ → Type 0) (error : ResolveErr) (pats pats' : Shown (List (List ℕ))) →
    SizeRefusal Built (too_big_in {X = Resolved} (Err error)) pats pats' → PatternsAre (Err (stop_of error)) pats pats'
refusal_patterns Built TooLarge pats pats' refusal = refusal
refusal_patterns Built (PatternTooBig text) pats pats' refusal = refusal.1
refusal_patterns Built NoMemory pats pats' refusal = refusal

-- what the instances of a promise wait for changes nothing that is read of an activation
pub waiting_later : (st : State) (a : Activation) (waits : Option Wait) → AreLater st st a (record a { waits = waits })
waiting_later st a waits = record { state = later_same st; here = here_by a (record a { waits = waits }) refl refl refl refl refl refl }

-- what is unsettled was noted from a list that is the same
pub noted : (st1 st' : State) (us vs : List Unsettled) → us ≡ vs → st' ≡ record st1 { log = logged_blames (filter_map (blame_edit (source_of st1.environment)) us) st1.log } →
    st' ≡ record st1 { log = logged_blames (filter_map (blame_edit (source_of st1.environment)) vs) st1.log }
noted st1 st' us vs same notes = notes ∙ ap (λ (x : List Unsettled). record st1 { log = logged_blames (filter_map (blame_edit (source_of st1.environment)) x) st1.log }) same

-- its instances are of its activation
pub all_at : (policy : PolicyTree) (p : Numbered) (scopes : InScope) (statuses : Statuses) (path : List ℕ) (resolved : Resolved) →
    resolved ≡ resolution (seen_at policy p scopes statuses path) → IsCounted p.id →
    ((r : ReachedAt) → All (IsInstanceOf r) (resolution r).instances) → All (IsAt path) resolved.instances
all_at policy p scopes statuses path resolved is id named =
    let r : ReachedAt = seen_at policy p scopes statuses path in
    subst (λ (x : Resolved). All (IsAt path) x.instances) (sym is)
    (All-weaker (IsInstanceOf r) (IsAt path) (λ instance of. (of.path, subst (λ (x : PromiseId). IsCounted x) (sym of.source) id)) (resolution r).instances (named r))

-- what its texts may refer to now is what they may by the history
pub scopes_stand : (st : State) (a : Activation) → (s : Setting) (h : History) → Stands s st a h → scopes_now st a ≡ scopes_in s h (home_of a)
scopes_stand st a = λ s h stands. scopes_are s st a h (scope_at st.shared a.place a.own) st.shared stands refl refl

-- counting changes nothing that is read of a state
pub counted_later : (st st' : State) (a : Activation) (waits : Option Wait) (resolved : Resolved) →
    st' ≡ counted_in resolved st → AreLater st st' a (record a { waits = waits })
counted_later st st' a waits resolved counts = record {
  state = later_by st st' (ap (λ (x : State). x.changes) counts) (ap (λ (x : State). x.environment.statuses) counts) (ap (λ (x : State). x.shared) counts);
  here = here_by a (record a { waits = waits }) refl refl refl refl refl refl;
}

-- what a promise is reached at, by what it is looked at with
pub viewed : (policy : PolicyTree) (p : Numbered) (st : State) (a : Activation) (scopes : InScope) (statuses : Statuses) → scopes ≡ scopes_now st a → statuses ≡ st.environment.statuses →
    seen_at policy p scopes statuses a.path ≡ reached_now policy p st a
viewed policy p st a scopes statuses own global =
    ap (λ (x : InScope). seen_at policy p x statuses a.path) own ∙ ap (λ (x : Statuses). seen_at policy p (scopes_now st a) x a.path) global
