-- What is kept of a history where an activation begins and where a promise is reached.
use Rattle.std.proofs.Common.{◌≡◌, ℕ, false, List, [], ◌∷◌, map, Some, refl, sym, ap, ◌∙◌, zero, suc, Bool, ◌++◌, Option, None, ◌⊎◌, inl, inr, subst, ◌+◌, ◌-◌, ◌≤◌, arith}
use Rattle.std.specs.Prelude.{slice_get, slice_set, ◌&&◌}
use Rattle.std.specs.Str.{bytes_eq}
use Rattle.std.proofs.lemmas.Bool.{or_parts}
use Rattle.cfa_base.specs.lemmas.EqualTexts.{texts_turned}
use Rattle.cfa_base.specs.Index.{is_listed}
use Rattle.std.proofs.Math.Bool.{and-false}
use Rattle.cfa_statuses.specs.declared.levels.Status.{Status}
use Rattle.cfa_statuses.specs.declared.levels.Status.TheVariants.{No, Maybe, Yes}
use Rattle.cfa_resolve.specs.Resolution.{is_acting}
use Rattle.cfa_vars.specs.declared.scoping.Datum.{Datum}
use Rattle.cfa_states.specs.declared.walks.Blame.{Blame}
use Rattle.cfa_states.specs.History.{History, Home, Begun, Reached, scope_in, visits_in}
use Rattle.cfa_states.specs.Kept.{KeepsLog, Keeps, KeepsWaits}
use Rattle.cfa_states.specs.Logs.{Rows, logged_blames}
use Rattle.cfa_states.specs.Numbered.{Numbered}
use Rattle.cfa_states.specs.Views.{Setting, shared_names, shared_in}
use Rattle.cfa_states.specs.Waits.{waits_in, wait_of_call}
use Rattle.cfa_states.specs.Walks.{own_unsettled, edits_unsettled, unsettled_promises, listed_instances, listings}
use Rattle.cfa_tree.specs.Tree.{PolicyTree}
use Rattle.cfa_states.specs.declared.states.State.{State}
use Rattle.cfa_states.specs.Passes.{most_visits}
use Rattle.cfa_states.specs.lemmas.Locals.{other_begun}

-- ---- each name stands once

-- no name stands again behind it
abbrev pub IsOnce : List (List ℕ) → Type 0
IsOnce [] = Unit {0}
IsOnce (name ∷ names) = (is_listed names name ≡ false) × IsOnce names

-- ---- what stands under the names

not_there : (names : List (List ℕ)) (place : ℕ) (path name : List ℕ) → slice_get names place ≡ Some path → is_listed names name ≡ false → bytes_eq path name ≡ false
not_there [] place path name at new = absurd (cc)
not_there (other ∷ names) zero path name at new =
    let is : other ≡ path = cc in
    ap (λ n. bytes_eq n name) (sym is) ∙ (or_parts (bytes_eq other name) (is_listed names name) new).0
not_there (other ∷ names) (suc place) path name at new = not_there names place path name at (or_parts (bytes_eq other name) (is_listed names name) new).1

abbrev pair : {T : Type 0} → List ℕ → T → List ℕ × T
pair name t = (name, t)

abbrev pub with_its : {T : Type 0} → (List ℕ → T) → List ℕ → List ℕ × T
with_its f name = (name, f name)

module _ {T : Type 0} (path : List ℕ) (f g : List ℕ → T) (others : (name : List ℕ) → bytes_eq path name ≡ false → g name ≡ f name) where
  -- what no name of these has changed is as it was
  pub as_it_was : (names : List (List ℕ)) → is_listed names path ≡ false → map (with_its g) names ≡ map (with_its f) names
  as_it_was [] new = refl
  as_it_was (name ∷ names) new =
      let both = or_parts (bytes_eq name path) (is_listed names path) new in
      ap (λ t. pair name t ∷ map (with_its g) names) (others name (texts_turned path name ∙ both.0))
      ∙ ap (λ rest. with_its f name ∷ rest) (as_it_was names both.1)

  -- what is changed under one name is changed in its place
  pub set_in_place : (names : List (List ℕ)) (place : ℕ) → IsOnce names → slice_get names place ≡ Some path →
      slice_set (map (with_its f) names) place (with_its g path) ≡ map (with_its g) names
  set_in_place [] place once at = absurd (cc)
  set_in_place (name ∷ names) zero once at =
      let is : name ≡ path = cc in
      ap (λ n. with_its g n ∷ map (with_its f) names) (sym is)
      ∙ ap (λ rest. with_its g name ∷ rest) (sym (as_it_was names (ap (is_listed names) (sym is) ∙ once.0)))
  set_in_place (name ∷ names) (suc place) once at =
      ap (λ rest. with_its f name ∷ rest) (set_in_place names place once.1 at)
      ∙ ap (λ t. pair name t ∷ map (with_its g) names) (sym (others name (not_there names place path name at once.0)))

-- ---- promises that are reached

-- its instances aren't visited: its guard isn't set, or it has none
abbrev pub IsIdle : Numbered → (guard : Status) → Type 0
IsIdle p guard = (guard ≡ No) ⊎ (is_acting p.type ≡ false)

module _ (s : Setting) (home : Home) (p : Numbered) (sets : Bool) (visits : ℕ) (h : History) (path : List ℕ) where
  waits_skip : (guard : Status) → (is_acting p.type && bytes_eq home.path path) ≡ false → waits_in s (Reached home p guard sets visits ∷ h) path ≡ waits_in s h path
  waits_skip No e = refl
  waits_skip Maybe e = rw (e, waits_in) refl
  waits_skip Yes e = rw (e, waits_in) refl

  pub waits_idle : (guard : Status) → IsIdle p guard → waits_in s (Reached home p guard sets visits ∷ h) path ≡ waits_in s h path
  waits_idle guard (inl none) = subst (λ (g : Status). waits_in s (Reached home p g sets visits ∷ h) path ≡ waits_in s h path) (sym none) refl
  waits_idle guard (inr idle) = waits_skip guard (ap (λ (b : Bool). b && bytes_eq home.path path) idle)

  pub waits_elsewhere : (guard : Status) → bytes_eq home.path path ≡ false → waits_in s (Reached home p guard sets visits ∷ h) path ≡ waits_in s h path
  waits_elsewhere guard differ = waits_skip guard (ap (λ (b : Bool). is_acting p.type && b) differ ∙ and-false (is_acting p.type))

-- ---- activations that begin

pub waits_begun : (s : Setting) (h : History) (at : List ℕ) (given : List Datum) (path : List ℕ) → bytes_eq at path ≡ false → waits_in s (Begun at given ∷ h) path ≡ waits_in s h path
waits_begun s h at given path differ = rw (differ, waits_in) refl

-- ---- what is unsettled

pub log_reached : (s : Setting) (h : History) (home : Home) (p : Numbered) (guard : Status) (sets : Bool) (visits : ℕ) (log : Option Rows) (blames : List Blame) →
    blames ≡ own_unsettled s h home p guard sets ++ edits_unsettled s h home p guard → KeepsLog s log h → KeepsLog s (logged_blames blames log) (Reached home p guard sets visits ∷ h)
log_reached s h home p guard sets visits None blames is keeps = tt
log_reached s h home p guard sets visits (Some rows) blames is keeps =
    (keeps.0, (keeps.1.0, ap (λ (x : List Blame). x ++ blames) keeps.1.1 ∙ ap (λ (x : List Blame). unsettled_promises s h ++ x) is))

-- ---- what is counted, waited for and listed

log_same : (s : Setting) (log : Option Rows) (h k : History) → listed_instances k ≡ listed_instances h → listings s k ≡ listings s h → unsettled_promises s k ≡ unsettled_promises s h →
    KeepsLog s log h → KeepsLog s log k
log_same s None h k instances visits unsettled keeps = tt
log_same s (Some rows) h k instances visits unsettled keeps = (keeps.0 ∙ sym instances, (keeps.1.0 ∙ sym visits, keeps.1.1 ∙ sym unsettled))

abbrev pub KeepsCounts : Setting → State → History → Type 0
KeepsCounts s st h = (st.left + visits_in h ≡ most_visits) × (KeepsWaits s st.calls h × KeepsLog s st.log h)

pub counts_same : (s : Setting) (st : State) (h k : History) → visits_in k ≡ visits_in h → ((path : List ℕ) → wait_of_call s k path ≡ wait_of_call s h path) →
    listed_instances k ≡ listed_instances h → listings s k ≡ listings s h → unsettled_promises s k ≡ unsettled_promises s h → KeepsCounts s st h → KeepsCounts s st k
counts_same s st h k visits waits instances visited unsettled keeps =
    (ap (λ (n : ℕ). st.left + n) visits ∙ keeps.0, (λ path. keeps.1.0 path ∙ sym (waits path), log_same s st.log h k instances visited unsettled keeps.1.1))

-- ---- events that touch nothing of it

-- visits that are counted
pub keeps_reached : (s : Setting) (st : State) (h : History) (home : Home) (promise : Numbered) (guard : Status) (sets : Bool) (visits : ℕ) (blames : List Blame) →
    visits ≤ st.left → blames ≡ own_unsettled s h home promise guard sets ++ edits_unsettled s h home promise guard →
    Keeps s st h → Keeps s (record st { left = st.left - visits; log = logged_blames blames st.log }) (Reached home promise guard sets visits ∷ h)
unfolding shared_in
keeps_reached s st h home promise guard sets visits blames enough is keeps =
    let counted = keeps.1.1.1.1.0 in
    (keeps.0, (keeps.1.0, (keeps.1.1.0, (keeps.1.1.1.0, (omega arith, (keeps.1.1.1.1.1.0, log_reached s h home promise guard sets visits st.log blames is keeps.1.1.1.1.1.1))))))

-- ---- scopes that aren't shared

pub shared_begun : (policy : PolicyTree) (h : History) (path : List ℕ) (arguments : List Datum) → is_listed (shared_names policy) path ≡ false →
    shared_in policy (Begun path arguments ∷ h) ≡ shared_in policy h
unfolding shared_in
shared_begun policy h path arguments own =
    as_it_was path (scope_in h) (scope_in (Begun path arguments ∷ h)) (other_begun path arguments h) (shared_names policy) own

pub keeps_begun : (s : Setting) (st : State) (h : History) (path : List ℕ) (arguments : List Datum) → is_listed (shared_names s.policy) path ≡ false →
    Keeps s st h → Keeps s st (Begun path arguments ∷ h)
keeps_begun s st h path arguments own keeps =
    let counts = counts_same s st h (Begun path arguments ∷ h) refl (λ _. refl) refl refl refl keeps.1.1.1.1 in
    (keeps.0, (keeps.1.0, (keeps.1.1.0, (keeps.1.1.1.0 ∙ sym (shared_begun s.policy h path arguments own), counts))))
