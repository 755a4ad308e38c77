-- What instances wait for stays so over each event of another path, and over promises that have no instances.
use Rattle.std.proofs.Common.{◌≡◌, ℕ, Bool, true, false, cond, List, [], ◌∷◌, ◌++◌, Option, Some, None, inl, inr, refl, sym, ap, subst, ◌∙◌, append-nil}
use Rattle.std.specs.Prelude.{◌&&◌}
use Rattle.std.specs.Str.{bytes_eq}
use Rattle.cfa_base.specs.TextMaps.{TextMap, text_cmp}
use Rattle.cfa_statuses.specs.declared.levels.Status.{Status}
use Rattle.cfa_statuses.specs.declared.levels.Status.TheVariants.{No, Maybe, Yes}
use Rattle.cfa_resolve.specs.declared.instances.Instance.{Instance}
use Rattle.cfa_vars.specs.declared.scoping.Datum.{Datum}
use Rattle.cfa_states.specs.declared.waits.Wait.{Wait}
use Rattle.cfa_states.specs.declared.walks.Blame.{Blame}
use Rattle.cfa_states.specs.History.{History, Home, Begun, Listed}
use Rattle.cfa_states.specs.Kept.{KeepsWaits, KeepsLog, wait_at}
use Rattle.cfa_states.specs.Logs.{Rows, logged_visit, logged_blames}
use Rattle.cfa_states.specs.Numbered.{Numbered}
use Rattle.cfa_states.specs.Views.{Setting}
use Rattle.cfa_states.specs.Waits.{is_first, is_call_to, waits_in, wait_of_call}
use Rattle.cfa_states.specs.Walks.{with_first, listing_by, listed_instances, listings, own_unsettled, edits_unsettled}
use Rattle.std.specs.FinMap as finite
use Rattle.std.specs.Cmp.Lexicographic.{nat_list_cmp_total}
use Rattle.std.proofs.lemmas.Map.Text.{is_eq-slice_cmp}
use Rattle.cfa_base.specs.lemmas.TextMaps.{get-put}
use Rattle.cfa_base.specs.lemmas.EqualTexts.{texts_turned}
use Rattle.cfa_states.specs.lemmas.Keeping.{IsIdle}

-- ---- activations that begin

pub no_waits : (s : Setting) (h : History) (at : List ℕ) (given : List Datum) (path : List ℕ) → bytes_eq at path ≡ true → waits_in s (Begun at given ∷ h) path ≡ None
no_waits s h at given path same = rw (same, waits_in) refl

-- ---- what is kept at paths

pub none_at : (m : TextMap Wait) (old : Option (TextMap Wait)) (path : List ℕ) → m ≡ finite.empty → old ≡ None → finite.get m path ≡ wait_at old path
none_at m old path is none = ap (λ (x : TextMap Wait). finite.get x path) is ∙ (finite.get-empty text_cmp path ∙ ap (λ (o : Option (TextMap Wait)). wait_at o path) (sym none))

module _ (m : TextMap Wait) (old : Option (TextMap Wait)) (same : (path : List ℕ) → finite.get m path ≡ wait_at old path) (key path : List ℕ) (is : key ≡ path) (m' : TextMap Wait)
    (waits : Option Wait) (other : List ℕ) where
  pub wait_put : (wait : Wait) → waits ≡ Some wait → m' ≡ finite.insert m key wait → finite.get m' other ≡ cond (bytes_eq path other) waits (wait_at old other)
  wait_put wait some put =
      ap (λ (x : TextMap Wait). finite.get x other) put
      ∙ (get-put m key wait other
      ∙ (ap (λ (k : List ℕ). cond (bytes_eq k other) (Some wait) (finite.get m other)) is
      ∙ (ap (λ (o : Option Wait). cond (bytes_eq path other) (Some wait) o) (same other)
      ∙ ap (λ (o : Option Wait). cond (bytes_eq path other) o (wait_at old other)) (sym some))))

  pub wait_removed : waits ≡ None → m' ≡ finite.remove m key → finite.get m' other ≡ cond (bytes_eq path other) waits (wait_at old other)
  wait_removed none removed =
      ap (λ (x : TextMap Wait). finite.get x other) removed
      ∙ (finite.get-remove nat_list_cmp_total m key other
      ∙ (ap (λ (b : Bool). cond b None (finite.get m other)) (is_eq-slice_cmp other key ∙ texts_turned other key)
      ∙ (ap (λ (k : List ℕ). cond (bytes_eq k other) None (finite.get m other)) is
      ∙ (ap (λ (o : Option Wait). cond (bytes_eq path other) None o) (same other)
      ∙ ap (λ (o : Option Wait). cond (bytes_eq path other) o (wait_at old other)) (sym none)))))

-- ---- visits

wait_listed : (s : Setting) (h : History) (instance : Instance) (status : Status) (path : List ℕ) →
    cond (is_first h instance && is_call_to path instance) (waits_in s h instance.path) (wait_of_call s h path) ≡ wait_of_call s (Listed instance status ∷ h) path
wait_listed s h instance status path =
    elim (is_first h instance && is_call_to path instance) as (λ b. (is_first h instance && is_call_to path instance) ≡ b → cond b (waits_in s h instance.path) (wait_of_call s h path) ≡ wait_of_call s (Listed instance status ∷ h) path) [
      | true ↦ λ e. rw (e, wait_of_call) refl
      | false ↦ λ e. rw (e, wait_of_call) refl
    ] refl

pub waits_listed : (s : Setting) (h : History) (instance : Instance) (status : Status) (calls calls' : Option (TextMap Wait)) (first : Bool) (waits : Option Wait) →
    first ≡ is_first h instance → waits ≡ waits_in s h instance.path → KeepsWaits s calls h →
    ((path : List ℕ) → wait_at calls' path ≡ cond (first && is_call_to path instance) waits (wait_at calls path)) → KeepsWaits s calls' (Listed instance status ∷ h)
waits_listed s h instance status calls calls' first waits is same keeps becomes = λ path.
    becomes path
    ∙ (ap (λ (b : Bool). cond (b && is_call_to path instance) waits (wait_at calls path)) is
    ∙ (ap (λ (w : Option Wait). cond (is_first h instance && is_call_to path instance) w (wait_at calls path)) same
    ∙ (ap (λ (w : Option Wait). cond (is_first h instance && is_call_to path instance) (waits_in s h instance.path) w) (keeps path) ∙ wait_listed s h instance status path)))

pub log_listed : (s : Setting) (h : History) (instance : Instance) (status : Status) (log : Option Rows) (first : Bool) (waits : Option Wait) →
    first ≡ is_first h instance → waits ≡ waits_in s h instance.path → KeepsLog s log h → KeepsLog s (logged_visit instance status first waits log) (Listed instance status ∷ h)
log_listed s h instance status None first waits is same keeps = tt
log_listed s h instance status (Some rows) first waits is same keeps = (
  ap (with_first first instance) keeps.0 ∙ ap (λ (b : Bool). with_first b instance (listed_instances h)) is,
  (
    ap (λ x. x ++ listing_by instance status first waits ∷ []) keeps.1.0
        ∙ (ap (λ (b : Bool). listings s h ++ listing_by instance status b waits ∷ []) is
        ∙ ap (λ (w : Option Wait). listings s h ++ listing_by instance status (is_first h instance) w ∷ []) same),
    keeps.1.1,
  ),
)

-- ---- what is unsettled

pub logged_none : (log : Option Rows) → logged_blames [] log ≡ log
logged_none None = refl
logged_none (Some rows) = ap (λ (x : List Blame). Some (rows.0, rows.1, x)) (append-nil rows.2)

-- a promise that has no instances has no edit bundle
pub no_edits : (s : Setting) (h : History) (home : Home) (p : Numbered) (guard : Status) → IsIdle p guard → edits_unsettled s h home p guard ≡ []
no_edits s h home p guard (inl none) = subst (λ (g : Status). edits_unsettled s h home p g ≡ []) (sym none) refl
no_edits s h home p No (inr idle) = refl
no_edits s h home p Maybe (inr idle) = rw (idle, edits_unsettled) refl
no_edits s h home p Yes (inr idle) = rw (idle, edits_unsettled) refl

-- nothing but a vars promise is unsettled by itself
none_own : (s : Setting) (h : History) (home : Home) (p : Numbered) (guard : Status) → own_unsettled s h home p guard false ≡ []
none_own s h home p No = refl
none_own s h home p Maybe = refl
none_own s h home p Yes = refl

pub none_unsettled : (s : Setting) (h : History) (home : Home) (p : Numbered) (guard : Status) → IsIdle p guard → [] ≡ own_unsettled s h home p guard false ++ edits_unsettled s h home p guard
none_unsettled s h home p guard idle =
    sym (ap (λ (x : List Blame). x ++ edits_unsettled s h home p guard) (none_own s h home p guard) ∙ no_edits s h home p guard idle)
